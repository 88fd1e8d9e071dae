-- Where a difference is in bounds, so is each step to it: the shift and the subtraction.
use Rattle.std.specs.Prelude.{◌≡◌, ℕ, List, pos, map, refl}
use Rattle.std.proofs.Common.{ap, sym, ◌∙◌, subst}
use Rattle.ring_laws.specs.Meaning.{number, items, parted-joined}
use Rattle.ring_laws.specs.Algebra.{Passing, SumInBounds}
use Rattle.ring_laws.specs.Wholes.{whole_algebra}
use Rattle.ring_laws.specs.WholeLaws.{whole_laws}
use Rattle.poly_laws.specs.Lists.{coefficient_at, list_sum, trimmed}
use Rattle.poly_laws.specs.Shift.{list_shift, poly_shift, ListShiftInBounds}
use Rattle.poly_laws.proofs.Coefficients.{coefficients, meanings-coefficients, meanings-sum, meanings-magnitude, meanings-trimmed}
use Rattle.poly_laws.proofs.Fitting.{meanings-at}
use Rattle.poly_laws.proofs.InBounds.{in_bounds_sums}
use Rattle.poly_laws.proofs.ListLaws.{at_sum}
use Rattle.poly_laws.proofs.ListMagnitudes.{magnitudes_of, at_magnitudes, covers_by, covers_sums, left_part, fits_covered_magnitude}
use Rattle.poly_laws.proofs.ShiftsInBounds.{total_magnitude, shift_covered}
use Rattle.poly_laws.proofs.StepMeanings.{meanings-shift}
use Rattle.poly_laws.proofs.Trimming.{at_trimmed}
use Rattle.whole_roots.specs.Differences.{polynomials, DifferenceInBounds}
use Rattle.whole_roots.proofs.DifferenceLaws.{base, one, means}

module _ (f : Passing polynomials) (h : DifferenceInBounds f.0) where
  abbrev xs : List (Passing whole_algebra)
  xs = coefficients whole_algebra whole_laws.closed f

  abbrev sizes : List (Passing whole_algebra)
  sizes = magnitudes_of base whole_laws.ring whole_laws.magnitudes xs

  abbrev totals : List (Passing whole_algebra)
  totals = list_shift base (base.magnitude one) sizes

  sizes_are : means sizes ≡ map whole_algebra.ops.magnitude (items f.0)
  sizes_are = meanings-magnitude whole_algebra whole_laws.closed xs
      ∙ ap (map whole_algebra.ops.magnitude) (meanings-coefficients whole_algebra whole_laws.closed f)

  shifts_are : means totals ≡ list_shift whole_algebra.ops (number (pos 1)) (map whole_algebra.ops.magnitude (items f.0))
  shifts_are = meanings-shift whole_algebra whole_laws (base.magnitude one) sizes ∙ ap (list_shift whole_algebra.ops (number (pos 1))) sizes_are

  totals_fit : (k : ℕ) → base.Fits (base.sum (coefficient_at base totals k) (coefficient_at base sizes k))
  totals_fit k =
      subst base.Fits (at_sum base whole_laws.ring totals sizes k)
      (subst whole_algebra.ops.Fits
      (ap (λ t. coefficient_at whole_algebra.ops t k) (sym (meanings-sum whole_algebra whole_laws.closed totals sizes
      ∙ (λ i. list_sum whole_algebra.ops (shifts_are i) (sizes_are i))))
      ∙ meanings-at whole_algebra whole_laws.closed whole_laws.ring whole_laws.magnitudes (list_sum base totals sizes) k) (h k))

  sizes_at : (k : ℕ) → coefficient_at base sizes k ≡ base.magnitude (coefficient_at base xs k)
  sizes_at k = at_magnitudes base whole_laws.ring whole_laws.magnitudes xs k

  size_again : (k : ℕ) → base.magnitude (coefficient_at base sizes k) ≡ coefficient_at base sizes k
  size_again k = ap base.magnitude (sizes_at k) ∙ whole_laws.magnitudes.of_magnitude (coefficient_at base xs k) ∙ sym (sizes_at k)

  -- the shift is in bounds
  pub shift_in_bounds : ListShiftInBounds whole_algebra (number (pos 1)) (items f.0)
  shift_in_bounds k =
      subst whole_algebra.ops.Fits (sym (meanings-at whole_algebra whole_laws.closed whole_laws.ring whole_laws.magnitudes totals k)
      ∙ ap (λ t. coefficient_at whole_algebra.ops t k) shifts_are)
      (fits_covered_magnitude base whole_laws.ring whole_laws.magnitudes
      (base.sum (coefficient_at base totals k) (coefficient_at base sizes k))
      (coefficient_at base totals k) (totals_fit k)
      (left_part base whole_laws.ring whole_laws.magnitudes (coefficient_at base totals k) (coefficient_at base sizes k) (size_again k))
      (total_magnitude base whole_laws.ring whole_laws.magnitudes one xs k))

  -- and so is the subtraction
  pub subtraction_in_bounds : (g : Passing polynomials) → g.0 ≡ poly_shift whole_algebra.ops (pos 1) f.0
      → polynomials.ops.Fits g.0 → polynomials.ops.Fits f.0
      → SumInBounds polynomials g.0 f.0
  subtraction_in_bounds g e p q =
      in_bounds_sums whole_algebra whole_laws g f p q
      (λ k _ _.
      subst whole_algebra.ops.Fits (both k)
      (fits_covered_magnitude base whole_laws.ring whole_laws.magnitudes
      (base.sum (coefficient_at base totals k) (coefficient_at base sizes k))
      (base.sum (base.magnitude (shifted k)) (base.magnitude (coefficient_at base xs k))) (totals_fit k)
      (covers_sums base whole_laws.ring whole_laws.magnitudes (coefficient_at base totals k) (base.magnitude (shifted k))
      (coefficient_at base sizes k) (base.magnitude (coefficient_at base xs k))
      (shift_covered base whole_laws.ring whole_laws.magnitudes one xs k)
      (covers_by base whole_laws.ring whole_laws.magnitudes {y = base.magnitude (coefficient_at base xs k)} (sizes_at k) refl
      (whole_laws.magnitudes.covers_same (base.magnitude (coefficient_at base xs k)))))
      (whole_laws.magnitudes.of_sum (shifted k) (coefficient_at base xs k))))
    where
      shifted : ℕ → Passing whole_algebra
      shifted k = coefficient_at base (list_shift base one xs) k

      left : (k : ℕ) → (shifted k).0 ≡ coefficient_at whole_algebra.ops (items g.0) k
      left k =
          ap (λ (v : Passing whole_algebra). v.0) (sym (at_trimmed base whole_laws.ring (list_shift base one xs) k))
          ∙ sym (meanings-at whole_algebra whole_laws.closed whole_laws.ring whole_laws.magnitudes (trimmed base (list_shift base one xs)) k)
          ∙ ap (λ t. coefficient_at whole_algebra.ops t k) (meanings-trimmed whole_algebra whole_laws.closed (list_shift base one xs)
          ∙ ap (trimmed whole_algebra.ops) (meanings-shift whole_algebra whole_laws one xs
          ∙ ap (list_shift whole_algebra.ops (number (pos 1))) (meanings-coefficients whole_algebra whole_laws.closed f))
          ∙ sym (parted-joined _) ∙ ap items (sym e))

      right : (k : ℕ) → (coefficient_at base xs k).0 ≡ coefficient_at whole_algebra.ops (items f.0) k
      right k =
          sym (meanings-at whole_algebra whole_laws.closed whole_laws.ring whole_laws.magnitudes xs k)
          ∙ ap (λ t. coefficient_at whole_algebra.ops t k) (meanings-coefficients whole_algebra whole_laws.closed f)

      both : (k : ℕ) → (base.sum (base.magnitude (shifted k)) (base.magnitude (coefficient_at base xs k))).0
          ≡ whole_algebra.ops.sum (whole_algebra.ops.magnitude (coefficient_at whole_algebra.ops (items g.0) k))
          (whole_algebra.ops.magnitude (coefficient_at whole_algebra.ops (items f.0) k))
      both k = λ i. whole_algebra.ops.sum (whole_algebra.ops.magnitude (left k i)) (whole_algebra.ops.magnitude (right k i))
