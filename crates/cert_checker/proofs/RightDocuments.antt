-- A document whose numbers are small and whose claim is so passes each test, within bounds.
use Rattle.std.proofs.Common.{◌≡◌, ℕ, zero, suc, ◌≤◌, ◌<◌, ◌^◌, List, [], ◌∷◌, length, map, refl, ap, ◌∙◌, arith, lit≤, lit<, negsuc}
use Rattle.std.proofs.lemmas.Int.{ints}
use Rattle.std.proofs.lemmas.List.{length-map}
use Rattle.std.specs.Prelude.{ℤ, pos, ◌+ℤ◌, unsigned_abs, IsTrue}
use Rattle.ring_laws.specs.Meaning.{Meaning, number, items, parted-joined}
use Rattle.ring_laws.specs.Algebra.{SumInBounds, ProductInBounds}
use Rattle.ring_laws.specs.Wholes.{whole_algebra, number_of}
use Rattle.poly_laws.specs.Lists.{list_sum, trimmed}
use Rattle.poly_laws.specs.Shift.{list_shift, ListShiftInBounds}
use Rattle.poly_laws.specs.Values.{level}
use Rattle.poly_laws.proofs.Trimming.{length-trimmed}
use Rattle.poly_laws.proofs.Equal.{level_laws}
use Rattle.poly_laws.proofs.InBounds.{ListsInBounds, in_bounds_sums, in_bounds_product}
use Rattle.poly_generic.proofs.ListLemmas.{length-list_sum}
use Rattle.poly_generic.proofs.EvalAnswers.{length-list_shift}
use Rattle.hypergeometric.specs.TermFacts.{IsPolynomial}
use Rattle.cert_text.specs.Readable.{Contents}
use Rattle.cert_checker.specs.Checks.{next_y, difference, multiple, HasEquation, HasIdentity, AreInBounds}
use Rattle.cert_checker.proofs.Identities.{equation_of}
use Rattle.cert_checker.proofs.SmallCoefficients.{number_at, AreWithin, magnitude_at, sum_at, trimmed_at, scaled_within}
use Rattle.cert_checker.proofs.ShiftedPolynomials.{few_shifted}
use Rattle.poly_laws.proofs.StepMeanings.{shift_passes}

module _ (d : Contents) (poly : IsPolynomial 1 d.poly) (y : IsPolynomial 1 d.y) where
  next_passes : IsTrue ((level 1).passes (next_y d))
  next_passes = shift_passes (level 0) (level_laws 0) (pos 1) (d.y, y.passes)

  -- where the identity holds at each whole point, both sides are one polynomial
  pub equation_of_identity : HasIdentity d → HasEquation d
  equation_of_identity identity =
      equation_of d (difference d) (multiple d) refl refl
      ((level_laws 1).closed.sum (next_y d, next_passes) ((level 1).ops.neg d.y, (level_laws 1).closed.neg (d.y, y.passes)))
      ((level_laws 1).closed.product ((level 1).ops.whole d.multiplier, (level_laws 1).closed.whole d.multiplier) (d.poly, poly.passes)) identity

  -- the coefficients are few and small
  module _ (few : length (items d.y) ≤ 6) (small : AreWithin (2 ^ 31) (items d.y)) where
    magnitudes_within : AreWithin (2 ^ 31) (map whole_algebra.ops.magnitude (items d.y))
    magnitudes_within k = omega (arith, ints, magnitude_at (items d.y) k, small k)

    shift_in_bounds : ListShiftInBounds (level 0) ((level 0).ops.whole (pos 1)) (items d.y)
    shift_in_bounds k =
        omega (arith, few_shifted (map whole_algebra.ops.magnitude (items d.y)) (omega (arith, length-map (items d.y) whole_algebra.ops.magnitude, few)) magnitudes_within k)

    next_items : items (next_y d) ≡ trimmed whole_algebra.ops (list_shift whole_algebra.ops (number (pos 1)) (items d.y))
    next_items = parted-joined (trimmed whole_algebra.ops (list_shift whole_algebra.ops (number (pos 1)) (items d.y)))

    next_within : AreWithin (2 ^ 37) (items (next_y d))
    next_within k =
        let shifted = list_shift whole_algebra.ops (number (pos 1)) (items d.y) in
        omega (arith, ap unsigned_abs (ap (λ xs. number_at xs k) next_items ∙ trimmed_at shifted k), few_shifted (items d.y) few small k)

    sum_in_bounds : SumInBounds (level 1) (next_y d) d.y
    sum_in_bounds = in_bounds_sums (level 0) (level_laws 0) (next_y d, next_passes) (d.y, y.passes)
        (next_few, λ k. omega (arith, next_within k)) y.fits
        (λ k p q. omega (arith, ints, next_within k, small k))
      where
        next_few : length (items (next_y d)) ≤ 256
        next_few = omega (
          arith,
          ap length next_items,
          length-trimmed whole_algebra.ops (list_shift whole_algebra.ops (number (pos 1)) (items d.y)),
          length-list_shift whole_algebra.ops (number (pos 1)) (items d.y),
          few,
        )

  -- the numbers of the polynomial of the term are few and small, and so is the multiplier
  module _ (light : unsigned_abs d.multiplier ≤ 2 ^ 31) (short : length (items d.poly) ≤ 5) (small : AreWithin (2 ^ 31) (items d.poly)) where
    poly_magnitudes : AreWithin (2 ^ 31) (map whole_algebra.ops.magnitude (items d.poly))
    poly_magnitudes k = omega (arith, ints, magnitude_at (items d.poly) k, small k)

    abbrev row : Meaning → List Meaning
    row x = map (whole_algebra.ops.product (whole_algebra.ops.magnitude x)) (map whole_algebra.ops.magnitude (items d.poly))

    multiple_of : (x : Meaning) → unsigned_abs (number_of x) ≤ 2 ^ 31 → ListsInBounds (level 0) (level_laws 0) (x ∷ []) (items d.poly)
    multiple_of x h = (
      (λ k. each k (sum_at (row x) (number (pos 0) ∷ []) k) (nought_at k) (scaled_within (whole_algebra.ops.magnitude x) (map whole_algebra.ops.magnitude (items d.poly)) h poly_magnitudes k)),
      omega (
        arith,
        length-trimmed whole_algebra.ops (list_sum whole_algebra.ops (row x) (number (pos 0) ∷ [])),
        length-list_sum whole_algebra.ops (row x) (number (pos 0) ∷ []),
        length-map (map whole_algebra.ops.magnitude (items d.poly)) (whole_algebra.ops.product (whole_algebra.ops.magnitude x)),
        length-map (items d.poly) whole_algebra.ops.magnitude,
        short,
      ),
    )
      where
        nought_at : (k : ℕ) → number_at (number (pos 0) ∷ []) k ≡ pos 0
        nought_at zero = refl
        nought_at (suc k) = refl

        each : (k : ℕ) → number_at (list_sum whole_algebra.ops (row x) (number (pos 0) ∷ [])) k ≡ number_at (row x) k +ℤ number_at (number (pos 0) ∷ []) k
            → number_at (number (pos 0) ∷ []) k ≡ pos 0 → unsigned_abs (number_at (row x) k) ≤ 2 ^ 62
            → unsigned_abs (number_at (list_sum whole_algebra.ops (row x) (number (pos 0) ∷ [])) k) < 2 ^ 127
        each k whole none within = omega (arith, ints, whole, none, within)

    lists_in_bounds : (m : ℤ) → unsigned_abs m ≤ 2 ^ 31 → ListsInBounds (level 0) (level_laws 0) (items ((level 1).ops.whole m)) (items d.poly)
    lists_in_bounds (pos zero) h = ((λ k. lit< tt), lit≤ tt)
    lists_in_bounds (pos (suc n)) h = multiple_of (number (pos (suc n))) h
    lists_in_bounds (negsuc n) h = multiple_of (number (negsuc n)) h

    product_in_bounds : ProductInBounds (level 1) ((level 1).ops.whole d.multiplier) d.poly
    product_in_bounds = in_bounds_product (level 0) (level_laws 0) ((level 1).ops.whole d.multiplier, (level_laws 1).closed.whole d.multiplier)
        (d.poly, poly.passes) (lists_in_bounds d.multiplier light)

-- a claim of few and small numbers is checked within bounds
pub small_in_bounds : (d : Contents) → IsPolynomial 1 d.poly → IsPolynomial 1 d.y → length (items d.poly) ≤ 5 → AreWithin (2 ^ 31) (items d.poly)
    → unsigned_abs d.multiplier ≤ 2 ^ 31 → length (items d.y) ≤ 6 → AreWithin (2 ^ 31) (items d.y) → AreInBounds d
small_in_bounds d poly y short small_poly light few small = record {
  shift = shift_in_bounds d poly y few small;
  sum = sum_in_bounds d poly y few small;
  product = product_in_bounds d poly y light short small_poly;
}
