-- The polynomials that belong to the ring, by their coefficients.
use Rattle.std.specs.Prelude.{◌≡◌, ℕ, zero, suc, ℤ, pos, List, [], ◌∷◌, refl}
use Rattle.std.proofs.Common.{ap, sym, ◌∙◌}
use Rattle.ring_laws.specs.Meaning.{Meaning, items, listed, parted-joined}
use Rattle.ring_laws.specs.Algebra.{Ops, Algebra, Passing, within, Laws, same_passing}
use Rattle.poly_laws.specs.Lists.{coefficient_at, list_product, trimmed}
use Rattle.poly_laws.specs.PolyAlgebra.{poly_algebra}
use Rattle.poly_laws.specs.Shift.{list_shift}
use Rattle.poly_laws.proofs.Coefficients.{meanings_of, coefficients, meanings-coefficients, meanings-trimmed, trimmed_passes, poly_closed}
use Rattle.poly_laws.proofs.Fitting.{meanings-at, item_at}
use Rattle.poly_laws.proofs.ListLaws.{sum_nought, times_zero, times_suc}
use Rattle.poly_laws.proofs.PolyLaws.{coefficient}
use Rattle.poly_laws.proofs.StepMeanings.{meanings-shift}
use Rattle.poly_laws.proofs.Trimming.{at_trimmed}
use Rattle.division_laws.specs.Polynomials.{coefficient_of}

module _ (a : Algebra) (l : Laws a) where
  abbrev base : Ops (Passing a)
  base = within a l.closed

  -- the operations on the polynomials that belong to the ring
  abbrev pub polynomials : Ops (Passing (poly_algebra a))
  polynomials = within (poly_algebra a) (poly_closed a l.closed)

  -- the coefficients, and the one at a power
  abbrev pub list_of : Passing (poly_algebra a) → List (Passing a)
  list_of x = coefficients a l.closed x

  abbrev pub part : Passing (poly_algebra a) → ℕ → Passing a
  part x k = coefficient a l.closed l.ring x k

  -- the polynomial with these coefficients
  abbrev pub listed_in : (xs : List (Passing a)) (m : List Meaning) → meanings_of a l.closed xs ≡ m → Passing (poly_algebra a)
  listed_in xs m e =
      (listed (trimmed a.ops m), trimmed_passes a l.closed xs (trimmed a.ops m) (meanings-trimmed a l.closed xs ∙ ap (trimmed a.ops) e))

  pub listed_at : (xs : List (Passing a)) (m : List Meaning) (e : meanings_of a l.closed xs ≡ m) (k : ℕ)
      → part (listed_in xs m e) k ≡ coefficient_at base xs k
  listed_at xs m e k =
      same_passing a (part (listed_in xs m e) k) (coefficient_at base xs k)
      (sym (item_at a l.closed l.ring l.magnitudes (listed_in xs m e) k)
      ∙ ap (λ t. coefficient_at a.ops t k) (parted-joined (trimmed a.ops m) ∙ ap (trimmed a.ops) (sym e) ∙ sym (meanings-trimmed a l.closed xs))
      ∙ meanings-at a l.closed l.ring l.magnitudes (trimmed base xs) k
      ∙ ap (λ (t : Passing a). t.0) (at_trimmed base l.ring xs k))

  -- f(k+w)
  abbrev pub shifted_in : ℤ → Passing (poly_algebra a) → Passing (poly_algebra a)
  shifted_in w y =
      listed_in (list_shift base (base.whole w) (list_of y)) (list_shift a.ops (a.ops.whole w) (items y.0))
      (meanings-shift a l (base.whole w) (list_of y) ∙ ap (list_shift a.ops (a.ops.whole w)) (meanings-coefficients a l.closed y))

  pub shifted_at : (w : ℤ) (y : Passing (poly_algebra a)) (k : ℕ)
      → part (shifted_in w y) k ≡ coefficient_at base (list_shift base (base.whole w) (list_of y)) k
  shifted_at w y k =
      listed_at (list_shift base (base.whole w) (list_of y)) (list_shift a.ops (a.ops.whole w) (items y.0))
      (meanings-shift a l (base.whole w) (list_of y) ∙ ap (list_shift a.ops (a.ops.whole w)) (meanings-coefficients a l.closed y)) k

  pub next_at : (y : Passing (poly_algebra a)) (k : ℕ) → part (shifted_in (pos 1) y) k ≡ coefficient_at base (list_shift base base.unit (list_of y)) k
  next_at y k = shifted_at (pos 1) y k ∙ ap (λ t. coefficient_at base (list_shift base t (list_of y)) k) l.ring.whole_one

  -- a value as a polynomial
  abbrev pub constant_in : Passing a → Passing (poly_algebra a)
  constant_in c = listed_in (c ∷ []) (c.0 ∷ []) refl

  pub one_times : (c : Passing a) (ys : List (Passing a)) (k : ℕ) → coefficient_at base (list_product base (c ∷ []) ys) k ≡ base.product c (coefficient_at base ys k)
  one_times c ys zero = times_zero base l.ring c [] ys
  one_times c ys (suc k) = times_suc base l.ring c [] ys k ∙ sum_nought base l.ring (base.product c (coefficient_at base ys (suc k)))

  -- a coefficient that is zero as a meaning is zero as a value, and the other way round
  pub part_nought : (f : Passing (poly_algebra a)) (k : ℕ) → coefficient_of a.ops f.0 k ≡ a.ops.nought → part f k ≡ base.nought
  part_nought f k h = same_passing a (part f k) base.nought (sym (item_at a l.closed l.ring l.magnitudes f k) ∙ h)

  pub nought_part : (f : Passing (poly_algebra a)) (k : ℕ) → part f k ≡ base.nought → coefficient_of a.ops f.0 k ≡ a.ops.nought
  nought_part f k h = item_at a l.closed l.ring l.magnitudes f k ∙ ap (λ (t : Passing a). t.0) h
