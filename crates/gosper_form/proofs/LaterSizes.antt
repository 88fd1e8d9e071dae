-- The shift of the magnitudes of a polynomial in two variables is in bounds where, as one polynomial, it is.
use Rattle.std.proofs.Common.{◌≡◌, ℕ, zero, suc, ◌<◌, ◌^◌, List, [], ◌∷◌, map, refl, ap, sym, ◌∙◌, arith, subst}
use Rattle.std.specs.Prelude.{pos, unsigned_abs}
use Rattle.ring_laws.specs.Meaning.{Meaning, listed, items, parted-joined}
use Rattle.ring_laws.specs.Wholes.{whole_algebra, number_of}
use Rattle.poly_laws.specs.Lists.{coefficient_at}
use Rattle.poly_laws.specs.PolyAlgebra.{poly_ops}
use Rattle.poly_laws.specs.Shift.{list_shift, ListShiftInBounds, InnerShiftInBounds}
use Rattle.poly_laws.specs.Values.{level}
use Rattle.steps.specs.Operations.{of_polynomial, IsInBounds}
use Rattle.gosper_form.specs.PieceSteps.{sizes_at_later_n}

module _ (j : ℕ) where
  abbrev sizes : Meaning → List Meaning
  sizes c = list_shift (level 0).ops ((level 0).ops.whole (pos j)) (map (level 0).ops.magnitude (items c))

  -- the sizes of the coefficient at a power
  sizes_fit : (xs : List Meaning) (k : ℕ) → (level 1).ops.Fits (coefficient_at (level 1).ops (map (λ c. listed (sizes c)) xs) k)
      → ListShiftInBounds whole_algebra (whole_algebra.ops.whole (pos j)) (items (coefficient_at (poly_ops whole_algebra.ops) xs k))
  sizes_fit [] k h i = omega arith
  sizes_fit (x ∷ xs) zero h i = subst (λ ys. (level 0).ops.Fits (coefficient_at (level 0).ops ys i)) (parted-joined (sizes x)) (h.1 i)
  sizes_fit (x ∷ xs) (suc k) h i = sizes_fit xs k h i

pub later_in_bounds : (p : Meaning) (j : ℕ) → IsInBounds (of_polynomial (sizes_at_later_n p j))
    → InnerShiftInBounds whole_algebra (whole_algebra.ops.whole (pos j)) (items p)
later_in_bounds p j h k = sizes_fit j (items p) k
    (subst (λ ys. (level 1).ops.Fits (coefficient_at (level 1).ops ys k)) (parted-joined (map (λ c. listed (sizes j c)) (items p))) (h.1 k))
