-- For each relation that says that an operation is in bounds, a known value at which it holds, and one at which it doesn't.
use Rattle.std.specs.Prelude.{zero, suc, ◌<◌, ◌^◌, [], ◌∷◌, length, pos}
use Rattle.std.proofs.Common.{arith, ap, lit<}
use Rattle.std.proofs.lemmas.List.{length-append}
use Rattle.ring_laws.specs.Meaning.{number, listed}
use Rattle.ring_laws.specs.Algebra.{SumInBounds, ProductInBounds}
use Rattle.ring_laws.specs.Wholes.{whole_algebra}
use Rattle.poly_laws.specs.Bounds.{ListSumInBounds, ListProductInBounds, ScalingInBounds}
use Rattle.poly_laws.specs.Evaluation.{ValueInBounds}
use Rattle.poly_laws.specs.LongDivision.{DivisionInBounds}
use Rattle.poly_laws.specs.Shift.{ListShiftInBounds, InnerShiftInBounds}

too_large : ¬ (2 ^ 127 < 2 ^ 127)
too_large h = omega (arith, h)

-- 3 + 4 and 2^126 + 2^126, 3 * 4 and 2^64 * 2^63
sum_in : SumInBounds whole_algebra (number (pos 3)) (number (pos 4))
sum_in = lit< tt

sum_out : ¬ (SumInBounds whole_algebra (number (pos (2 ^ 126))) (number (pos (2 ^ 126))))
sum_out h = too_large h

product_in : ProductInBounds whole_algebra (number (pos 3)) (number (pos 4))
product_in = lit< tt

product_out : ¬ (ProductInBounds whole_algebra (number (pos (2 ^ 64))) (number (pos (2 ^ 63))))
product_out h = too_large h

-- the same of lists: 3 + 4, 2^126 + 2^126, (n + 1)^2, 2^64 * 2^63, 3 * 4, 2^64 * 2^63
list_sum_in : ListSumInBounds whole_algebra (number (pos 3) ∷ []) (number (pos 4) ∷ [])
list_sum_in zero b c = lit< tt
list_sum_in (suc k) b c = lit< tt

list_sum_out : ¬ (ListSumInBounds whole_algebra (number (pos (2 ^ 126)) ∷ []) (number (pos (2 ^ 126)) ∷ []))
list_sum_out h = too_large (h 0 (omega arith) (omega arith))

list_product_in : ListProductInBounds whole_algebra (number (pos 1) ∷ number (pos 1) ∷ []) (number (pos 1) ∷ number (pos 1) ∷ [])
list_product_in zero = lit< tt
list_product_in (suc zero) = lit< tt
list_product_in (suc (suc zero)) = lit< tt
list_product_in (suc (suc (suc k))) = lit< tt

list_product_out : ¬ (ListProductInBounds whole_algebra (number (pos (2 ^ 64)) ∷ []) (number (pos (2 ^ 63)) ∷ []))
list_product_out h = too_large (h 0)

scaling_in : ScalingInBounds whole_algebra (number (pos 3)) (number (pos 4) ∷ [])
scaling_in zero b = lit< tt
scaling_in (suc k) b = lit< tt

scaling_out : ¬ (ScalingInBounds whole_algebra (number (pos (2 ^ 64))) (number (pos (2 ^ 63)) ∷ []))
scaling_out h = too_large (h 0 (omega arith))

-- n^2 + 1 at 3, and 2^63*n at 2^64
value_in : ValueInBounds whole_algebra (number (pos 3)) (number (pos 1) ∷ number (pos 0) ∷ number (pos 1) ∷ [])
value_in = lit< tt

value_out : ¬ (ValueInBounds whole_algebra (number (pos (2 ^ 64))) (number (pos 0) ∷ number (pos (2 ^ 63)) ∷ []))
value_out h = too_large h

-- n at n + 3, and 2^126*n at n + 2
shift_in : ListShiftInBounds whole_algebra (number (pos 3)) (number (pos 0) ∷ number (pos 1) ∷ [])
shift_in zero = lit< tt
shift_in (suc zero) = lit< tt
shift_in (suc (suc k)) = lit< tt

shift_out : ¬ (ListShiftInBounds whole_algebra (number (pos 2)) (number (pos 0) ∷ number (pos (2 ^ 126)) ∷ []))
shift_out h = too_large (h 0)

-- the same of the polynomials of degree 0 in k
inner_shift_in : InnerShiftInBounds whole_algebra (number (pos 3)) (listed (number (pos 0) ∷ number (pos 1) ∷ []) ∷ [])
inner_shift_in zero = shift_in
inner_shift_in (suc k) = λ j. lit< tt

inner_shift_out : ¬ (InnerShiftInBounds whole_algebra (number (pos 2)) (listed (number (pos 0) ∷ number (pos (2 ^ 126)) ∷ []) ∷ []))
inner_shift_out h = too_large (h 0 0)

-- 6 by 3
division_in : DivisionInBounds whole_algebra (λ _ _. Unit {0}) (listed (number (pos 6) ∷ [])) (listed (number (pos 3) ∷ []))
division_in gs lead e x xs qs rs i d run = record {
  division = tt;
  reduction = λ c p k b. absurd (omega (arith, b, ap length e, length-append gs (lead ∷ [])));
}
