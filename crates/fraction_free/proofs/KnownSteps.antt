-- For each relation that says that a step on one row or one vector is in bounds, a known value at which it holds, and one at which it doesn't.
use Rattle.std.specs.Prelude.{◌≡◌, ℕ, zero, suc, ◌<◌, ◌^◌, ◌+◌, ℤ, pos, negsuc, ◌*ℤ◌, List, [], ◌∷◌, length, refl, ⊤}
use Rattle.std.proofs.Common.{ap, arith, lit<}
use Rattle.std.proofs.lemmas.Int.{ints}
use Rattle.std.proofs.lemmas.List.{length-append}
use Rattle.ring_laws.specs.Meaning.{Meaning, number, listed}
use Rattle.ring_laws.specs.Algebra.{Passing, ProductInBounds}
use Rattle.ring_laws.specs.Wholes.{number_of, whole_algebra}
use Rattle.poly_laws.specs.PolyAlgebra.{poly_algebra}
use Rattle.poly_laws.specs.LongDivision.{Divided, begin, step, DivisionInBounds}
use Rattle.kernel_laws.specs.Rows.{entry_at}
use Rattle.kernel_laws.specs.RowSteps.{HasQuotient, CrossInBounds, CrossingInBounds, QuotientsInBounds}
use Rattle.kernel_laws.specs.BackSubstitution.{TimesInBounds, AbsorbingInBounds}
use Rattle.kernel_laws.specs.Elimination.{RowStepsInBounds, ClearingInBounds}
use Rattle.reducing.specs.WholeRows.{whole_reduction}

-- divisions of whole numbers are always in bounds
abbrev pub Always : Meaning → Meaning → Type 0
Always x y = ⊤

-- those of polynomials in n where each step of the long division is
abbrev DivisionOfPolynomials : Meaning → Meaning → Type 0
DivisionOfPolynomials = DivisionInBounds whole_algebra Always

pub too_large : ¬ (2 ^ 127 < 2 ^ 127)
too_large h = omega (arith, h)

-- a row of two numbers
abbrev pub two : ℤ → ℤ → List Meaning
two x y = number x ∷ number y ∷ []

-- 2*7 - 4*1, and 2*2^126 - 1*0
cross_in : CrossInBounds whole_algebra (number (pos 2)) (number (pos 7)) (number (pos 4)) (number (pos 1))
cross_in = lit< tt

cross_out : ¬ (CrossInBounds whole_algebra (number (pos 2)) (number (pos (2 ^ 126))) (number (pos 1)) (number (pos 0)))
cross_out h = too_large h

-- 2*(4, 7) - 4*(2, 1), and 2*(1, 2^126) - 1*(2, 0), where the second entry passes 127 bits
crossing_in : CrossingInBounds whole_algebra (number (pos 2)) (two (pos 4) (pos 7)) (number (pos 4)) (two (pos 2) (pos 1))
crossing_in zero b = lit< tt
crossing_in (suc zero) b = lit< tt
crossing_in (suc (suc k)) b = absurd (omega (arith, b))

crossing_out : ¬ (CrossingInBounds whole_algebra (number (pos 2)) (two (pos 1) (pos (2 ^ 126))) (number (pos 1)) (two (pos 2) (pos 0)))
crossing_out h = too_large (h 1 (omega arith))

-- the row 2^126*n by n + 2: the second step has the product 2^126*2
quotients_out : ¬ (QuotientsInBounds DivisionOfPolynomials (poly_algebra whole_algebra) (listed (two (pos 2) (pos 1)))
    (listed (two (pos 0) (pos (2 ^ 126))) ∷ []))
quotients_out h = too_large ((division (number (pos 2) ∷ []) (number (pos 1)) refl (number (pos 0)) (number (pos (2 ^ 126)) ∷ [])
    (number (pos 0) ∷ []) (number (pos (2 ^ 126)) ∷ []) 0 refl run).reduction part refl 0 (omega arith)).0
  where
    division : DivisionOfPolynomials (listed (two (pos 0) (pos (2 ^ 126)))) (listed (two (pos 2) (pos 1)))
    division = h 0 (omega arith) (λ i b. absurd (omega (arith, b)))

    none : Passing whole_algebra
    none = (number (pos 0), refl)

    part : Passing whole_algebra
    part = (number (pos (2 ^ 126)), refl)

    run : Divided whole_algebra (number (pos 2) ∷ []) (number (pos 1)) (number (pos (2 ^ 126)) ∷ []) (number (pos 0) ∷ [])
        (number (pos (2 ^ 126)) ∷ [])
    run = step (number (pos (2 ^ 126))) none begin refl

-- the row 6, 9 by 3, as polynomials of degree 0: no step has a product
constant_in : (m t : Meaning) → DivisionOfPolynomials (listed (m ∷ [])) (listed (t ∷ []))
constant_in m t gs lead e x xs qs rs i d run = record {
  division = tt;
  reduction = λ c p k b. absurd (omega (arith, b, ap length e, length-append gs (lead ∷ [])));
}

quotients_in : QuotientsInBounds DivisionOfPolynomials (poly_algebra whole_algebra) (listed (number (pos 3) ∷ []))
    (listed (number (pos 6) ∷ []) ∷ listed (number (pos 9) ∷ []) ∷ [])
quotients_in zero b h = constant_in (number (pos 6)) (number (pos 3))
quotients_in (suc zero) b h = constant_in (number (pos 9)) (number (pos 3))
quotients_in (suc (suc k)) b h = absurd (omega (arith, b))

-- the row (1, 2) times the vector (-3, 4), and (2^126, 1) times (2, 0)
times_in : TimesInBounds whole_algebra 2 (two (pos 1) (pos 2)) (two (negsuc 2) (pos 4))
times_in = lit< tt

times_out : ¬ (TimesInBounds whole_algebra 2 (two (pos (2 ^ 126)) (pos 1)) (two (pos 2) (pos 0)))
times_out h = too_large h

-- 2 absorbed by 3 beside the vector (0, 5), which becomes (0, 15)
absorbing_in : AbsorbingInBounds Always whole_algebra (number (pos 3)) (number (pos 2)) (two (pos 0) (pos 5))
absorbing_in = record { division = tt; products = λ h k b. product_in k b }
  where
    product_in : (k : ℕ) → k < 2 → ProductInBounds whole_algebra (number (pos 3)) (entry_at whole_algebra.ops (two (pos 0) (pos 5)) k)
    product_in zero b = lit< tt
    product_in (suc zero) b = lit< tt
    product_in (suc (suc k)) b = absurd (omega (arith, b))

-- 2 doesn't divide 1
one_is_odd : ¬ (HasQuotient whole_algebra (number (pos 2)) (number (pos 1)))
one_is_odd h = odd (number_of h.quotient.0) (ap number_of h.is)
  where
    odd : (z : ℤ) → ¬ (z *ℤ pos 2 ≡ pos 1)
    odd z e = omega (arith, ints, e)

-- so the vector (0, 2^126) is multiplied, and its second entry passes 127 bits; beside 4 it stays
absorbing_out : ¬ (AbsorbingInBounds Always whole_algebra (number (pos 2)) (number (pos 1)) (two (pos 0) (pos (2 ^ 126))))
absorbing_out h = too_large (h.products one_is_odd 1 (omega arith))

four_absorbed : AbsorbingInBounds Always whole_algebra (number (pos 2)) (number (pos 4)) (two (pos 0) (pos (2 ^ 126)))
four_absorbed = record { division = tt; products = λ n k b. absurd (n (record { quotient = (number (pos 2), refl); is = refl })) }

-- the row (2, 1) is cleared by (1, 2), and by (1, 2^126), where 2*2^126 passes 127 bits
pub row_steps_in : RowStepsInBounds Always whole_algebra whole_reduction (number (pos 1)) 0 (two (pos 1) (pos 2)) (two (pos 2) (pos 1))
row_steps_in = record { crossing = crossing; division = λ k b h. tt; reduction = λ middle h. tt }
  where
    crossing : CrossingInBounds whole_algebra (number (pos 1)) (two (pos 2) (pos 1)) (number (pos 2)) (two (pos 1) (pos 2))
    crossing zero b = lit< tt
    crossing (suc zero) b = lit< tt
    crossing (suc (suc k)) b = absurd (omega (arith, b))

row_steps_out : ¬ (RowStepsInBounds Always whole_algebra whole_reduction (number (pos 1)) 0 (two (pos 1) (pos (2 ^ 126))) (two (pos 2) (pos 1)))
row_steps_out h = let passed : 2 ^ 127 + 1 < 2 ^ 127 = h.crossing 1 (omega arith) in omega (arith, passed)

-- a row with a zero in the column takes no step
clearing_in : ClearingInBounds Always whole_algebra whole_reduction (number (pos 1)) 0 (two (pos 1) (pos (2 ^ 126))) (two (pos 0) (pos 2))
clearing_in some = absurd (cc some)

pub clearing_out : ¬ (ClearingInBounds Always whole_algebra whole_reduction (number (pos 1)) 0 (two (pos 1) (pos (2 ^ 126))) (two (pos 2) (pos 1)))
clearing_out h = row_steps_out (h refl)
