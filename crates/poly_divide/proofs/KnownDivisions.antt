-- Divisions of which it is known whether they are in bounds, so that a relation that always holds, or never, does not check.
use Rattle.std.specs.Prelude.{◌<◌, ◌^◌, pos, negsuc, [], ◌∷◌, refl, ⊤}
use Rattle.std.proofs.Common.{arith, lit<}
use Rattle.ring_laws.specs.Meaning.{Meaning, number}
use Rattle.ring_laws.specs.Algebra.{Passing}
use Rattle.ring_laws.specs.Wholes.{whole_algebra}
use Rattle.poly_laws.specs.LongDivision.{Divided, begin, step, DivisionInBounds}
use Rattle.poly_divide.specs.Factors.{FactorInBounds}
use Rattle.poly_divide.specs.Forms.{linear}

-- 2^126*n by n + 2: the second step has the product 2^126*2, which passes 127 bits
division_out : ¬ (DivisionInBounds whole_algebra (λ (x y : Meaning). ⊤) (linear (pos (2 ^ 126)) (pos 0)) (linear (pos 1) (pos 2)))
division_out h =
    let none : Passing whole_algebra = (number (pos 0), refl) in
    let part : Passing whole_algebra = (number (pos (2 ^ 126)), refl) in
    let run : Divided whole_algebra (number (pos 2) ∷ []) (number (pos 1)) (number (pos (2 ^ 126)) ∷ []) (number (pos 0) ∷ [])
    (number (pos (2 ^ 126)) ∷ []) =
    step (number (pos (2 ^ 126))) none begin refl in
    let product : 2 ^ 127 < 2 ^ 127 =
    ((h (number (pos 2) ∷ []) (number (pos 1)) refl (number (pos 0)) (number (pos (2 ^ 126)) ∷ []) (number (pos 0) ∷ [])
    (number (pos (2 ^ 126)) ∷ []) 0 refl run).reduction part refl 0 (omega arith)).0 in
    omega (arith, product)

-- the quotient of 6*4 - 6*9 by 6, and of 2*2^126 by 2
factor_in : FactorInBounds whole_algebra (λ (x y : Meaning). ⊤) (number (pos 6)) (number (pos 4)) (number (negsuc 8))
factor_in = record { first = lit< tt; second = lit< tt; sum = lit< tt; division = tt }

factor_out : ¬ (FactorInBounds whole_algebra (λ (x y : Meaning). ⊤) (number (pos 2)) (number (pos (2 ^ 126))) (number (pos 0)))
factor_out h = let passed : 2 ^ 127 < 2 ^ 127 = h.first in omega (arith, passed)
