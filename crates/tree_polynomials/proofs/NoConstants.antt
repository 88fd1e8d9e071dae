-- A polynomial with two coefficients or more is no constant.
use Rattle.std.proofs.Common.{◌≡◌, ap, List, [], ◌∷◌, map, length, ◌≤◌, arith, None}
use Rattle.ring_laws.specs.Meaning.{Meaning, listed, items}
use Rattle.poly_laws.specs.TwoVariables.{constant_in_n, constant_in_k}

pub no_constant_in_n : {T : Type 0} (xs : List T) (f : T → Meaning) (m : Meaning) → 2 ≤ length xs → listed (map f xs) ≡ m
    → None ≡ constant_in_n (items m)
no_constant_in_n [] f m some e = absurd (omega (arith, some))
no_constant_in_n (x ∷ []) f m some e = absurd (omega (arith, some))
no_constant_in_n (x ∷ y ∷ zs) f m some e = ap (λ t. constant_in_n (items t)) e

pub no_constant_in_k : {T : Type 0} (xs : List T) (f : T → Meaning) (m : Meaning) → 2 ≤ length xs → listed (map f xs) ≡ m
    → None ≡ constant_in_k (items m)
no_constant_in_k [] f m some e = absurd (omega (arith, some))
no_constant_in_k (x ∷ []) f m some e = absurd (omega (arith, some))
no_constant_in_k (x ∷ y ∷ zs) f m some e = ap (λ t. constant_in_k (items t)) e
