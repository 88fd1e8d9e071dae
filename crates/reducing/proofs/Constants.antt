-- A constant that isn't zero has no form as a divisor.
use Rattle.std.proofs.Common.{◌≡◌, ◌≢◌, ℕ, ◌≤◌, ◌^◌, IsTrue, [], ◌∷◌, refl, subst, arith}
use Rattle.std.proofs.lemmas.Int.{ints}
use Rattle.std.specs.Prelude.{ℤ, pos, neg_ℤ, ◌*ℤ◌, ◌+ℤ◌}
use native.Mathlib.Numerals.{unary_clauses}
use Rattle.ring_laws.specs.Meaning.{number, listed}
use Rattle.whole_roots.specs.Differences.{polynomials}
use Rattle.whole_roots.specs.LinearFactors.{PowerDivides}
use Rattle.whole_roots.proofs.FactorRoots.{factor_gives_root}

pub no_form_divides : (c : ℤ) → c ≢ pos 0 → IsTrue (polynomials.passes (listed (number c ∷ []))) → (u : ℕ) (v : ℤ) → 1 ≤ u
    → ¬ (PowerDivides u v 1 (listed (number c ∷ [])))
no_form_divides c some p u v h d = some (plain u (neg_ℤ v) (factor_gives_root u v h (listed (number c ∷ []), p) d))
  where
    plain : (u : ℕ) (z : ℤ) → c *ℤ pos (u ^ 0) +ℤ z *ℤ pos 0 ≡ pos 0 → c ≡ pos 0
    plain u z e =
        let one : u ^ 0 ≡ 1 = simp unary_clauses refl in
        let same : c *ℤ pos 1 +ℤ z *ℤ pos 0 ≡ pos 0 = subst (λ t. c *ℤ pos t +ℤ z *ℤ pos 0 ≡ pos 0) one e in
        omega (arith, ints, same)
