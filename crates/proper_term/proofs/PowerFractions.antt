-- Powers of fractions by their numerators and denominators, and when a product with one is in bounds.
use Rattle.std.proofs.Common.{◌≡◌, ◌≢◌, ℕ, zero, suc, ◌*◌, ◌≤◌, refl, ap, sym, ◌∙◌, subst, arith, [], ◌∷◌}
use lib.IntN.{pow, one}
use Rattle.std.proofs.Math.Nat.{mul-le-mul}
use Rattle.std.proofs.lemmas.Int.{ints, unsigned_abs-mul}
use Rattle.std.specs.Prelude.{ℤ, pos, negsuc, ◌*ℤ◌, unsigned_abs}
use Rattle.hypergeometric.specs.Fraction.{Fraction, fraction_product, natural_power}
use Rattle.hypergeometric.specs.TermFacts.{IsNumber}
use Rattle.proper_term.specs.Fields.{number_fraction}
use Rattle.proper_term.specs.Runs.{RunsInBounds}
use Rattle.proper_term.proofs.WholePowers.{pow_next}

pub power_parts : (a b : ℤ) (e : ℕ) → natural_power (number_fraction a b) e ≡ number_fraction (pow a e) (pow b e)
unfolding pow one
power_parts a b zero = refl
power_parts a b (suc e) = ap (fraction_product (number_fraction a b)) (power_parts a b e) ∙ (λ i. number_fraction (sym (pow_next a e) i) (sym
    (pow_next b e) i))

-- a factor other than 0 leaves the other factor in bounds
factor_small : (a c : ℤ) → a ≢ pos 0 → IsNumber (a *ℤ c) → IsNumber c
factor_small a c some h =
    let size : 1 * unsigned_abs c ≤ unsigned_abs a * unsigned_abs c = mul-le-mul (at_least_one a some) (same (unsigned_abs c)) in
    omega (arith, size, unsigned_abs-mul a c, h)
  where
    same : (a : ℕ) → a ≤ a
    same a = omega arith

    at_least_one : (a : ℤ) → a ≢ pos 0 → 1 ≤ unsigned_abs a
    at_least_one (pos zero) n = absurd (n refl)
    at_least_one (pos (suc m)) n = omega (arith, ints)
    at_least_one (negsuc m) n = omega (arith, ints)

module _ (r : Fraction) (a b : ℤ) (e : ℕ) (b_in : RunsInBounds r (natural_power (number_fraction a b) e ∷ [])) where
  pub top_small : r.top ≢ pos 0 → IsNumber (pow a e)
  top_small some = factor_small r.top (pow a e) some (subst (λ x. IsNumber (r.top *ℤ x.top)) (power_parts a b e) b_in.0.top)

  pub bottom_small : r.bottom ≢ pos 0 → IsNumber (pow b e)
  bottom_small some = factor_small r.bottom (pow b e) some (subst (λ x. IsNumber (r.bottom *ℤ x.bottom)) (power_parts a b e) b_in.0.bottom)
