-- The quotient of the factorials of a term is that of what is left of them.
use Rattle.std.proofs.Common.{◌≡◌, ℕ, zero, suc, ◌*◌, ◌^◌, ◌<◌, refl, ap, sym, ◌∙◌, subst, arith, List, [], ◌∷◌}
use Rattle.std.proofs.Math.Nat.{pow-zero, pow-succ'}
use Rattle.std.proofs.lemmas.Int.{ints}
use Rattle.std.specs.Prelude.{ℤ, pos, negsuc, ◌*ℤ◌, ◌≤ℤ◌, unsigned_abs}
use Rattle.hypergeometric.specs.Point.{Point}
use Rattle.hypergeometric.specs.Fraction.{IsDefined, ◌≈◌, of_whole, fraction_product, natural_power}
use Rattle.hypergeometric.specs.LinearForm.{Factor, form_value, factorial, factorial_value, inverse_factorial_value, product_over}
use Rattle.hypergeometric.specs.ProperTerm.{ProperTerm, NoneNegative}
use Rattle.proper_term.specs.Cancelled.{arguments_at, left_over, quotient, quotients}
use Rattle.proper_term.specs.Runs.{product_of}
use Rattle.proper_term.specs.ValueBounds.{factorial_factors}
use Rattle.proper_term.proofs.CancelledFactorials.{list_product, factorials, left_over_positive, cancelled}

-- numerators and denominators are multiplied
pub product_quotients : (ts bs : List ℕ) → product_of (quotients ts bs) ≡ quotient (list_product ts) (list_product bs)
product_quotients [] [] = refl
product_quotients (t ∷ ts) [] = ap (fraction_product (quotient t 1)) (product_quotients ts [])
product_quotients [] (b ∷ bs) = ap (fraction_product (quotient 1 b)) (product_quotients [] bs)
product_quotients (t ∷ ts) (b ∷ bs) = ap (fraction_product (quotient t b)) (product_quotients ts bs)

power_above : (a p : ℕ) → natural_power (of_whole (pos a)) p ≡ of_whole (pos (a ^ p))
power_above a zero = ap (λ (t : ℕ). of_whole (pos t)) (sym (pow-zero a))
power_above a (suc p) = ap (fraction_product (of_whole (pos a))) (power_above a p) ∙ ap (λ (t : ℕ). of_whole (pos t)) (sym (pow-succ' a p))

power_below : (a p : ℕ) → natural_power (quotient 1 a) p ≡ quotient 1 (a ^ p)
power_below a zero = ap (quotient 1) (sym (pow-zero a))
power_below a (suc p) = ap (fraction_product (quotient 1 a)) (power_below a p) ∙ ap (quotient 1) (sym (pow-succ' a p))

factorial_above : (z : ℤ) → pos 0 ≤ℤ z → factorial_value z ≡ of_whole (pos (factorial (unsigned_abs z)))
factorial_above (pos m) h = refl
factorial_above (negsuc m) h = absurd (omega (arith, ints, h))

factorial_below : (z : ℤ) → pos 0 ≤ℤ z → inverse_factorial_value z ≡ quotient 1 (factorial (unsigned_abs z))
factorial_below (pos m) h = refl
factorial_below (negsuc m) h = absurd (omega (arith, ints, h))

up_product : (xs : List Factor) (p : Point) → NoneNegative xs p
    → product_over factorial_value xs p ≡ of_whole (pos (factorials (arguments_at p xs)))
up_product [] p h = refl
up_product (x ∷ xs) p h =
    ap (λ f. fraction_product (natural_power f x.power) (product_over factorial_value xs p)) (factorial_above (form_value x.form p) h.0)
    ∙ ap (λ f. fraction_product f (product_over factorial_value xs p)) (power_above (factorial (unsigned_abs (form_value x.form p))) x.power)
    ∙ ap (fraction_product (of_whole (pos (factorial (unsigned_abs (form_value x.form p)) ^ x.power)))) (up_product xs p h.1)

down_product : (xs : List Factor) (p : Point) → NoneNegative xs p
    → product_over inverse_factorial_value xs p ≡ quotient 1 (factorials (arguments_at p xs))
down_product [] p h = refl
down_product (x ∷ xs) p h =
    ap (λ f. fraction_product (natural_power f x.power) (product_over inverse_factorial_value xs p)) (factorial_below (form_value x.form p) h.0)
    ∙ ap (λ f. fraction_product f (product_over inverse_factorial_value xs p))
    (power_below (factorial (unsigned_abs (form_value x.form p))) x.power)
    ∙ ap (fraction_product (quotient 1 (factorial (unsigned_abs (form_value x.form p)) ^ x.power))) (down_product xs p h.1)

positive_defined : (t b : ℕ) → 0 < b → IsDefined (quotient t b)
positive_defined t b h e = omega (arith, ints, h, e)

cross_quotients : (t b u d : ℕ) → u * b ≡ d * t → pos t *ℤ pos (1 * d) ≡ pos (u * 1) *ℤ pos b
cross_quotients t b u d e = ap pos (side t d ∙ sym e ∙ other u b)
  where
    side : (t d : ℕ) → t * (1 * d) ≡ d * t
    side t d = omega arith

    other : (u b : ℕ) → u * b ≡ (u * 1) * b
    other u b = omega arith

-- the quotient of the factorials, without common factors
pub factorials_kept : (f : ProperTerm) (p : Point) → NoneNegative f.up p → NoneNegative f.down p
    → IsDefined (fraction_product (product_over factorial_value f.up p) (product_over inverse_factorial_value f.down p))
    → product_of (factorial_factors f p)
    ≈ fraction_product (product_over factorial_value f.up p) (product_over inverse_factorial_value f.down p)
factorials_kept f p up down defined =
    let us = arguments_at p f.up in
    let ds = arguments_at p f.down in
    let left = product_quotients (left_over us ds) (left_over ds us) in
    let right : fraction_product (product_over factorial_value f.up p) (product_over inverse_factorial_value f.down p)
    ≡ quotient (factorials us * 1) (1 * factorials ds) =
    ap (λ g. fraction_product g (product_over inverse_factorial_value f.down p)) (up_product f.up p up)
    ∙ ap (fraction_product (of_whole (pos (factorials us)))) (down_product f.down p down) in
    let d : IsDefined (quotient (factorials us * 1) (1 * factorials ds)) = subst IsDefined right defined in
    let e : quotient (list_product (left_over us ds)) (list_product (left_over ds us)) ≈ quotient (factorials us * 1) (1 * factorials ds) = record {
      left_defined = positive_defined (list_product (left_over us ds)) (list_product (left_over ds us)) (left_over_positive ds us);
      right_defined = d;
      cross = cross_quotients (list_product (left_over us ds)) (list_product (left_over ds us)) (factorials us) (factorials ds) (cancelled us ds);
    } in
    subst (λ g. product_of (factorial_factors f p) ≈ g) (sym right) (subst (λ g. g ≈ quotient (factorials us * 1) (1 * factorials ds)) (sym left) e)
