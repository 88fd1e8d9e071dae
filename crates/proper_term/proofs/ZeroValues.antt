-- Values that are 0: where the polynomial is, or where a factorial below is that of a negative number.
use Rattle.std.proofs.Common.{◌≡◌, ℕ, zero, suc, ◌≤◌, refl, ap, sym, ◌∙◌, subst, arith, List, [], ◌∷◌}
use Rattle.std.proofs.Math.Nat.{eq-one_of_dvd-one}
use Rattle.std.proofs.lemmas.Int.{ints}
use Rattle.std.specs.Int.{◌∣◌}
use Rattle.std.specs.List.{AllByRecursion}
use Rattle.std.specs.Prelude.{ℤ, pos, negsuc, ◌*ℤ◌, ◌<ℤ◌, ◌≤ℤ◌, unsigned_abs}
use Rattle.ring_solver.proofs.Read.{ring_z, reading_z}
use Rattle.hypergeometric.specs.Point.{Point}
use Rattle.hypergeometric.specs.Fraction.{Fraction, IsDefined, ◌≈◌, of_whole, fraction_product, fraction_inverse, natural_power, whole_power}
use Rattle.hypergeometric.specs.FormOrder.{IsFactor}
use Rattle.hypergeometric.specs.LinearForm.{Factor, form_value, factorial_value, inverse_factorial_value, product_over}
use Rattle.hypergeometric.specs.ProperTerm.{ProperTerm, NoneNegative, poly_value, proper_value}
use Rattle.hypergeometric.proofs.FractionLaws.{one_not_zero}
use Rattle.proper_term.specs.Runs.{IsInLowestTerms}

-- 0 over 1
pub zero_lowest : (f : Fraction) → f.top ≡ pos 0 → f.bottom ≡ pos 1 → IsInLowestTerms f
zero_lowest f e h = record {
  positive = subst (λ (z : ℤ). pos 0 <ℤ z) (sym h) (omega (arith, ints));
  coprime = λ d p q. eq-one_of_dvd-one {n = d} (subst (λ (z : ℤ). d ∣ unsigned_abs z) h q);
}

pub zero_equal : (f g : Fraction) → f.top ≡ pos 0 → f.bottom ≡ pos 1 → IsDefined g → g.top ≡ pos 0 → f ≈ g
zero_equal f g e h d z = record {
  left_defined = λ n. one_not_zero (sym h ∙ n);
  right_defined = d;
  cross = ap (λ (t : ℤ). t *ℤ g.bottom) e ∙ nothing g.bottom ∙ sym (ap (λ (t : ℤ). t *ℤ f.bottom) z ∙ nothing f.bottom);
}
  where
    nothing : (z : ℤ) → pos 0 *ℤ z ≡ pos 0
    nothing z = ring_z (z ∷ []) (search reading_z depth 40 fits 20000) refl

zero_middle : (s : Fraction) (p : ℤ) (t : Fraction) → p ≡ pos 0 → (fraction_product s (fraction_product (of_whole p) t)).top ≡ pos 0
zero_middle s p t e = ap (λ (z : ℤ). s.top *ℤ (z *ℤ t.top)) e ∙ nothing s.top t.top
  where
    nothing : (a b : ℤ) → a *ℤ (pos 0 *ℤ b) ≡ pos 0
    nothing a b = ring_z (a ∷ b ∷ []) (search reading_z depth 40 fits 20000) refl

-- where the polynomial is 0, the value is
pub zero_poly : (f : ProperTerm) (p : Point) → poly_value f.poly p ≡ pos 0 → (proper_value f p).top ≡ pos 0
zero_poly f p e =
    zero_middle f.scale (poly_value f.poly p)
    (fraction_product (whole_power f.n_base p.n) (fraction_product (whole_power f.k_base p.k)
    (fraction_product (product_over factorial_value f.up p) (fraction_product (product_over inverse_factorial_value f.down p)
    (product_over (λ z. fraction_inverse (of_whole z)) f.over p))))) e

zero_power : (p : ℕ) → 1 ≤ p → (natural_power (of_whole (pos 0)) p).top ≡ pos 0
zero_power zero h = absurd (omega (arith, h))
zero_power (suc p) h = nothing (natural_power (of_whole (pos 0)) p).top
  where
    nothing : (z : ℤ) → pos 0 *ℤ z ≡ pos 0
    nothing z = ring_z (z ∷ []) (search reading_z depth 40 fits 20000) refl

-- a factorial below at a negative number makes the product 0
zero_product : (xs : List Factor) (p : Point) → AllByRecursion IsFactor xs → ¬ NoneNegative xs p
    → (product_over inverse_factorial_value xs p).top ≡ pos 0
zero_product [] p h other = absurd (other tt)
zero_product (x ∷ xs) p h other = by (form_value x.form p) refl (zero_product xs p h.1)
  where
    left : (a b : ℤ) → a ≡ pos 0 → a *ℤ b ≡ pos 0
    left a b e = ap (λ (z : ℤ). z *ℤ b) e ∙ ring_z (b ∷ []) (search reading_z depth 40 fits 20000) refl

    right : (a b : ℤ) → b ≡ pos 0 → a *ℤ b ≡ pos 0
    right a b e = ap (λ (z : ℤ). a *ℤ z) e ∙ ring_z (a ∷ []) (search reading_z depth 40 fits 20000) refl

    by : (z : ℤ) → form_value x.form p ≡ z → (¬ NoneNegative xs p → (product_over inverse_factorial_value xs p).top ≡ pos 0)
        → (product_over inverse_factorial_value (x ∷ xs) p).top ≡ pos 0
    by (pos m) e rest =
        right (natural_power (inverse_factorial_value (form_value x.form p)) x.power).top (product_over inverse_factorial_value xs p).top
        (rest (λ others. other (subst (λ (z : ℤ). pos 0 ≤ℤ z) (sym e) (omega (arith, ints)), others)))
    by (negsuc m) e rest =
        left (natural_power (inverse_factorial_value (form_value x.form p)) x.power).top (product_over inverse_factorial_value xs p).top
        (ap (λ (z : ℤ). (natural_power (inverse_factorial_value z) x.power).top) e ∙ zero_power x.power h.0.some)

zero_inner : (s p a b u o l : Fraction) → o.top ≡ pos 0
    → (fraction_product s (fraction_product p (fraction_product a (fraction_product b (fraction_product u (fraction_product o l)))))).top ≡ pos 0
zero_inner s p a b u o l e =
    ap (λ (z : ℤ). s.top *ℤ (p.top *ℤ (a.top *ℤ (b.top *ℤ (u.top *ℤ (z *ℤ l.top)))))) e ∙ nothing s.top p.top a.top b.top u.top l.top
  where
    nothing : (s p a b u l : ℤ) → s *ℤ (p *ℤ (a *ℤ (b *ℤ (u *ℤ (pos 0 *ℤ l))))) ≡ pos 0
    nothing s p a b u l = ring_z (s ∷ p ∷ a ∷ b ∷ u ∷ l ∷ []) (search reading_z depth 40 fits 20000) refl

pub zero_down : (f : ProperTerm) (p : Point) → AllByRecursion IsFactor f.down → ¬ NoneNegative f.down p → (proper_value f p).top ≡ pos 0
zero_down f p h other =
    zero_inner f.scale (of_whole (poly_value f.poly p)) (whole_power f.n_base p.n) (whole_power f.k_base p.k) (product_over factorial_value f.up p)
    (product_over inverse_factorial_value f.down p) (product_over (λ z. fraction_inverse (of_whole z)) f.over p) (zero_product f.down p h other)
