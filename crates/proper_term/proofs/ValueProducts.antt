-- The scale times all factors of a value is the term's value.
use Rattle.std.proofs.Common.{◌≡◌, ◌≢◌, ℕ, zero, suc, refl, ap, sym, ◌∙◌, subst, List, [], ◌∷◌, ◌++◌}
use Rattle.std.specs.Prelude.{ℤ, pos, negsuc, ◌*ℤ◌, replicate}
use Rattle.ring_solver.proofs.Read.{ring_z, reading_z}
use Rattle.hypergeometric.specs.Point.{Point}
use Rattle.hypergeometric.specs.Fraction.{Fraction, IsDefined, ◌≈◌, of_whole, fraction_product, reciprocal, fraction_inverse, natural_power, whole_power}
use Rattle.hypergeometric.specs.LinearForm.{Factor, form_value, factorial_value, inverse_factorial_value, product_over}
use Rattle.hypergeometric.specs.ProperTerm.{ProperTerm, NoneNegative, NoneZero, IsDefinedAt, IsNonzero, HasFractions, poly_value, proper_value}
use Rattle.hypergeometric.proofs.Definedness.{natural_power_defined, proper_value_defined}
use Rattle.hypergeometric.proofs.FractionLaws.{one_not_zero, product_not_zero, equal_to_itself, equal_symmetric, equal_chain, equal_products}
use Rattle.hypergeometric.proofs.DefinedValues.{left_defined, right_defined}
use Rattle.proper_term.specs.Runs.{product_of}
use Rattle.proper_term.specs.ValueBounds.{base_power, divisors, factorial_factors, value_factors}
use Rattle.proper_term.proofs.Runs.{grouped, one_before}
use Rattle.proper_term.proofs.FactorialProducts.{factorials_kept}

product_joined : (xs ys : List Fraction) → IsDefined (product_of xs) → IsDefined (product_of ys)
    → product_of (xs ++ ys) ≈ fraction_product (product_of xs) (product_of ys)
product_joined [] ys d e = one_before (product_of ys) e
product_joined (x ∷ xs) ys d e =
    let here = left_defined x (product_of xs) d in
    let rest = product_joined xs ys (right_defined x (product_of xs) d) e in
    equal_chain (equal_products (equal_to_itself x here) rest)
    (equal_symmetric (grouped x (product_of xs) (product_of ys) (product_not_zero _ _ d e)))

product_copies : (count : ℕ) (f : Fraction) → product_of (replicate count f) ≡ natural_power f count
product_copies zero f = refl
product_copies (suc count) f = ap (fraction_product f) (product_copies count f)

equal_powers : (f g : Fraction) (p : ℕ) → f ≈ g → natural_power f p ≈ natural_power g p
equal_powers f g zero e = equal_to_itself (of_whole (pos 1)) one_not_zero
equal_powers f g (suc p) e = equal_products e (equal_powers f g p e)

reciprocal_is_inverse : (f : Fraction) → IsNonzero f → reciprocal f ≈ fraction_inverse f
reciprocal_is_inverse f h = record {
  left_defined = h.top;
  right_defined = product_not_zero f.top f.bottom h.top h.bottom;
  cross = cross f.top f.bottom;
}
  where
    cross : (a b : ℤ) → b *ℤ (a *ℤ b) ≡ (b *ℤ b) *ℤ a
    cross a b = ring_z (a ∷ b ∷ []) (search reading_z depth 40 fits 20000) refl

-- a power of a base
pub power_kept : (f : Fraction) (z : ℤ) → IsNonzero f → base_power f z ≈ whole_power f z
power_kept f (pos n) h = equal_to_itself (natural_power f n) (natural_power_defined f n h.bottom)
power_kept f (negsuc n) h = equal_powers (reciprocal f) (fraction_inverse f) (suc n) (reciprocal_is_inverse f h)

one_over : (z : ℤ) → z ≢ pos 0 → record { top = pos 1; bottom = z } ≈ fraction_inverse (of_whole z)
one_over z h = record { left_defined = h; right_defined = product_not_zero z (pos 1) h one_not_zero; cross = cross z }
  where
    cross : (z : ℤ) → pos 1 *ℤ (z *ℤ pos 1) ≡ (pos 1 *ℤ pos 1) *ℤ z
    cross z = ring_z (z ∷ []) (search reading_z depth 40 fits 20000) refl

-- the forms of over
divisors_kept : (xs : List Factor) (p : Point) → NoneZero xs p
    → product_of (divisors xs p) ≈ product_over (λ z. fraction_inverse (of_whole z)) xs p
divisors_kept [] p h = equal_to_itself (of_whole (pos 1)) one_not_zero
divisors_kept (x ∷ xs) p h =
    let z = form_value x.form p in
    let rest = divisors_kept xs p h.1 in
    let each : natural_power (record { top = pos 1; bottom = z }) x.power ≈ natural_power (fraction_inverse (of_whole z)) x.power =
    equal_powers (record { top = pos 1; bottom = z }) (fraction_inverse (of_whole z)) x.power (one_over z h.0) in
    let copies : product_of (replicate x.power (record { top = pos 1; bottom = z })) ≈ natural_power (fraction_inverse (of_whole z)) x.power =
    subst (λ g. g ≈ natural_power (fraction_inverse (of_whole z)) x.power) (sym (product_copies x.power (record { top = pos 1; bottom = z }))) each in
    equal_chain (product_joined (replicate x.power (record { top = pos 1; bottom = z })) (divisors xs p) copies.left_defined rest.left_defined)
    (equal_products copies rest)

same_parts : (f g : Fraction) → f.top ≡ g.top → f.bottom ≡ g.bottom → IsDefined f → f ≈ g
same_parts f g e h d = record {
  left_defined = d;
  right_defined = λ z. d (h ∙ z);
  cross = ap (λ (t : ℤ). t *ℤ g.bottom) e ∙ ap (λ (t : ℤ). g.top *ℤ t) (sym h);
}

moved : (u p a b l d o : ℤ) → d *ℤ ((u *ℤ o) *ℤ (p *ℤ (a *ℤ (b *ℤ l)))) ≡ d *ℤ (p *ℤ (a *ℤ (b *ℤ (u *ℤ (o *ℤ l)))))
moved u p a b l d o = ring_z (u ∷ p ∷ a ∷ b ∷ l ∷ d ∷ o ∷ []) (search reading_z depth 40 fits 20000) refl

-- the factors in the order of the value
reordered : (s u o p a b l : Fraction)
    → IsDefined (fraction_product s (fraction_product (fraction_product u o) (fraction_product p (fraction_product a (fraction_product b l)))))
    → fraction_product s (fraction_product (fraction_product u o) (fraction_product p (fraction_product a (fraction_product b l))))
    ≈ fraction_product s (fraction_product p (fraction_product a (fraction_product b (fraction_product u (fraction_product o l)))))
reordered s u o p a b l d =
    same_parts _ _ (moved u.top p.top a.top b.top l.top s.top o.top) (moved u.bottom p.bottom a.bottom b.bottom l.bottom s.bottom o.bottom) d

inner_defined : (s p a b u o l : Fraction)
    → IsDefined (fraction_product s (fraction_product p (fraction_product a (fraction_product b (fraction_product u (fraction_product o l))))))
    → IsDefined (fraction_product u o)
inner_defined s p a b u o l d =
    let within_b = fraction_product u (fraction_product o l) in
    let within_a = fraction_product b within_b in
    let within_p = fraction_product a within_a in
    let within_s = fraction_product p within_p in
    let e = right_defined b within_b (right_defined a within_a (right_defined p within_p (right_defined s within_s d))) in
    product_not_zero u.bottom o.bottom (left_defined u (fraction_product o l) e)
    (left_defined o l (right_defined u (fraction_product o l) e))

pub factors_value : (f : ProperTerm) (p : Point) → HasFractions f → IsDefinedAt f p → NoneNegative f.down p
    → fraction_product f.scale (product_of (value_factors f p)) ≈ proper_value f p
factors_value f p t d down =
    let over = divisors_kept f.over p d.over in
    let whole = proper_value_defined f p t d in
    let ns = power_kept f.n_base p.n t.n_base in
    let ks = power_kept f.k_base p.k t.k_base in
    let y : Fraction = of_whole (poly_value f.poly p) in
    let u = product_over factorial_value f.up p in
    let o = product_over inverse_factorial_value f.down p in
    let l = product_over (λ z. fraction_inverse (of_whole z)) f.over p in
    let a = whole_power f.n_base p.n in
    let b = whole_power f.k_base p.k in
    let rest : product_of (of_whole (poly_value f.poly p) ∷ base_power f.n_base p.n ∷ base_power f.k_base p.k ∷ divisors f.over p)
    ≈ fraction_product y (fraction_product a (fraction_product b l)) =
    equal_products (equal_to_itself y one_not_zero) (equal_products ns (equal_products ks over)) in
    let defined : IsDefined (fraction_product u o) = inner_defined f.scale y a b u o l whole in
    let above = factorials_kept f p d.up down defined in
    let joined = equal_chain (product_joined (factorial_factors f p) (of_whole
    (poly_value f.poly p) ∷ base_power f.n_base p.n ∷ base_power f.k_base p.k
    ∷ divisors f.over p) above.left_defined rest.left_defined) (equal_products above rest) in
    let scaled = equal_products (equal_to_itself f.scale t.scale.bottom) joined in
    equal_chain scaled (reordered f.scale u o y a b l scaled.right_defined)
