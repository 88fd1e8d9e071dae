-- Fractions that stand for one value, or are both not defined. Where both are not defined, the cross products are 0.
use Rattle.std.proofs.Common.{◌≡◌, ℕ, zero, suc, refl, ap, sym, ◌∙◌, [], ◌∷◌, ⊎_elim, inl, inr, arith}
use Rattle.std.specs.Prelude.{◌↔◌, ◌⊎◌, ℤ, pos, negsuc, ◌*ℤ◌, neg_ℤ}
use Rattle.std.proofs.lemmas.Int.{ints}
use Rattle.ring_solver.proofs.Integers.{integers}
use Rattle.ring_solver.proofs.Linear.{product_zero, from1}
use Rattle.ring_solver.proofs.Read.{ring_z, reading_z}
use Rattle.hypergeometric.specs.Fraction.{Fraction, IsDefined, ◌≈◌, of_whole, fraction_sum, fraction_negative, fraction_product, fraction_inverse, natural_power, whole_power}
use Rattle.hypergeometric.proofs.FractionLaws.{cross_trans, cross_product, cross_sum}

infix 4 ◌≅◌
pub record ◌≅◌ (f g : Fraction) : Type 0 where
  pub zero_right : f.bottom ≡ pos 0 → g.bottom ≡ pos 0
  pub zero_left : g.bottom ≡ pos 0 → f.bottom ≡ pos 0
  pub cross : f.top *ℤ g.bottom ≡ g.top *ℤ f.bottom

-- one is defined exactly where the other is, and there they are equal
pub same_defined : {f g : Fraction} → f ≅ g → IsDefined f ↔ IsDefined g
same_defined e = (λ d z. d (e.zero_left z), λ d z. d (e.zero_right z))

pub same_equal : {f g : Fraction} → f ≅ g → IsDefined f → f ≈ g
same_equal e d = record { left_defined = d; right_defined = λ z. d (e.zero_left z); cross = e.cross }

pub same_defined_values : {f g : Fraction} → f ≈ g → f ≅ g
same_defined_values e = record {
  zero_right = λ z. absurd (e.left_defined z);
  zero_left = λ z. absurd (e.right_defined z);
  cross = e.cross;
}

pub same_itself : (f : Fraction) → f ≅ f
same_itself f = record { zero_right = λ z. z; zero_left = λ z. z; cross = refl }

-- with the same numbers
pub same : {f g : Fraction} → f ≡ g → f ≅ g
same e = record {
  zero_right = λ z. sym (ap (λ x. x.bottom) e) ∙ z;
  zero_left = λ z. ap (λ x. x.bottom) e ∙ z;
  cross = λ i. (e i).top *ℤ (sym e i).bottom;
}

pub same_symmetric : {f g : Fraction} → f ≅ g → g ≅ f
same_symmetric e = record { zero_right = e.zero_left; zero_left = e.zero_right; cross = sym e.cross }

pub times_zero : (a : ℤ) → a *ℤ pos 0 ≡ pos 0
times_zero a = ring_z (a ∷ []) (search reading_z depth 40 fits 20000) refl

pub zero_times : (a : ℤ) → pos 0 *ℤ a ≡ pos 0
zero_times a = ring_z (a ∷ []) (search reading_z depth 40 fits 20000) refl

pub zero_or_not : (z : ℤ) → (z ≡ pos 0) ⊎ ¬ (z ≡ pos 0)
zero_or_not (pos zero) = inl refl
zero_or_not (pos (suc n)) = inr (λ e. omega (arith, ints, e))
zero_or_not (negsuc n) = inr (λ e. omega (arith, ints, e))

pub same_chain : {f g h : Fraction} → f ≅ g → g ≅ h → f ≅ h
same_chain {f} {g} {h} p q = record {
  zero_right = λ z. q.zero_right (p.zero_right z);
  zero_left = λ z. p.zero_left (q.zero_left z);
  cross = ⊎_elim
      (λ z. ap (λ t. f.top *ℤ t) (q.zero_right z) ∙ times_zero f.top ∙ sym (ap (λ t. h.top *ℤ t) (p.zero_left z) ∙ times_zero h.top))
      (λ n. cross_trans f.top f.bottom g.top g.bottom h.top h.bottom n p.cross q.cross)
      (zero_or_not g.bottom);
}

-- a product is 0 where one factor is
pub product_zero_where : {a b c d : ℤ} → (a ≡ pos 0 → c ≡ pos 0) → (b ≡ pos 0 → d ≡ pos 0) → a *ℤ b ≡ pos 0 → c *ℤ d ≡ pos 0
product_zero_where {a} {b} {c} {d} p q z =
    ⊎_elim (λ e. ap (λ t. t *ℤ d) (p e) ∙ zero_times d) (λ e. ap (λ t. c *ℤ t) (q e) ∙ times_zero c) (product_zero a b z)

pub same_products : {f f' g g' : Fraction} → f ≅ f' → g ≅ g' → fraction_product f g ≅ fraction_product f' g'
same_products {f} {f'} {g} {g'} p q = record {
  zero_right = product_zero_where p.zero_right q.zero_right;
  zero_left = product_zero_where p.zero_left q.zero_left;
  cross = cross_product f.top f.bottom g.top g.bottom f'.top f'.bottom g'.top g'.bottom p.cross q.cross;
}

pub same_sums : {f f' g g' : Fraction} → f ≅ f' → g ≅ g' → fraction_sum f g ≅ fraction_sum f' g'
same_sums {f} {f'} {g} {g'} p q = record {
  zero_right = product_zero_where p.zero_right q.zero_right;
  zero_left = product_zero_where p.zero_left q.zero_left;
  cross = cross_sum f.top f.bottom g.top g.bottom f'.top f'.bottom g'.top g'.bottom p.cross q.cross;
}

cross_negative : (a b c d : ℤ) → a *ℤ d ≡ c *ℤ b → neg_ℤ a *ℤ d ≡ neg_ℤ c *ℤ b
cross_negative a b c d p = from1 integers (negsuc 0) p (ring_z (a ∷ b ∷ c ∷ d ∷ []) (search reading_z depth 40 fits 20000) refl)

pub same_negatives : {f g : Fraction} → f ≅ g → fraction_negative f ≅ fraction_negative g
same_negatives {f} {g} e = record {
  zero_right = e.zero_right;
  zero_left = e.zero_left;
  cross = cross_negative f.top f.bottom g.top g.bottom e.cross;
}

cross_inverse : (a b c d : ℤ) → a *ℤ d ≡ c *ℤ b → (b *ℤ b) *ℤ (c *ℤ d) ≡ (d *ℤ d) *ℤ (a *ℤ b)
cross_inverse a b c d p =
    from1 integers (neg_ℤ (b *ℤ d)) p (ring_z (a ∷ b ∷ c ∷ d ∷ []) (search reading_z depth 40 fits 20000) refl)

-- a numerator is 0 where that of an equal fraction is, or where neither is defined
top_zero : {f g : Fraction} → f ≅ g → f.top *ℤ f.bottom ≡ pos 0 → g.top *ℤ g.bottom ≡ pos 0
top_zero {f} {g} e z = ⊎_elim bottom
    (λ n. ⊎_elim (λ t. ⊎_elim (λ t. ap (λ x. x *ℤ g.bottom) t ∙ zero_times g.bottom) (λ b. absurd (n b))
    (product_zero g.top f.bottom (sym e.cross ∙ ap (λ x. x *ℤ g.bottom) t ∙ zero_times g.bottom)))
    (λ b. absurd (n b)) (product_zero f.top f.bottom z)) (zero_or_not f.bottom)
  where
    bottom : f.bottom ≡ pos 0 → g.top *ℤ g.bottom ≡ pos 0
    bottom b = ap (λ x. g.top *ℤ x) (e.zero_right b) ∙ times_zero g.top

pub same_inverses : {f g : Fraction} → f ≅ g → fraction_inverse f ≅ fraction_inverse g
same_inverses {f} {g} e = record {
  zero_right = top_zero e;
  zero_left = top_zero (same_symmetric e);
  cross = cross_inverse f.top f.bottom g.top g.bottom e.cross;
}

pub same_natural_powers : {f g : Fraction} (n : ℕ) → f ≅ g → natural_power f n ≅ natural_power g n
same_natural_powers zero e = same_itself (of_whole (pos 1))
same_natural_powers (suc n) e = same_products e (same_natural_powers n e)

pub same_whole_powers : {f g : Fraction} (w : ℤ) → f ≅ g → whole_power f w ≅ whole_power g w
same_whole_powers (pos n) e = same_natural_powers n e
same_whole_powers (negsuc n) e = same_natural_powers (suc n) (same_inverses e)
