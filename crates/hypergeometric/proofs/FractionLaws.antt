-- Laws of fractions, and of their equality.
use Rattle.std.proofs.Common.{◌≡◌, ◌≢◌, refl, ap, sym, ◌∙◌, arith, [], ◌∷◌, ⊎_elim, ℕ, zero, suc}
use Rattle.std.proofs.lemmas.Int.{ints}
use Rattle.std.specs.Prelude.{ℤ, pos, negsuc, ◌+ℤ◌, ◌*ℤ◌}
use Rattle.std.proofs.Math.IntN.{pow, pow-succ'}
use Rattle.ring_solver.proofs.Integers.{integers}
use Rattle.ring_solver.proofs.Linear.{product_zero, from1, from2}
use Rattle.ring_solver.proofs.Read.{ring_z, reading_z}
use Rattle.hypergeometric.specs.Fraction.{Fraction, IsDefined, ◌≈◌, of_whole, fraction_sum, fraction_difference, fraction_product}

pub one_not_zero : pos 1 ≢ pos 0
one_not_zero e = omega (arith, ints, e)

-- a product of numbers other than 0 isn't 0
pub product_not_zero : (a b : ℤ) → a ≢ pos 0 → b ≢ pos 0 → a *ℤ b ≢ pos 0
product_not_zero a b h k e = ⊎_elim h k (product_zero a b e)

-- a factor other than 0 is cancelled
pub cancel_factor : (c a b : ℤ) → c ≢ pos 0 → c *ℤ a ≡ c *ℤ b → a ≡ b
cancel_factor c a b h e =
    let z : c *ℤ (a +ℤ (pos 0 +ℤ negsuc 0 *ℤ b)) ≡ pos 0 =
    from1 integers (pos 1) e (ring_z (c ∷ a ∷ b ∷ []) (search reading_z depth 40 fits 20000) refl) in
    ⊎_elim (λ p. absurd (h p)) (λ p. from1 integers (pos 1) p (ring_z (a ∷ b ∷ []) (search reading_z depth 40 fits 20000) refl))
    (product_zero c (a +ℤ (pos 0 +ℤ negsuc 0 *ℤ b)) z)

pub equal_to_itself : (f : Fraction) → IsDefined f → f ≈ f
equal_to_itself f d = record { left_defined = d; right_defined = d; cross = refl }

pub equal_symmetric : {f g : Fraction} → f ≈ g → g ≈ f
equal_symmetric e = record { left_defined = e.right_defined; right_defined = e.left_defined; cross = sym e.cross }

pub cross_trans : (a b c d e f : ℤ) → d ≢ pos 0 → a *ℤ d ≡ c *ℤ b → c *ℤ f ≡ e *ℤ d → a *ℤ f ≡ e *ℤ b
cross_trans a b c d e f n p q =
    cancel_factor d (a *ℤ f) (e *ℤ b) n
    (from2 integers f b p q (ring_z (a ∷ b ∷ c ∷ d ∷ e ∷ f ∷ []) (search reading_z depth 40 fits 20000) refl))

pub equal_chain : {f g h : Fraction} → f ≈ g → g ≈ h → f ≈ h
equal_chain {f} {g} {h} p q = record {
  left_defined = p.left_defined;
  right_defined = q.right_defined;
  cross = cross_trans f.top f.bottom g.top g.bottom h.top h.bottom p.right_defined p.cross q.cross;
}

pub cross_sum : (a b c d a' b' c' d' : ℤ) → a *ℤ b' ≡ a' *ℤ b → c *ℤ d' ≡ c' *ℤ d
    → (a *ℤ d +ℤ c *ℤ b) *ℤ (b' *ℤ d') ≡ (a' *ℤ d' +ℤ c' *ℤ b') *ℤ (b *ℤ d)
cross_sum a b c d a' b' c' d' p q =
    from2 integers (d *ℤ d') (b *ℤ b') p q
    (ring_z (a ∷ b ∷ c ∷ d ∷ a' ∷ b' ∷ c' ∷ d' ∷ []) (search reading_z depth 40 fits 20000) refl)

-- equal summands have equal sums
pub equal_sums : {f f' g g' : Fraction} → f ≈ f' → g ≈ g' → fraction_sum f g ≈ fraction_sum f' g'
equal_sums {f} {f'} {g} {g'} p q = record {
  left_defined = product_not_zero f.bottom g.bottom p.left_defined q.left_defined;
  right_defined = product_not_zero f'.bottom g'.bottom p.right_defined q.right_defined;
  cross = cross_sum f.top f.bottom g.top g.bottom f'.top f'.bottom g'.top g'.bottom p.cross q.cross;
}

pub cross_product : (a b c d a' b' c' d' : ℤ) → a *ℤ b' ≡ a' *ℤ b → c *ℤ d' ≡ c' *ℤ d
    → (a *ℤ c) *ℤ (b' *ℤ d') ≡ (a' *ℤ c') *ℤ (b *ℤ d)
cross_product a b c d a' b' c' d' p q =
    from2 integers (c *ℤ d') (a' *ℤ b) p q
    (ring_z (a ∷ b ∷ c ∷ d ∷ a' ∷ b' ∷ c' ∷ d' ∷ []) (search reading_z depth 40 fits 20000) refl)

-- equal factors have equal products
pub equal_products : {f f' g g' : Fraction} → f ≈ f' → g ≈ g' → fraction_product f g ≈ fraction_product f' g'
equal_products {f} {f'} {g} {g'} p q = record {
  left_defined = product_not_zero f.bottom g.bottom p.left_defined q.left_defined;
  right_defined = product_not_zero f'.bottom g'.bottom p.right_defined q.right_defined;
  cross = cross_product f.top f.bottom g.top g.bottom f'.top f'.bottom g'.top g'.bottom p.cross q.cross;
}

-- (g - f) + (h - g) is h - f
pub differences_join : (f g h : Fraction) → IsDefined f → IsDefined g → IsDefined h
    → fraction_sum (fraction_difference g f) (fraction_difference h g) ≈ fraction_difference h f
differences_join f g h df dg dh = record {
  left_defined = product_not_zero _ _ (product_not_zero _ _ dg df) (product_not_zero _ _ dh dg);
  right_defined = product_not_zero _ _ dh df;
  cross = ring_z (f.top ∷ f.bottom ∷ g.top ∷ g.bottom ∷ h.top ∷ h.bottom ∷ []) (search reading_z depth 40 fits 20000) refl;
}

-- 0 + f is f
pub zero_added : (f : Fraction) → IsDefined f → fraction_sum (of_whole (pos 0)) f ≈ f
zero_added f d = record {
  left_defined = product_not_zero _ _ one_not_zero d;
  right_defined = d;
  cross = ring_z (f.top ∷ f.bottom ∷ []) (search reading_z depth 40 fits 20000) refl;
}

-- equal numbers, as fractions
pub equal_wholes : {f g : Fraction} (a b : ℤ) → f ≡ of_whole a → g ≡ of_whole b → a ≡ b → f ≈ g
equal_wholes {f} {g} a b p q e = record {
  left_defined = λ z. one_not_zero (sym (ap (λ x. x.bottom) p) ∙ z);
  right_defined = λ z. one_not_zero (sym (ap (λ x. x.bottom) q) ∙ z);
  cross = ap (λ x. x.top *ℤ g.bottom) p ∙ ap (λ x. a *ℤ x.bottom) q ∙ ap (λ z. z *ℤ pos 1) e
      ∙ sym (ap (λ x. x.top *ℤ f.bottom) q ∙ ap (λ x. b *ℤ x.bottom) p);
}

pub pow_not_zero : (z : ℤ) (e : ℕ) → z ≢ pos 0 → pow z e ≢ pos 0
unfolding pow lib.IntN.one
pow_not_zero z zero h e = one_not_zero e
pow_not_zero z (suc m) h e = product_not_zero z (pow z m) h (pow_not_zero z m h) (sym (pow-succ' z m) ∙ e)
