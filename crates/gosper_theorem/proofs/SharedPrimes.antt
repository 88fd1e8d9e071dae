-- Two primitive forms with k slopes that a prime divides are the same.
use Rattle.std.specs.Prelude.{◌≡◌, ◌≢◌, ℕ, ℤ, pos, ◌+ℤ◌, ◌*ℤ◌, [], ◌∷◌, refl}
use Rattle.std.proofs.Common.{ap, sym, ◌∙◌, ⊎_elim, arith}
use Rattle.std.proofs.lemmas.Int.{ints}
use Rattle.ring_solver.proofs.Linear.{product_zero}
use Rattle.ring_solver.proofs.Read.{ring_z, reading_z, reading, ring}
use Rattle.ring_laws.specs.Algebra.{RingLaws, Passing}
use Rattle.poly_laws.specs.Values.{value_at, level}
use Rattle.poly_laws.proofs.Equal.{level_laws}
use Rattle.poly_laws.proofs.Keeps.{value_at_keeps}
use Rattle.poly_laws.proofs.ListLaws.{nought_product, sum_nought}
use Rattle.poly_laws.proofs.PolyLaws.{coefficient-product}
use Rattle.poly_laws.proofs.Rings.{solvable}
use Rattle.poly_laws.proofs.OneQuotient.{cancelled}
use Rattle.poly_laws.proofs.ProductTops.{product_top, product_second}
use Rattle.division_laws.specs.Polynomials.{Polynomial}
use Rattle.division_laws.specs.Divisors.{HasDegree, Divides}
use Rattle.division_laws.proofs.Polynomials.{list_of, part}
use Rattle.division_laws.proofs.Degrees.{ends, lead_some, no_divisors}
use Rattle.division_laws.proofs.Divisors.{equation, free_product}
use Rattle.hypergeometric.specs.LinearForm.{LinearForm}
use Rattle.hypergeometric.specs.FormOrder.{IsPrimitive}
use Rattle.hypergeometric.specs.Forms.{form_with, multiple}
use Rattle.hypergeometric.proofs.OnlyPrimitive.{only_primitive}
use Rattle.pole_laws.proofs.Cancelling.{form_in_k}
use Rattle.pole_laws.proofs.Domains.{in_n_domain}
use Rattle.pole_laws.proofs.FormProducts.{in_k_ring}
use Rattle.pole_laws.proofs.NormalPolynomials.{in_k}
use Rattle.gosper_theorem.proofs.FormDivisors.{Prime}
use Rattle.gosper_theorem.proofs.EqualForms.{in_n, free_part, form_part, form_degree, free_value, quotient_free}

in_n_ring : RingLaws in_n
in_n_ring = (level_laws 1).ring

-- the two coefficients of a product of something free of k and a form
module _ (c : Polynomial (level 1)) (free : HasDegree (level 1) c 0) (f : LinearForm) (slope : f.k_slope ≢ pos 0) where
  abbrev c0 : Passing (level 1)
  c0 = part (level 1) (level_laws 1) c 0

  top_is : part (level 1) (level_laws 1) (in_k.product c (form_in_k f)) 1 ≡ in_n.product c0 (in_n.whole f.k_slope)
  top_is =
      coefficient-product (level 1) (level_laws 1).closed in_n_ring c (form_in_k f) 1
      ∙ product_top in_n in_n_ring (list_of (level 1) (level_laws 1) c) (list_of (level 1) (level_laws 1) (form_in_k f)) 0 1 1
      (ends (level 1) (level_laws 1) in_n_domain c 0 free) (ends (level 1) (level_laws 1) in_n_domain (form_in_k f) 1 (form_degree f slope)) (omega arith)
      ∙ ap (in_n.product c0) (form_part f 1)

  free_is : part (level 1) (level_laws 1) (in_k.product c (form_in_k f)) 0 ≡ in_n.product c0 (free_part f)
  free_is =
      coefficient-product (level 1) (level_laws 1).closed in_n_ring c (form_in_k f) 0
      ∙ product_second in_n in_n_ring (list_of (level 1) (level_laws 1) c) (list_of (level 1) (level_laws 1) (form_in_k f)) 0 1 0
      (ends (level 1) (level_laws 1) in_n_domain c 0 free) (ends (level 1) (level_laws 1) in_n_domain (form_in_k f) 1 (form_degree f slope)) (omega arith)
      ∙ ap (in_n.sum (in_n.product c0 (part (level 1) (level_laws 1) (form_in_k f) 0)))
      (nought_product in_n in_n_ring (part (level 1) (level_laws 1) (form_in_k f) 1))
      ∙ sum_nought in_n in_n_ring (in_n.product c0 (part (level 1) (level_laws 1) (form_in_k f) 0))
      ∙ ap (in_n.product c0) (form_part f 0)

exchanged : (h c s p k : Polynomial (level 1)) → in_k.product c s ≡ in_k.product p k → in_k.product (in_k.product h c) s ≡ in_k.product p (in_k.product h k)
exchanged h c s p k e = in_k_ring.product_assoc h c s ∙ ap (in_k.product h) e ∙ moved h p k
  where
    moved : (h p k : Polynomial (level 1)) → in_k.product h (in_k.product p k) ≡ in_k.product p (in_k.product h k)
    moved h p k = ring (solvable in_k in_k_ring) (h ∷ p ∷ k ∷ []) (search reading depth 40 fits 20000) refl

-- x u = y v and x s = y t: v s = u t
crossed : (x y u v s t : Passing (level 1)) → ¬ (x ≡ in_n.nought) → in_n.product x u ≡ in_n.product y v → in_n.product x s ≡ in_n.product y t
    → in_n.product v s ≡ in_n.product u t
crossed x y u v s t some e f =
    cancelled in_n in_n_ring (no_divisors (level 1) (level_laws 1) in_n_domain) (in_n.product v s) (in_n.product u t) x some
    (first v s x ∙ ap (in_n.product v) f ∙ second v y t ∙ ap (λ z. in_n.product z t) (sym e) ∙ third x u t)
  where
    first : (v s x : Passing (level 1)) → in_n.product (in_n.product v s) x ≡ in_n.product v (in_n.product x s)
    first v s x = ring (solvable in_n in_n_ring) (v ∷ s ∷ x ∷ []) (search reading depth 40 fits 20000) refl

    second : (v y t : Passing (level 1)) → in_n.product v (in_n.product y t) ≡ in_n.product (in_n.product y v) t
    second v y t = ring (solvable in_n in_n_ring) (v ∷ y ∷ t ∷ []) (search reading depth 40 fits 20000) refl

    third : (x u t : Passing (level 1)) → in_n.product (in_n.product x u) t ≡ in_n.product (in_n.product u t) x
    third x u t = ring (solvable in_n in_n_ring) (x ∷ u ∷ t ∷ []) (search reading depth 40 fits 20000) refl

-- the numbers of linear polynomials in n whose multiples agree
numbers : (u v a b c e : ℤ) → ((n : ℤ) → v *ℤ (a *ℤ n +ℤ b) ≡ u *ℤ (c *ℤ n +ℤ e)) → (v *ℤ a ≡ u *ℤ c) × (v *ℤ b ≡ u *ℤ e)
numbers u v a b c e h = (apart (v *ℤ a) (v *ℤ b) (u *ℤ c) (u *ℤ e) (sym (one v a b) ∙ h (pos 1) ∙ one u c e) offset, offset)
  where
    none : (v a b : ℤ) → v *ℤ (a *ℤ pos 0 +ℤ b) ≡ v *ℤ b
    none v a b = ring_z (v ∷ a ∷ b ∷ []) (search reading_z depth 40 fits 20000) refl

    one : (v a b : ℤ) → v *ℤ (a *ℤ pos 1 +ℤ b) ≡ v *ℤ a +ℤ v *ℤ b
    one v a b = ring_z (v ∷ a ∷ b ∷ []) (search reading_z depth 40 fits 20000) refl

    offset : v *ℤ b ≡ u *ℤ e
    offset = sym (none v a b) ∙ h (pos 0) ∙ none u c e

    apart : (p q r s : ℤ) → p +ℤ q ≡ r +ℤ s → q ≡ s → p ≡ r
    apart p q r s x y = omega (arith, ints, x, y)

pub same_forms : (p : Polynomial (level 1)) → Prime p → (s t : LinearForm) → s.k_slope ≢ pos 0 → t.k_slope ≢ pos 0 → IsPrimitive s → IsPrimitive t
    → Divides (level 1) p (form_in_k s) → Divides (level 1) p (form_in_k t) → s ≡ t
same_forms p prime s t of_s of_t s_primitive t_primitive h k =
    (only_primitive t.k_slope s.k_slope s t
    (λ i. form_with (agree.0 i) (turned t.k_slope s.k_slope i) (agree.1 i)) some s_primitive t_primitive).1
  where
    c : Polynomial (level 1)
    c = in_k.product k.quotient h.factor

    e : Polynomial (level 1)
    e = in_k.product h.quotient k.factor

    c_free : HasDegree (level 1) (in_k.product k.quotient h.factor) 0
    c_free = free_product (level 1) (level_laws 1) in_n_domain k.quotient h.factor (quotient_free p prime t of_t k) h.free

    e_free : HasDegree (level 1) (in_k.product h.quotient k.factor) 0
    e_free = free_product (level 1) (level_laws 1) in_n_domain h.quotient k.factor (quotient_free p prime s of_s h) k.free

    both : in_k.product (in_k.product k.quotient h.factor) (form_in_k s) ≡ in_k.product (in_k.product h.quotient k.factor) (form_in_k t)
    both =
        exchanged k.quotient h.factor (form_in_k s) p h.quotient (equation (level 1) (level_laws 1) in_n_domain p (form_in_k s) h)
        ∙ ap (in_k.product p) (in_k_ring.product_comm k.quotient h.quotient)
        ∙ sym (exchanged h.quotient k.factor (form_in_k t) p k.quotient (equation (level 1) (level_laws 1) in_n_domain p (form_in_k t) k))

    at : (i : ℕ) → part (level 1) (level_laws 1) (in_k.product (in_k.product k.quotient h.factor) (form_in_k s)) i
        ≡ part (level 1) (level_laws 1) (in_k.product (in_k.product h.quotient k.factor) (form_in_k t)) i
    at i = ap (λ z. part (level 1) (level_laws 1) z i) both

    in_n_same : in_n.product (in_n.whole t.k_slope) (free_part s) ≡ in_n.product (in_n.whole s.k_slope) (free_part t)
    in_n_same =
        crossed (part (level 1) (level_laws 1) (in_k.product k.quotient h.factor) 0) (part (level 1) (level_laws 1) (in_k.product h.quotient k.factor) 0)
        (in_n.whole s.k_slope) (in_n.whole t.k_slope) (free_part s) (free_part t)
        (lead_some (level 1) (level_laws 1) in_n_domain (in_k.product k.quotient h.factor) 0 c_free)
        (sym (top_is (in_k.product k.quotient h.factor) c_free s of_s) ∙ at 1 ∙ top_is (in_k.product h.quotient k.factor) e_free t of_t)
        (sym (free_is (in_k.product k.quotient h.factor) c_free s of_s) ∙ at 0 ∙ free_is (in_k.product h.quotient k.factor) e_free t of_t)

    product_at : (w : ℤ) (f : LinearForm) (n : ℤ)
        → value_at (n ∷ []) (in_n.product (in_n.whole w) (free_part f)).0 ≡ w *ℤ (f.n_slope *ℤ n +ℤ f.offset)
    product_at w f n =
        (value_at_keeps (n ∷ [])).product ((level 1).ops.whole w) (free_part f).0
        ∙ (λ i. (value_at_keeps (n ∷ [])).whole w i *ℤ free_value f n i)

    agree : (t.k_slope *ℤ s.n_slope ≡ s.k_slope *ℤ t.n_slope) × (t.k_slope *ℤ s.offset ≡ s.k_slope *ℤ t.offset)
    agree =
        numbers s.k_slope t.k_slope s.n_slope s.offset t.n_slope t.offset
        (λ n. sym (product_at t.k_slope s n) ∙ ap (λ (z : Passing (level 1)). value_at (n ∷ []) z.0) in_n_same ∙ product_at s.k_slope t n)

    turned : (a b : ℤ) → a *ℤ b ≡ b *ℤ a
    turned a b = ring_z (a ∷ b ∷ []) (search reading_z depth 40 fits 20000) refl

    some : multiple t.k_slope s ≢ form_with (pos 0) (pos 0) (pos 0)
    some z = ⊎_elim of_t of_s (product_zero t.k_slope s.k_slope (ap (λ (f : LinearForm). f.k_slope) z))
