-- Polynomials in n and k over a ring of forms: sums, products, whole numbers and shifts are kept.
use Rattle.std.specs.Prelude.{◌≡◌, ℕ, ℤ, pos, List, [], ◌∷◌, map, refl}
use Rattle.std.proofs.Common.{ap, sym, ◌∙◌}
use Rattle.ring_laws.specs.Meaning.{items}
use Rattle.ring_laws.specs.Algebra.{Ops, Algebra, Passing, Laws, within, same_passing}
use Rattle.poly_laws.specs.Lists.{coefficient_at, list_product}
use Rattle.poly_laws.specs.Shift.{list_shift}
use Rattle.poly_laws.specs.Values.{level}
use Rattle.poly_laws.proofs.Coefficients.{meanings_of, meanings-coefficients}
use Rattle.poly_laws.proofs.Equal.{level_laws}
use Rattle.poly_laws.proofs.OneQuotient.{cancel}
use Rattle.poly_laws.proofs.PolyLaws.{equal_coefficients, coefficient-sum, coefficient-product, coefficient-whole, product_same, poly_ring}
use Rattle.poly_laws.proofs.ShiftedCoefficients.{shifted_same}
use Rattle.division_laws.specs.Polynomials.{Polynomial}
use Rattle.division_laws.proofs.Polynomials.{polynomials, list_of, part, listed_in, listed_at, shifted_in, shifted_at}
use Rattle.form_rings.specs.Forms.{Forms, FormLaws}
use Rattle.key_sides.proofs.RingMaps.{map_at, map_product, map_shift}

abbrev pub in_n : Ops (Passing (level 1))
in_n = within (level 1) (level_laws 1).closed

abbrev pub in_k : Ops (Polynomial (level 1))
in_k = polynomials (level 1) (level_laws 1)

module _ (a : Algebra) (l : Laws a) (forms : Forms) (fl : FormLaws a forms) where
  abbrev base : Ops (Passing a)
  base = within a l.closed

  abbrev P : Ops (Polynomial a)
  P = polynomials a l

  -- a polynomial in n over the ring
  abbrev pub to_ring : Passing (level 1) → Passing a
  to_ring f = (forms.of_n f.0, fl.of_n_passes f)

  pub to_whole : (w : ℤ) → to_ring (in_n.whole w) ≡ base.whole w
  to_whole w = same_passing a (to_ring (in_n.whole w)) (base.whole w) (fl.of_n_whole w)

  to_sum : (f g : Passing (level 1)) → to_ring (in_n.sum f g) ≡ base.sum (to_ring f) (to_ring g)
  to_sum f g = same_passing a (to_ring (in_n.sum f g)) (base.sum (to_ring f) (to_ring g)) (fl.of_n_sum f g)

  to_product : (f g : Passing (level 1)) → to_ring (in_n.product f g) ≡ base.product (to_ring f) (to_ring g)
  to_product f g = same_passing a (to_ring (in_n.product f g)) (base.product (to_ring f) (to_ring g)) (fl.of_n_product f g)

  to_nought : to_ring in_n.nought ≡ base.nought
  to_nought = ap to_ring (sym (level_laws 1).ring.whole_zero) ∙ to_whole (pos 0) ∙ l.ring.whole_zero

  firsts : (xs : List (Passing (level 1))) → meanings_of a l.closed (map to_ring xs) ≡ map forms.of_n (meanings_of (level 1) (level_laws 1).closed xs)
  firsts [] = refl
  firsts (x ∷ xs) = ap (λ t. forms.of_n x.0 ∷ t) (firsts xs)

  pub firsts_of : (f : Polynomial (level 1)) → meanings_of a l.closed (map to_ring (list_of (level 1) (level_laws 1) f)) ≡ map forms.of_n (items f.0)
  firsts_of f = firsts (list_of (level 1) (level_laws 1) f) ∙ ap (map forms.of_n) (meanings-coefficients (level 1) (level_laws 1).closed f)

  -- the polynomial over the ring
  abbrev pub lift_in : Polynomial (level 1) → Polynomial a
  lift_in f = listed_in a l (map to_ring (list_of (level 1) (level_laws 1) f)) (map forms.of_n (items f.0)) (firsts_of f)

  pub listed_part : (f : Polynomial (level 1)) (k : ℕ)
      → part a l (lift_in f) k ≡ coefficient_at base (map to_ring (list_of (level 1) (level_laws 1) f)) k
  listed_part f k = listed_at a l (map to_ring (list_of (level 1) (level_laws 1) f)) (map forms.of_n (items f.0)) (firsts_of f) k

  pub at_mapped : (xs : List (Passing (level 1))) (k : ℕ) → coefficient_at base (map to_ring xs) k ≡ to_ring (coefficient_at in_n xs k)
  at_mapped xs k = map_at in_n base to_ring to_nought to_sum to_product xs k

  pub lift_at : (f : Polynomial (level 1)) (k : ℕ) → part a l (lift_in f) k ≡ to_ring (part (level 1) (level_laws 1) f k)
  lift_at f k = listed_part f k ∙ at_mapped (list_of (level 1) (level_laws 1) f) k

  pub lift_sum : (f g : Polynomial (level 1)) → lift_in (in_k.sum f g) ≡ P.sum (lift_in f) (lift_in g)
  lift_sum f g =
      equal_coefficients a l.closed l.ring (lift_in (in_k.sum f g)) (P.sum (lift_in f) (lift_in g))
      (λ k. lift_at (in_k.sum f g) k
      ∙ ap to_ring (coefficient-sum (level 1) (level_laws 1).closed (level_laws 1).ring f g k)
      ∙ to_sum (part (level 1) (level_laws 1) f k) (part (level 1) (level_laws 1) g k)
      ∙ sym (coefficient-sum a l.closed l.ring (lift_in f) (lift_in g) k ∙ (λ i. base.sum (lift_at f k i) (lift_at g k i))))

  pub lift_product : (f g : Polynomial (level 1)) → lift_in (in_k.product f g) ≡ P.product (lift_in f) (lift_in g)
  lift_product f g =
      let xs = list_of (level 1) (level_laws 1) f in
      let ys = list_of (level 1) (level_laws 1) g in
      equal_coefficients a l.closed l.ring (lift_in (in_k.product f g)) (P.product (lift_in f) (lift_in g))
      (λ k. lift_at (in_k.product f g) k
      ∙ ap to_ring (coefficient-product (level 1) (level_laws 1).closed (level_laws 1).ring f g k)
      ∙ sym (at_mapped (list_product in_n xs ys) k)
      ∙ ap (λ t. coefficient_at base t k) (map_product in_n base to_ring to_nought to_sum to_product xs ys)
      ∙ sym (product_same a l.closed l.ring (lift_in f) (lift_in g) (map to_ring xs) (map to_ring ys) (listed_part f) (listed_part g) k))

  pub lift_shift : (w : ℤ) (f : Polynomial (level 1)) → lift_in (shifted_in (level 1) (level_laws 1) w f) ≡ shifted_in a l w (lift_in f)
  lift_shift w f =
      let xs = list_of (level 1) (level_laws 1) f in
      equal_coefficients a l.closed l.ring (lift_in (shifted_in (level 1) (level_laws 1) w f)) (shifted_in a l w (lift_in f))
      (λ k. lift_at (shifted_in (level 1) (level_laws 1) w f) k
      ∙ ap to_ring (shifted_at (level 1) (level_laws 1) w f k)
      ∙ sym (at_mapped (list_shift in_n (in_n.whole w) xs) k)
      ∙ ap (λ t. coefficient_at base t k) (map_shift in_n base to_ring to_nought to_sum to_product (in_n.whole w) xs)
      ∙ ap (λ t. coefficient_at base (list_shift base t (map to_ring xs)) k) (to_whole w)
      ∙ sym (shifted_at a l w (lift_in f) k
      ∙ shifted_same base l.ring (base.whole w) (list_of a l (lift_in f)) (map to_ring xs) (listed_part f) k))

  pub lift_whole : (w : ℤ) → lift_in (in_k.whole w) ≡ P.whole w
  lift_whole w =
      equal_coefficients a l.closed l.ring (lift_in (in_k.whole w)) (P.whole w)
      (λ k. lift_at (in_k.whole w) k
      ∙ ap to_ring (coefficient-whole (level 1) (level_laws 1).closed (level_laws 1).ring w k)
      ∙ sym (at_mapped (in_n.whole w ∷ []) k)
      ∙ ap (λ t. coefficient_at base (t ∷ []) k) (to_whole w)
      ∙ sym (coefficient-whole a l.closed l.ring w k))

  pub lift_nought : lift_in in_k.nought ≡ P.nought
  lift_nought =
      ap lift_in (sym (poly_ring (level 1) (level_laws 1).closed (level_laws 1).ring).whole_zero) ∙ lift_whole (pos 0)
      ∙ (poly_ring a l.closed l.ring).whole_zero

  pub lift_unit : lift_in in_k.unit ≡ P.unit
  lift_unit =
      ap lift_in (sym (poly_ring (level 1) (level_laws 1).closed (level_laws 1).ring).whole_one) ∙ lift_whole (pos 1)
      ∙ (poly_ring a l.closed l.ring).whole_one

  pub lift_neg : (f : Polynomial (level 1)) → lift_in (in_k.neg f) ≡ P.neg (lift_in f)
  lift_neg f =
      let r = poly_ring a l.closed l.ring in
      let s = poly_ring (level 1) (level_laws 1).closed (level_laws 1).ring in
      cancel P r (lift_in (in_k.neg f)) (P.neg (lift_in f)) (lift_in f)
      (sym (lift_sum (in_k.neg f) f) ∙ ap lift_in (s.sum_comm (in_k.neg f) f ∙ s.sum_neg f) ∙ lift_nought
      ∙ sym (r.sum_comm (P.neg (lift_in f)) (lift_in f) ∙ r.sum_neg (lift_in f)))
