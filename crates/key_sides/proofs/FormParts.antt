-- A form as a polynomial in k over a ring of forms: the part that is free of k, and the slope of k.
use Rattle.std.specs.Prelude.{◌≡◌, ℕ, zero, suc, ℤ, pos, negsuc, ◌+ℤ◌, List, [], ◌∷◌, map, refl}
use Rattle.std.proofs.Common.{ap, sym, ◌∙◌, arith}
use Rattle.std.proofs.lemmas.Int.{ints}
use Rattle.ring_laws.specs.Meaning.{Meaning, number, listed}
use Rattle.ring_laws.specs.Algebra.{Ops, RingLaws, Algebra, Passing, Laws, within, same_passing}
use Rattle.ring_laws.specs.WholeLaws.{whole_laws}
use Rattle.poly_laws.specs.Lists.{trimmed}
use Rattle.poly_laws.specs.Values.{level}
use Rattle.poly_laws.proofs.Coefficients.{meanings_of}
use Rattle.poly_laws.proofs.Equal.{level_laws}
use Rattle.poly_laws.proofs.OneQuotient.{cancel}
use Rattle.poly_laws.proofs.PolyLaws.{equal_coefficients}
use Rattle.division_laws.specs.Polynomials.{Polynomial}
use Rattle.division_laws.proofs.Polynomials.{listed_in, listed_at}
use Rattle.hypergeometric.specs.LinearForm.{LinearForm}
use Rattle.hypergeometric.specs.Products.{form_polynomial}
use Rattle.hypergeometric.proofs.FormPolynomials.{form_in}
use Rattle.form_rings.specs.Forms.{Forms, FormLaws}
use Rattle.form_rings.specs.OneVariable.{part_in_n, forms_in_n}
use Rattle.form_rings.specs.OneVariableLaws.{laws_in_n}
use Rattle.key_sides.specs.Lifted.{lifted}
use Rattle.key_sides.proofs.Lifts.{in_n, to_ring, lift_in, lift_at, at_mapped}

-- two sums of a number's ones that agree at 1
module _ {A : Type 0} (o : Ops A) (l : RingLaws o) where
  zero_of : (f : ℤ → A) → ((u v : ℤ) → f (u +ℤ v) ≡ o.sum (f u) (f v)) → f (pos 0) ≡ o.nought
  zero_of f add =
      let none : pos 0 ≡ pos 0 +ℤ pos 0 = omega (arith, ints) in
      cancel o l (f (pos 0)) o.nought (f (pos 0)) (sym (ap f none ∙ add (pos 0) (pos 0)) ∙ sym (l.nought_sum (f (pos 0))))

  module _ (f g : ℤ → A) (add_f : (u v : ℤ) → f (u +ℤ v) ≡ o.sum (f u) (f v)) (add_g : (u v : ℤ) → g (u +ℤ v) ≡ o.sum (g u) (g v))
      (one : f (pos 1) ≡ g (pos 1)) where
    upwards : (n : ℕ) → f (pos n) ≡ g (pos n)
    upwards zero = zero_of f add_f ∙ sym (zero_of g add_g)
    upwards (suc n) =
        let next : pos (suc n) ≡ pos n +ℤ pos 1 = omega (arith, ints) in
        ap f next ∙ add_f (pos n) (pos 1) ∙ (λ i. o.sum (upwards n i) (one i)) ∙ sym (ap g next ∙ add_g (pos n) (pos 1))

    pub same_multiples : (z : ℤ) → f z ≡ g z
    same_multiples (pos n) = upwards n
    same_multiples (negsuc n) =
        let none : negsuc n +ℤ pos (suc n) ≡ pos 0 = omega (arith, ints) in
        cancel o l (f (negsuc n)) (g (negsuc n)) (f (pos (suc n)))
        (sym (add_f (negsuc n) (pos (suc n))) ∙ ap f none ∙ upwards 0 ∙ sym (ap g none) ∙ add_g (negsuc n) (pos (suc n))
        ∙ ap (o.sum (g (negsuc n))) (sym (upwards (suc n))))

module _ (a : Algebra) (l : Laws a) (forms : Forms) (fl : FormLaws a forms) where
  abbrev base : Ops (Passing a)
  base = within a l.closed

  slope_part : ℤ → Passing a
  slope_part u = (forms.part u (pos 0) (pos 0), fl.part_passes u (pos 0) (pos 0))

  slopes_add : (u v : ℤ) → slope_part (u +ℤ v) ≡ base.sum (slope_part u) (slope_part v)
  unfolding slope_part
  slopes_add u v =
      let none : pos 0 ≡ pos 0 +ℤ pos 0 = omega (arith, ints) in
      same_passing a (slope_part (u +ℤ v)) (base.sum (slope_part u) (slope_part v))
      ((λ i. forms.part (u +ℤ v) (none i) (none i)) ∙ fl.part_sum u (pos 0) (pos 0) v (pos 0) (pos 0) (λ h. refl) (λ h. refl))

  times_add : (u v : ℤ)
      → base.product (base.whole (u +ℤ v)) (slope_part (pos 1))
      ≡ base.sum (base.product (base.whole u) (slope_part (pos 1))) (base.product (base.whole v) (slope_part (pos 1)))
  times_add u v =
      let x = slope_part (pos 1) in
      ap (λ t. base.product t x) (l.ring.whole_sum u v)
      ∙ l.ring.product_comm (base.sum (base.whole u) (base.whole v)) x ∙ l.ring.distributes x (base.whole u) (base.whole v)
      ∙ (λ i. base.sum (l.ring.product_comm x (base.whole u) i) (l.ring.product_comm x (base.whole v) i))

  slope_is : (u : ℤ) → slope_part u ≡ base.product (base.whole u) (slope_part (pos 1))
  slope_is u =
      same_multiples base l.ring slope_part (λ z. base.product (base.whole z) (slope_part (pos 1))) slopes_add times_add
      (sym (ap (λ t. base.product t (slope_part (pos 1))) l.ring.whole_one ∙ l.ring.unit_product (slope_part (pos 1)))) u

  -- a part is its slope times the variable, and its offset
  pub part_is : (u v : ℤ)
      → forms.part u (pos 0) v ≡ a.ops.sum (a.ops.product (a.ops.whole u) (forms.part (pos 1) (pos 0) (pos 0))) (a.ops.whole v)
  unfolding slope_part
  part_is u v =
      let none : pos 0 ≡ pos 0 +ℤ pos 0 = omega (arith, ints) in
      let left : u ≡ u +ℤ pos 0 = omega (arith, ints) in
      let right : v ≡ pos 0 +ℤ v = omega (arith, ints) in
      (λ i. forms.part (left i) (none i) (right i))
      ∙ fl.part_sum u (pos 0) (pos 0) (pos 0) (pos 0) v (λ h. refl) (λ h. refl)
      ∙ (λ i. a.ops.sum (slope_is u i).0 (fl.part_whole v i))

-- what a linear polynomial in n is over the ring
module _ (a : Algebra) (l : Laws a) (forms : Forms) (fl : FormLaws a forms) where
  in_n_part : (u v : ℤ) → Passing (level 1)
  in_n_part u v = (part_in_n u v, laws_in_n.part_passes u (pos 0) v)

  pub part_over : (u v : ℤ) → forms.of_n (part_in_n u v) ≡ forms.part u (pos 0) v
  part_over u v =
      let n : Passing (level 1) = (part_in_n (pos 1) (pos 0), laws_in_n.part_passes (pos 1) (pos 0) (pos 0)) in
      ap forms.of_n (part_is (level 1) (level_laws 1) forms_in_n laws_in_n u v)
      ∙ fl.of_n_sum (in_n.product (in_n.whole u) n) (in_n.whole v)
      ∙ (λ i. a.ops.sum (fl.of_n_product (in_n.whole u) n i) (fl.of_n_whole v i))
      ∙ (λ i. a.ops.sum (a.ops.product (fl.of_n_whole u i) (fl.of_n_variable i)) (a.ops.whole v))
      ∙ sym (part_is a l forms fl u v)

  -- a polynomial by its coefficients
  module _ (xs : List (Passing (level 1))) (m : List Meaning) (e : meanings_of (level 1) (level_laws 1).closed xs ≡ m)
      (f : meanings_of a l.closed (map (to_ring a l forms fl) xs) ≡ map forms.of_n m) where
    pub listed_over : lift_in a l forms fl (listed_in (level 1) (level_laws 1) xs m e) ≡ listed_in a l (map (to_ring a l forms fl) xs) (map forms.of_n m) f
    listed_over =
        equal_coefficients a l.closed l.ring (lift_in a l forms fl (listed_in (level 1) (level_laws 1) xs m e))
        (listed_in a l (map (to_ring a l forms fl) xs) (map forms.of_n m) f)
        (λ k. lift_at a l forms fl (listed_in (level 1) (level_laws 1) xs m e) k
        ∙ ap (to_ring a l forms fl) (listed_at (level 1) (level_laws 1) xs m e k)
        ∙ sym (at_mapped a l forms fl xs k)
        ∙ sym (listed_at a l (map (to_ring a l forms fl) xs) (map forms.of_n m) f k))

  free_part : LinearForm → Passing (level 1)
  free_part f =
      listed_in (level 0) whole_laws ((number f.offset, refl) ∷ (number f.n_slope, refl) ∷ []) (number f.offset ∷ number f.n_slope ∷ []) refl

  pub form_over : (f : LinearForm)
      → lifted a forms (form_polynomial f) ≡ listed (trimmed a.ops (forms.part f.n_slope (pos 0) f.offset ∷ a.ops.whole f.k_slope ∷ []))
  unfolding free_part
  form_over f =
      let xs : List (Passing (level 1)) = free_part f ∷ in_n.whole f.k_slope ∷ [] in
      let m : List Meaning = part_in_n f.n_slope f.offset ∷ (level 1).ops.whole f.k_slope ∷ [] in
      ap (λ (t : Polynomial (level 1)). lifted a forms t.0)
      (same_passing (level 2) (form_in f) (listed_in (level 1) (level_laws 1) xs m refl) refl)
      ∙ ap (λ (t : Polynomial a). t.0) (listed_over xs m refl refl)
      ∙ (λ i. listed (trimmed a.ops (part_over f.n_slope f.offset i ∷ fl.of_n_whole f.k_slope i ∷ [])))
