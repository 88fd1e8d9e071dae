-- Only zero of the polynomials in n, and of those in n and k, is zero over a ring of forms.
use Rattle.std.specs.Prelude.{◌≡◌, ℤ, pos, ◌+ℤ◌, ◌*ℤ◌, List, [], ◌∷◌, length, refl}
use Rattle.std.proofs.Common.{ap, sym, ◌∙◌, arith}
use Rattle.ring_solver.proofs.Read.{ring_z, reading_z}
use Rattle.ring_laws.specs.Algebra.{Ops, Algebra, Passing, Laws, within, same_passing}
use Rattle.ring_laws.specs.Wholes.{number_of, whole_algebra}
use Rattle.ring_laws.specs.WholeLaws.{whole_laws}
use Rattle.poly_laws.specs.PolyAlgebra.{poly_algebra}
use Rattle.poly_laws.specs.Values.{horner, value_at, level}
use Rattle.poly_laws.proofs.Coefficients.{meanings_of}
use Rattle.poly_laws.proofs.Equal.{level_laws, same_values, nought_only}
use Rattle.poly_laws.proofs.Keeps.{whole_keeps, value_at_keeps, of_list}
use Rattle.poly_laws.proofs.PolyLaws.{equal_coefficients, coefficient-nought}
use Rattle.division_laws.specs.Polynomials.{Polynomial}
use Rattle.division_laws.proofs.Polynomials.{polynomials, part, list_of, listed_in, listed_at}
use Rattle.form_rings.specs.Forms.{Forms, FormLaws, variable_n}
use Rattle.key_sides.proofs.Lifts.{in_n, in_k, to_ring, lift_in, lift_at}

-- the polynomial in n with these coefficients
in_list : List (Passing whole_algebra) → Passing (level 1)
in_list xs = listed_in (level 0) whole_laws xs (meanings_of whole_algebra whole_laws.closed xs) refl

in_list_value : (n : ℤ) (xs : List (Passing whole_algebra))
    → value_at (n ∷ []) (in_list xs).0 ≡ horner number_of n (meanings_of whole_algebra whole_laws.closed xs)
unfolding in_list
in_list_value n xs = of_list whole_algebra.ops number_of whole_keeps n (meanings_of whole_algebra whole_laws.closed xs)

variable : Passing (level 1)
variable = (variable_n, refl)

by_one : (n : ℤ) → pos 0 +ℤ n *ℤ (pos 1 +ℤ n *ℤ pos 0) ≡ n
by_one n = ring_z (n ∷ []) (search reading_z depth 40 fits 20000) refl

-- its first coefficient, and n times the others
in_list_next : (x : Passing whole_algebra) (xs : List (Passing whole_algebra))
    → in_list (x ∷ xs) ≡ in_n.sum (in_n.whole (number_of x.0)) (in_n.product variable (in_list xs))
unfolding in_list_value variable
in_list_next x xs = same_values 1 (in_list (x ∷ xs)) (in_n.sum (in_n.whole (number_of x.0)) (in_n.product variable (in_list xs))) at
  where
    at : (point : List ℤ) → length point ≡ 1
        → value_at point (in_list (x ∷ xs)).0 ≡ value_at point (in_n.sum (in_n.whole (number_of x.0)) (in_n.product variable (in_list xs))).0
    at [] e = absurd (omega arith)
    at (n ∷ m ∷ rest) e = absurd (omega arith)
    at (n ∷ []) e =
        let v = horner number_of n (meanings_of whole_algebra whole_laws.closed xs) in
        let sum = (value_at_keeps (n ∷ [])).sum (in_n.whole (number_of x.0)).0 (in_n.product variable (in_list xs)).0 in
        let whole = (value_at_keeps (n ∷ [])).whole (number_of x.0) in
        let product = (value_at_keeps (n ∷ [])).product variable.0 (in_list xs).0 in
        let one : value_at (n ∷ []) variable_n ≡ n = by_one n in
        in_list_value n (x ∷ xs)
        ∙ sym (sum ∙ (λ i. whole i +ℤ (product ∙ (λ j. one j *ℤ in_list_value n xs j)) i))

module _ (a : Algebra) (l : Laws a) (forms : Forms) (fl : FormLaws a forms) where
  base : Ops (Passing a)
  base = within a l.closed

  slope : (m : ℤ) → pos 1 *ℤ m +ℤ pos 0 *ℤ pos 0 +ℤ pos 0 ≡ m
  slope m = ring_z (m ∷ []) (search reading_z depth 40 fits 20000) refl

  variable_value : (m : ℤ) → forms.value m (pos 0) (forms.of_n variable_n) ≡ m
  variable_value m =
      ap (forms.value m (pos 0)) fl.of_n_variable
      ∙ fl.part_value m (pos 0) (pos 1) (pos 0) (pos 0) (λ h. refl) ∙ slope m

  -- a value of a polynomial in n over the ring is its value
  value_over : (n : ℤ) (xs : List (Passing whole_algebra))
      → forms.value n (pos 0) (forms.of_n (in_list xs).0) ≡ horner number_of n (meanings_of whole_algebra whole_laws.closed xs)
  unfolding in_list variable
  value_over n [] =
      ap (λ (t : Passing (level 1)). forms.value n (pos 0) (forms.of_n t.0)) (sym (level_laws 1).ring.whole_zero)
      ∙ ap (forms.value n (pos 0)) (fl.of_n_whole (pos 0)) ∙ fl.value_whole n (pos 0) (pos 0)
  value_over n (x ∷ xs) =
      let p : Passing a = to_ring a l forms fl (in_list xs) in
      let w : Passing a = to_ring a l forms fl (in_n.whole (number_of x.0)) in
      let v : Passing a = to_ring a l forms fl variable in
      let vp : Passing a = to_ring a l forms fl (in_n.product variable (in_list xs)) in
      ap (λ (t : Passing (level 1)). forms.value n (pos 0) (forms.of_n t.0)) (in_list_next x xs)
      ∙ ap (forms.value n (pos 0)) (fl.of_n_sum (in_n.whole (number_of x.0)) (in_n.product variable (in_list xs)))
      ∙ fl.value_sum n (pos 0) w vp
      ∙ (λ i. (ap (forms.value n (pos 0)) (fl.of_n_whole (number_of x.0)) ∙ fl.value_whole n (pos 0) (number_of x.0)) i
      +ℤ (ap (forms.value n (pos 0)) (fl.of_n_product variable (in_list xs)) ∙ fl.value_product n (pos 0) v p
      ∙ (λ j. variable_value n j *ℤ value_over n xs j)) i)

  same_list : (f : Passing (level 1)) → in_list (list_of (level 0) whole_laws f) ≡ f
  unfolding in_list
  same_list f =
      equal_coefficients whole_algebra whole_laws.closed whole_laws.ring (in_list (list_of (level 0) whole_laws f)) f
      (λ k. listed_at (level 0) whole_laws (list_of (level 0) whole_laws f)
      (meanings_of whole_algebra whole_laws.closed (list_of (level 0) whole_laws f)) refl k)

  -- only zero becomes zero
  pub only_zero : (f : Passing (level 1)) → forms.of_n f.0 ≡ a.ops.nought → f.0 ≡ (level 1).ops.nought
  only_zero f e = nought_only 1 f at
    where
      zero : (n : ℤ) → forms.value n (pos 0) a.ops.nought ≡ pos 0
      zero n = ap (λ (t : Passing a). forms.value n (pos 0) t.0) (sym l.ring.whole_zero) ∙ fl.value_whole n (pos 0) (pos 0)

      at : (point : List ℤ) → length point ≡ 1 → value_at point f.0 ≡ pos 0
      at [] b = absurd (omega arith)
      at (n ∷ m ∷ rest) b = absurd (omega arith)
      at (n ∷ []) b =
          let xs = list_of (level 0) whole_laws f in
          ap (λ (t : Passing (level 1)). value_at (n ∷ []) t.0) (sym (same_list f)) ∙ in_list_value n xs ∙ sym (value_over n xs)
          ∙ ap (λ (t : Passing (level 1)). forms.value n (pos 0) (forms.of_n t.0)) (same_list f)
          ∙ ap (forms.value n (pos 0)) e ∙ zero n

  pub lifted_zero : (f : Polynomial (level 1)) → (lift_in a l forms fl f).0 ≡ (poly_algebra a).ops.nought → f.0 ≡ (level 2).ops.nought
  lifted_zero f e =
      ap (λ (t : Polynomial (level 1)). t.0)
      (equal_coefficients (level 1) (level_laws 1).closed (level_laws 1).ring f in_k.nought
      (λ k. same_passing (level 1) (part (level 1) (level_laws 1) f k) in_n.nought (only_zero (part (level 1) (level_laws 1) f k)
      (ap (λ (t : Passing a). t.0) (sym (lift_at a l forms fl f k) ∙ ap (λ t. part a l t k) none ∙ coefficient-nought a l.closed l.ring k)))
      ∙ sym (coefficient-nought (level 1) (level_laws 1).closed (level_laws 1).ring k)))
    where
      none : lift_in a l forms fl f ≡ (polynomials a l).nought
      none = same_passing (poly_algebra a) (lift_in a l forms fl f) (polynomials a l).nought e
