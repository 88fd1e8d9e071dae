-- Dividing the forms of a list out of a polynomial that isn't zero leaves one polynomial and one list of forms.
use Rattle.std.proofs.Common.{◌≡◌, ℕ, suc, ◌+◌, ◌-◌, ◌<◌, List, refl, ap, sym, ◌∙◌, subst, arith, ⊎_elim}
use Rattle.std.proofs.lemmas.Bool.{cases_lt}
use Rattle.ring_laws.specs.Meaning.{Meaning}
use Rattle.ring_laws.specs.Algebra.{same_passing}
use Rattle.poly_laws.specs.Values.{level}
use Rattle.poly_laws.proofs.ListLaws.{nought_product}
use Rattle.hypergeometric.specs.LinearForm.{Factor}
use Rattle.division_laws.specs.Polynomials.{Polynomial}
use Rattle.poly_laws.proofs.OneQuotient.{cancelled}
use Rattle.pole_laws.proofs.NormalPolynomials.{in_k}
use Rattle.pole_laws.proofs.FormProducts.{in_k_ring, no_divisors}
use Rattle.pole_laws.proofs.Cancelling.{form_in_k}
use Rattle.right_claims.specs.Cancelling.{Divides, staying, IsDividedOut, CancelsInOrder, all_done, next_form, LeavesInOrder, of_zero, of_nonzero}
use Rattle.right_claims.proofs.FormPowers.{power, power_is, power_split}

module _ (x : Factor) (y : Meaning) (some : ¬ (y ≡ (level 2).ops.nought)) where
  -- the equation between polynomials that belong
  multiple : (r : Polynomial (level 1)) (p : ℕ) → IsDividedOut x y r.0 p → y ≡ (in_k.product r (power x.form p)).0
  multiple r p h = h.is ∙ ap ((level 2).ops.product r.0) (sym (power_is x.form p))

  -- the power isn't zero, and the rest isn't
  power_some : (r : Polynomial (level 1)) (p : ℕ) → IsDividedOut x y r.0 p → ¬ (power x.form p ≡ in_k.nought)
  power_some r p h e = some (multiple r p h ∙ ap (λ (t : Polynomial (level 1)). t.0)
      (ap (in_k.product r) e ∙ in_k_ring.product_comm r in_k.nought ∙ nought_product in_k in_k_ring r))

  pub rest_some : (r : Polynomial (level 1)) (p : ℕ) → IsDividedOut x y r.0 p → ¬ (r.0 ≡ (level 2).ops.nought)
  rest_some r p h e = some (multiple r p h ∙ ap (λ (t : Polynomial (level 1)). t.0)
      (ap (λ t. in_k.product t (power x.form p)) (same_passing (level 2) r in_k.nought e) ∙ nought_product in_k in_k_ring (power x.form p)))

  both : (r s : Polynomial (level 1)) (p q : ℕ) → IsDividedOut x y r.0 p → IsDividedOut x y s.0 q
      → in_k.product r (power x.form p) ≡ in_k.product s (power x.form q)
  both r s p q h k = same_passing (level 2) (in_k.product r (power x.form p)) (in_k.product s (power x.form q)) (sym (multiple r p h) ∙ multiple s q k)

  -- where a greater power can be divided out, the form divides the rest
  divides_rest : (r s : Polynomial (level 1)) (p q d : ℕ) → IsDividedOut x y r.0 p → IsDividedOut x y s.0 q → q ≡ suc d + p → Divides x.form r.0
  divides_rest r s p q d h k e = record {
    quotient = in_k.product s (power x.form d);
    is = ap (λ (t : Polynomial (level 1)). t.0) (sym (left ∙ moved));
  }
    where
      left : r ≡ in_k.product s (power x.form (suc d))
      left = cancelled in_k in_k_ring no_divisors r (in_k.product s (power x.form (suc d))) (power x.form p) (power_some r p h)
          (both r s p q h k ∙ ap (in_k.product s) (power_split x.form (suc d) p q e)
          ∙ sym (in_k_ring.product_assoc s (power x.form (suc d)) (power x.form p)))

      moved : in_k.product s (power x.form (suc d)) ≡ in_k.product (in_k.product s (power x.form d)) (form_in_k x.form)
      moved = ap (in_k.product s) (in_k_ring.product_comm (form_in_k x.form) (power x.form d))
          ∙ sym (in_k_ring.product_assoc s (power x.form d) (form_in_k x.form))

  not_more : (r s : Polynomial (level 1)) (p q : ℕ) → IsDividedOut x y r.0 p → IsDividedOut x y s.0 q → ¬ (p < q)
  not_more r s p q h k l =
      let e : q ≡ suc (q - suc p) + p = omega (arith, l) in
      ⊎_elim (λ all. omega (arith, all, l, k.within)) (λ none. none (divides_rest r s p q (q - suc p) h k e)) h.most

  pub one_power : (r s : Polynomial (level 1)) (p q : ℕ) → IsDividedOut x y r.0 p → IsDividedOut x y s.0 q → p ≡ q
  one_power r s p q h k =
      ⊎_elim (λ b. absurd (not_more s r q p k h b))
      (λ b. ⊎_elim (λ c. absurd (not_more r s p q h k c)) (λ c. omega (arith, b, c)) (cases_lt p q))
      (cases_lt q p)

  pub one_rest : (r s : Polynomial (level 1)) (p q : ℕ) → IsDividedOut x y r.0 p → IsDividedOut x y s.0 q → r.0 ≡ s.0
  one_rest r s p q h k =
      ap (λ (t : Polynomial (level 1)). t.0)
      (cancelled in_k in_k_ring no_divisors r s (power x.form p) (power_some r p h)
      (both r s p q h k ∙ ap (λ n. in_k.product s (power x.form n)) (sym (one_power r s p q h k))))

pub one_cancelling : (xs : List Factor) (y left other : Meaning) (ps qs : List Factor) → ¬ (y ≡ (level 2).ops.nought)
    → CancelsInOrder xs y left ps → CancelsInOrder xs y other qs → (left ≡ other) × (ps ≡ qs)
one_cancelling _ _ _ _ _ _ some all_done all_done = (refl, refl)
one_cancelling _ y left other _ _ some (next_form {x} {xs} {poles = ps} r p h more) (next_form {poles = qs} s q k rest) =
    let later = one_cancelling xs r.0 left other ps qs (rest_some x y some r p h) more
    (subst (λ t. CancelsInOrder xs t other qs) (sym (one_rest x y some r s p q h k)) rest) in
    (later.0, λ i. staying x.form (x.power - one_power x y some r s p q h k i) (later.1 i))

-- what is left is one, of zero too
pub one_left_over : (xs : List Factor) (y left other : Meaning) (ps qs : List Factor) → LeavesInOrder xs y left ps → LeavesInOrder xs y other qs
    → (left ≡ other) × (ps ≡ qs)
one_left_over xs y _ _ _ _ (of_zero z) (of_zero w) = (refl, refl)
one_left_over xs y _ _ _ _ (of_zero z) (of_nonzero s h) = absurd (s z)
one_left_over xs y _ _ _ _ (of_nonzero s h) (of_zero z) = absurd (s z)
one_left_over xs y left other ps qs (of_nonzero s h) (of_nonzero t k) = one_cancelling xs y left other ps qs s h k
