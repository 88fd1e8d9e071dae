-- Dividing the forms of a list out of a polynomial leaves one polynomial and one list of forms, over any domain.
use Rattle.std.proofs.Common.{◌≡◌, ℕ, zero, suc, ◌+◌, ◌-◌, ◌<◌, List, refl, ap, sym, ◌∙◌, subst, arith, ⊎_elim}
use Rattle.std.proofs.lemmas.Bool.{cases_lt}
use Rattle.ring_laws.specs.Meaning.{Meaning}
use Rattle.ring_laws.specs.Algebra.{Ops, Algebra, Passing, Laws, within, same_passing}
use Rattle.ring_laws.specs.Division.{DomainLaws}
use Rattle.poly_laws.specs.Powers.{power_in}
use Rattle.poly_laws.proofs.ListLaws.{nought_product}
use Rattle.poly_laws.proofs.OneQuotient.{NoDivisors, cancelled}
use Rattle.poly_laws.proofs.PolyDomain.{no_divisors_within}
use Rattle.poly_laws.proofs.Squaring.{power_first}
use Rattle.kernel_laws.specs.RowSteps.{HasQuotient}
use Rattle.hypergeometric.specs.LinearForm.{LinearForm, Factor}
use Rattle.key_equation.specs.Cancelling.{staying, IsDividedOut, CancelsInOrder, all_done, next_form, LeavesInOrder, of_zero, of_nonzero}

module _ (a : Algebra) (l : Laws a) (d : DomainLaws a) where
  abbrev o : Ops (Passing a)
  o = within a l.closed

  no_divisors : NoDivisors (within a l.closed)
  no_divisors = no_divisors_within a l.closed d

  module _ (form : Passing a) where
    power_split : (m p k : ℕ) → k ≡ m + p → power_in o form k ≡ o.product (power_in o form m) (power_in o form p)
    power_split zero p k e = let same : k ≡ p = omega (arith, e) in ap (power_in o form) same ∙ sym (l.ring.unit_product (power_in o form p))
    power_split (suc m) p zero e = absurd (omega (arith, e))
    power_split (suc m) p (suc k) e =
        let same : k ≡ m + p = omega (arith, e) in
        ap (o.product form) (power_split m p k same) ∙ sym (l.ring.product_assoc form (power_in o form m) (power_in o form p))

    module _ (powers : ℕ) (y : Meaning) (some : ¬ (y ≡ a.ops.nought)) where
      multiple : (r : Passing a) (p : ℕ) → IsDividedOut a form.0 powers y r.0 p → y ≡ (o.product r (power_in o form p)).0
      multiple r p h = h.is ∙ ap (a.ops.product r.0) (sym (power_first a l form p))

      power_some : (r : Passing a) (p : ℕ) → IsDividedOut a form.0 powers y r.0 p → ¬ (power_in o form p ≡ o.nought)
      power_some r p h e = some (multiple r p h ∙ ap (λ (t : Passing a). t.0)
          (ap (o.product r) e ∙ l.ring.product_comm r o.nought ∙ nought_product o l.ring r))

      rest_some : (r : Passing a) (p : ℕ) → IsDividedOut a form.0 powers y r.0 p → ¬ (r.0 ≡ a.ops.nought)
      rest_some r p h e = some (multiple r p h ∙ ap (λ (t : Passing a). t.0)
          (ap (λ t. o.product t (power_in o form p)) (same_passing a r o.nought e) ∙ nought_product o l.ring (power_in o form p)))

      both : (r s : Passing a) (p q : ℕ) → IsDividedOut a form.0 powers y r.0 p → IsDividedOut a form.0 powers y s.0 q
          → o.product r (power_in o form p) ≡ o.product s (power_in o form q)
      both r s p q h k =
          same_passing a (o.product r (power_in o form p)) (o.product s (power_in o form q)) (sym (multiple r p h) ∙ multiple s q k)

      -- where a greater power can be divided out, the form divides the rest
      divides_rest : (r s : Passing a) (p q m : ℕ) → IsDividedOut a form.0 powers y r.0 p → IsDividedOut a form.0 powers y s.0 q → q ≡ suc m + p
          → HasQuotient a form.0 r.0
      divides_rest r s p q m h k e = record {
        quotient = o.product s (power_in o form m);
        is = ap (λ (t : Passing a). t.0) (sym (left ∙ moved));
      }
        where
          left : r ≡ o.product s (power_in o form (suc m))
          left = cancelled o l.ring no_divisors r (o.product s (power_in o form (suc m))) (power_in o form p) (power_some r p h)
              (both r s p q h k ∙ ap (o.product s) (power_split (suc m) p q e)
              ∙ sym (l.ring.product_assoc s (power_in o form (suc m)) (power_in o form p)))

          moved : o.product s (power_in o form (suc m)) ≡ o.product (o.product s (power_in o form m)) form
          moved = ap (o.product s) (l.ring.product_comm form (power_in o form m)) ∙ sym (l.ring.product_assoc s (power_in o form m) form)

      not_more : (r s : Passing a) (p q : ℕ) → IsDividedOut a form.0 powers y r.0 p → IsDividedOut a form.0 powers y s.0 q → ¬ (p < q)
      not_more r s p q h k b =
          let e : q ≡ suc (q - suc p) + p = omega (arith, b) in
          ⊎_elim (λ all. omega (arith, all, b, k.within)) (λ none. none (divides_rest r s p q (q - suc p) h k e)) h.most

      one_power : (r s : Passing a) (p q : ℕ) → IsDividedOut a form.0 powers y r.0 p → IsDividedOut a form.0 powers y s.0 q → p ≡ q
      one_power r s p q h k =
          ⊎_elim (λ b. absurd (not_more s r q p k h b))
          (λ b. ⊎_elim (λ c. absurd (not_more r s p q h k c)) (λ c. omega (arith, b, c)) (cases_lt p q))
          (cases_lt q p)

      one_rest : (r s : Passing a) (p q : ℕ) → IsDividedOut a form.0 powers y r.0 p → IsDividedOut a form.0 powers y s.0 q → r.0 ≡ s.0
      one_rest r s p q h k =
          ap (λ (t : Passing a). t.0)
          (cancelled o l.ring no_divisors r s (power_in o form p) (power_some r p h)
          (both r s p q h k ∙ ap (λ n. o.product s (power_in o form n)) (sym (one_power r s p q h k))))

  module _ (polynomial : LinearForm → Passing a) where
    abbrev meaning : LinearForm → Meaning
    meaning f = (polynomial f).0

    one_cancelling : (xs : List Factor) (y left other : Meaning) (ps qs : List Factor) → ¬ (y ≡ a.ops.nought)
        → CancelsInOrder a meaning xs y left ps → CancelsInOrder a meaning xs y other qs → (left ≡ other) × (ps ≡ qs)
    one_cancelling _ _ _ _ _ _ some all_done all_done = (refl, refl)
    one_cancelling _ y left other _ _ some (next_form {x} {xs} {poles = ps} r p h more) (next_form {poles = qs} s q k rest) =
        let same_rest = one_rest (polynomial x.form) x.power y some r s p q h k in
        let same_power = one_power (polynomial x.form) x.power y some r s p q h k in
        let later = one_cancelling xs r.0 left other ps qs (rest_some (polynomial x.form) x.power y some r p h) more
        (subst (λ t. CancelsInOrder a meaning xs t other qs) (sym same_rest) rest) in
        (later.0, λ i. staying x.form (x.power - same_power i) (later.1 i))

    -- what is left is one, of zero too
    pub one_left_over : (xs : List Factor) (y left other : Meaning) (ps qs : List Factor)
        → LeavesInOrder a (λ f. (polynomial f).0) xs y left ps → LeavesInOrder a (λ f. (polynomial f).0) xs y other qs → (left ≡ other) × (ps ≡ qs)
    one_left_over xs y _ _ _ _ (of_zero z) (of_zero w) = (refl, refl)
    one_left_over xs y _ _ _ _ (of_zero z) (of_nonzero s h) = absurd (s z)
    one_left_over xs y _ _ _ _ (of_nonzero s h) (of_zero z) = absurd (s z)
    one_left_over xs y left other ps qs (of_nonzero s h) (of_nonzero t k) = one_cancelling xs y left other ps qs s h k
