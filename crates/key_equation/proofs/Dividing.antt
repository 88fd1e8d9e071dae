-- Dividing one polynomial out of another, time after time.
use Rattle.std.specs.Prelude.{◌≡◌, ℕ, suc, ◌+◌, ◌<◌, Result, Ok, Err, IfErr}
use Rattle.std.proofs.Common.{ap, sym, ◌∙◌, subst, arith, IsErrAnd}
use Rattle.ring_laws.specs.Meaning.{Meaning}
use Rattle.ring_laws.specs.Algebra.{Ops, Algebra, Passing, Laws, within, same_passing}
use Rattle.ring_laws.specs.Answer.{OnFault, fault_weaker}
use Rattle.ring_laws.specs.declared.faults.RingFault.{RingFault}
use Rattle.poly_laws.specs.Powers.{power_in}
use Rattle.poly_laws.proofs.Squaring.{power_first}
use Rattle.key_equation.specs.Reckoning.{DividingInBounds}

-- what the exit of a `?` returns
pub returned : {R : Type 0} (P : RingFault → Type 0) (r : Result R RingFault) (fault : RingFault) → IsErrAnd r (λ e. e ≡ fault) → P fault → IfErr r P
returned P (Ok v) fault e h = tt
returned P (Err d) fault e h = subst P (sym e) h

module _ (a : Algebra) (l : Laws a) (form y : Passing a) where
  abbrev o : Ops (Passing a)
  o = within a l.closed

  -- the polynomial was divided out so many times
  abbrev pub Divided : Meaning → ℕ → Type 0
  Divided rest times = y.0 ≡ a.ops.product rest (power_in a.ops form.0 times)

  pub not_yet : Divided y.0 0
  not_yet = sym (ap (λ (t : Passing a). t.0) (product_unit_right y))
    where
      product_unit_right : (x : Passing a) → o.product x o.unit ≡ x
      product_unit_right x = l.ring.product_comm x o.unit ∙ l.ring.unit_product x

  pub once_more : (rest quotient : Passing a) (times : ℕ) → Divided rest.0 times → a.ops.product quotient.0 form.0 ≡ rest.0
      → Divided quotient.0 (suc times)
  once_more rest quotient times h q =
      let power : Passing a = power_in o form times in
      let first = power_first a l form times in
      h ∙ ap (λ t. a.ops.product rest.0 t) (sym first)
      ∙ ap (λ (t : Passing a). t.0)
      (ap (λ t. o.product t (power_in o form times)) (same_passing a rest (o.product quotient form) (sym q))
      ∙ l.ring.product_assoc quotient form (power_in o form times))
      ∙ ap (λ t. a.ops.product quotient.0 (a.ops.product form.0 t)) first

  pub next_time : (rest quotient : Passing a) (times : ℕ) → Divided rest.0 times → a.ops.product quotient.0 form.0 ≡ rest.0
      → Divided quotient.0 (times + 1)
  next_time rest quotient times h q =
      let next : suc times ≡ times + 1 = omega arith in
      subst (Divided quotient.0) next (once_more rest quotient times h q)

  -- a division that isn't in bounds
  pub division_fault : (InBounds : Meaning → Meaning → Type 0) (rest : Passing a) (powers times : ℕ) (fault : RingFault) → times < powers
      → Divided rest.0 times → OnFault (¬ InBounds rest.0 form.0) fault → OnFault (¬ DividingInBounds a InBounds form.0 powers y.0) fault
  division_fault InBounds rest powers times fault b h out =
      fault_weaker fault (λ none fits. none (fits rest times b h)) out
