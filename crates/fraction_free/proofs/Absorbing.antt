-- A number divided where that can be, and else the vector multiplied, from what the calls answer.
use Rattle.std.proofs.Common.{◌≡◌, IsTrue, List, map, sym, ap, ◌∙◌, subst, Result, Ok, Err, IsErrAnd}
use Rattle.ring_laws.specs.Meaning.{Meaning}
use Rattle.ring_laws.specs.Algebra.{Algebra, Passing, Laws}
use Rattle.ring_laws.specs.Answer.{OnFault, fault_weaker}
use Rattle.ring_laws.specs.declared.faults.RingFault.{RingFault}
use Rattle.poly_laws.specs.Bounds.{ScalingInBounds}
use Rattle.kernel_laws.specs.RowSteps.{HasQuotient}
use Rattle.kernel_laws.specs.BackSubstitution.{Absorbed as IsAbsorbed, quotient, multiple, AbsorbingInBounds}
use Rattle.fraction_free.specs.declared.vectors.Absorbed.{Absorbed}
use Rattle.fraction_free.specs.VectorAnswers.{GivesAbsorbed}
use Rattle.fraction_free.proofs.RowLemmas.{one_times}

module _ {T : Type 0} (meaning : T → Meaning) (a : Algebra) where
  pub fault_absorbed : (divisor amount : Meaning) (vector : List Meaning) (InBounds : Type 0) (r : Result (Absorbed T) RingFault)
      (fault : RingFault) → IsErrAnd r (λ e. e ≡ fault) → OnFault (¬ InBounds) fault → GivesAbsorbed meaning a divisor amount vector InBounds r
  fault_absorbed divisor amount vector InBounds (Ok v) fault e h = absurd e
  fault_absorbed divisor amount vector InBounds (Err d) fault e h = subst (OnFault (¬ InBounds)) (sym e) h

  pub by_quotient : (passes : (x : T) → IsTrue (a.passes (meaning x))) (divisor amount : Meaning) (vector : List Meaning) (q : T)
      → a.ops.product (meaning q) divisor ≡ amount → IsAbsorbed a divisor amount vector (meaning q) vector
  by_quotient passes divisor amount vector q h = quotient (meaning q, passes q) h

  -- a number divided by 1 is the number
  pub by_one : Laws a → (passes : (x : T) → IsTrue (a.passes (meaning x))) (divisor : Meaning) (x : T) (vector : List Meaning)
      → divisor ≡ a.ops.unit → IsAbsorbed a divisor (meaning x) vector (meaning x) vector
  by_one l passes divisor x vector e =
      by_quotient passes divisor (meaning x) vector x (ap (a.ops.product (meaning x)) e ∙ one_times a l (meaning x, passes x))

  none : (divisor amount : Meaning) → ((q : Passing a) → ¬ (a.ops.product q.0 divisor ≡ amount)) → ¬ (HasQuotient a divisor amount)
  none divisor amount h q = h q.quotient q.is

  pub by_multiple : (divisor amount : Meaning) (vector lent : List T) (new : List Meaning) → lent ≡ vector
      → ((q : Passing a) → ¬ (a.ops.product q.0 divisor ≡ amount)) → new ≡ map (a.ops.product divisor) (map meaning lent)
      → IsAbsorbed a divisor amount (map meaning vector) amount new
  by_multiple divisor amount vector lent new e h f =
      subst (IsAbsorbed a divisor amount (map meaning vector) amount) (sym (f ∙ ap (λ v. map (a.ops.product divisor) (map meaning v)) e))
      (multiple (none divisor amount h))

  pub products_not : (InBounds : Meaning → Meaning → Type 0) (divisor amount : Meaning) (vector lent : List T) (fault : RingFault) → lent ≡ vector
      → ((q : Passing a) → ¬ (a.ops.product q.0 divisor ≡ amount)) → OnFault (¬ (ScalingInBounds a divisor (map meaning lent))) fault
      → OnFault (¬ (AbsorbingInBounds InBounds a divisor amount (map meaning vector))) fault
  products_not InBounds divisor amount vector lent fault e h f =
      fault_weaker fault (λ n k. n (subst (λ v. ScalingInBounds a divisor (map meaning v)) (sym e) (k.products (none divisor amount h)))) f
