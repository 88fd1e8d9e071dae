-- What the exit of a `?` returns, and what follows of a result that is good, and of a quotient or none.
use Rattle.std.proofs.Common.{◌≡◌, Result, Ok, Err, IfErr, IfOk, Option, Some, None, sym, ◌∙◌, subst}
use Rattle.std.specs.Result.{IsErrAnd}
use Rattle.ring_laws.specs.Meaning.{Meaning}
use Rattle.ring_laws.specs.Algebra.{Algebra, Passing}
use Rattle.ring_laws.specs.Answer.{OnFault, GivesInBounds, fault_weaker}
use Rattle.ring_laws.specs.Division.{Divides}
use Rattle.ring_laws.specs.declared.faults.RingFault.{RingFault}

pub fault_out : {T P Q : Type 0} (r : Result T RingFault) (fault : RingFault) → IsErrAnd r (λ e. e ≡ fault) → (P → Q) → OnFault (¬ Q) fault
    → IfErr r (OnFault (¬ P))
fault_out (Ok v) fault e f h = tt
fault_out {T} {P} {Q} (Err d) fault e f h = subst (OnFault (¬ P)) (sym e) (fault_weaker fault (λ n p. n (f p)) h)

-- the same for what else is said of an error
pub fault_with : {T P Q : Type 0} (r : Result T RingFault) (fault : RingFault) → IsErrAnd r (λ e. e ≡ fault) → (Q → P) → OnFault Q fault
    → IfErr r (OnFault P)
fault_with (Ok v) fault e f h = tt
fault_with {T} {P} {Q} (Err d) fault e f h = subst (OnFault P) (sym e) (fault_weaker fault f h)

pub ok_gives : {T E : Type 0} {P Q : T → Type 0} (r : Result T E) → ((x : T) → P x → Q x) → IfOk r P → IfOk r Q
ok_gives (Ok x) f h = f x h
ok_gives (Err e) f h = tt

pub divides_some : {T : Type 0} (meaning : T → Meaning) (a : Algebra) (InBounds : Meaning → Meaning → Type 0) (x y : Meaning) (r : Option T) (q : T)
    → r ≡ Some q
    → Divides meaning a (InBounds x y) x y (Ok r) → a.ops.product (meaning q) y ≡ x
divides_some meaning a InBounds x y r q e h = subst (λ t. Divides meaning a (InBounds x y) x y (Ok t)) e h

pub divides_none : {T : Type 0} (meaning : T → Meaning) (a : Algebra) (InBounds : Meaning → Meaning → Type 0) (x y : Meaning) (r : Option T)
    → r ≡ None
    → Divides meaning a (InBounds x y) x y (Ok r) → (q : Passing a) → ¬ (a.ops.product q.0 y ≡ x)
divides_none meaning a InBounds x y r e h = subst (λ t. Divides meaning a (InBounds x y) x y (Ok t)) e h

pub in_bounds_gives : {T : Type 0} (meaning : T → Meaning) (InBounds : Type 0) (m n : Meaning) (r : Result T RingFault) → m ≡ n
    → GivesInBounds meaning InBounds m r → IfOk r (λ out. meaning out ≡ n)
in_bounds_gives meaning InBounds m n (Ok x) e h = h.1 ∙ e
in_bounds_gives meaning InBounds m n (Err fault) e h = tt

pub in_bounds_fault : {T : Type 0} (meaning : T → Meaning) (InBounds P : Type 0) (m : Meaning) (r : Result T RingFault) → InBounds
    → GivesInBounds meaning InBounds m r → IfErr r (OnFault P)
in_bounds_fault meaning InBounds P m (Ok x) b h = tt
in_bounds_fault meaning InBounds P m (Err fault) b h = fault_weaker fault (λ n. absurd (n b)) h
