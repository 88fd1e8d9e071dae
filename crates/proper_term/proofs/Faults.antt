-- A fault that is handed on.
use Rattle.std.proofs.Common.{◌≡◌, sym, subst, Result, Ok, Err}
use Rattle.std.specs.Prelude.{IsErrAnd}
use Rattle.ring_laws.specs.declared.faults.RingFault.{RingFault}

pub handed_on : {T : Type 0} (G : Result T RingFault → Type 0) (r : Result T RingFault) (fault : RingFault) → IsErrAnd r (λ e. e ≡ fault)
    → G (Err fault) → G r
handed_on G (Ok x) fault e h = absurd e
handed_on G (Err y) fault e h = subst (λ t. G (Err t)) (sym e) h
