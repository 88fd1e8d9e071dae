-- The meaning of a linear form from those of its coefficients, and why a division by it is out of bounds.
use Rattle.std.proofs.Common.{◌≡◌, zero, suc, ℤ, pos, negsuc, ◌<ℤ◌, [], ◌∷◌, refl, sym, ◌∙◌, subst, arith, Result, Ok, Err, Option, IsErrAnd}
use Rattle.std.proofs.lemmas.Int.{ints}
use mathlib.Core.Path.{ap₂}
use Rattle.ring_laws.specs.Meaning.{Meaning, number, listed}
use Rattle.ring_laws.specs.Algebra.{Algebra}
use Rattle.ring_laws.specs.Answer.{OnFault}
use Rattle.ring_laws.specs.Division.{Divides}
use Rattle.ring_laws.specs.declared.faults.RingFault.{RingFault}
use Rattle.poly_divide.specs.Forms.{linear, form_in_n, form_in_k}

-- a constant that isn't 0
pub constant_form : (k : ℤ) → pos 0 <ℤ k → form_in_n (pos 0) k ≡ listed (number k ∷ [])
constant_form (pos zero) h = absurd (omega (arith, ints))
constant_form (pos (suc k)) h = refl
constant_form (negsuc k) h = absurd (omega (arith, ints))

pub linear_is : (form : Meaning) (constant slope u v : ℤ) → form ≡ listed (number constant ∷ number slope ∷ []) → constant ≡ v → slope ≡ u
    → form ≡ linear u v
linear_is form constant slope u v e f g = e ∙ ap₂ (λ (s t : ℤ). listed (number s ∷ number t ∷ [])) f g

pub form_is : (form constant slope : Meaning) (k n offset : ℤ) → pos 0 <ℤ k → form ≡ listed (constant ∷ slope ∷ [])
    → constant ≡ form_in_n n offset → slope ≡ form_in_n (pos 0) k → form ≡ form_in_k k n offset
form_is form constant slope k n offset h e f g =
    e ∙ ap₂ (λ (s t : Meaning). listed (s ∷ t ∷ [])) f (g ∙ constant_form k h)

-- what the exit of a `?` returns, for a divisor of the same meaning
pub fault_by : {Q : Type 0} (mean : Q → Meaning) (a : Algebra) (InBounds : Meaning → Meaning → Type 0) (x form by_ : Meaning)
    (r : Result (Option Q) RingFault) (fault : RingFault)
    → IsErrAnd r (λ e. e ≡ fault) → form ≡ by_ → OnFault (¬ (InBounds x form)) fault → Divides mean a (InBounds x by_) x by_ r
fault_by mean a InBounds x form by_ (Ok v) fault e s h = absurd e
fault_by mean a InBounds x form by_ (Err d) fault e s h =
    subst (OnFault (¬ (InBounds x by_))) (sym e) (subst (λ z. OnFault (¬ (InBounds x z)) fault) s h)
