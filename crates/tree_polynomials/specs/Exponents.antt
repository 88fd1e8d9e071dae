-- A constant exponent, and the steps that follow from it.
use Rattle.std.specs.Prelude.{◌≡◌, ℕ, ℤ, unsigned_abs, Option, Some, None, Result, Ok, Err}
use Rattle.ring_laws.specs.Meaning.{Meaning}
use Rattle.steps.specs.Answers.{HasCause}
use Rattle.steps.specs.Found.{where_some}
use Rattle.steps.specs.Leads.{Leads}
use Rattle.steps.specs.Steps.{within_limit, ◌then◌}
use Rattle.steps.specs.TermFaults.{TermSteps, term_cause}
use Rattle.steps.specs.declared.faults.TermFault.{TermFault}
use Rattle.steps.specs.declared.limits.LimitName.TheVariants.{Exponent}
use Rattle.term_classes.specs.TreePolynomial.{constant_of}
use Rattle.term_classes.specs.Finding.{where_natural}

-- what follows from a constant exponent from 0 to 12
abbrev pub with_exponent : (ℕ → TermSteps (Option Meaning)) → ℤ → TermSteps (Option Meaning)
with_exponent f c = within_limit Exponent (unsigned_abs c) c then (λ c1. where_natural c f)

-- what follows from the polynomial of an exponent that is sought
abbrev pub raised_to : TermSteps (Option Meaning) → (ℕ → TermSteps (Option Meaning)) → TermSteps (Option Meaning)
raised_to s f = s then (λ p. where_some (constant_of p) (with_exponent f))

-- the steps go on with the exponent that was found, and end where there is none
abbrev pub ToExponent : (ℕ → TermSteps (Option Meaning)) → TermSteps (Option Meaning) → Result (Option ℕ) TermFault → Type 0
ToExponent f whole (Ok None) = whole.outcome ≡ Ok None
ToExponent f whole (Ok (Some power)) = Leads whole (f power)
ToExponent f whole (Err x) = HasCause whole (term_cause x)
