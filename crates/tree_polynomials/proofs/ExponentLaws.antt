-- What an exponent says of the steps that follow from it.
use Rattle.std.proofs.Common.{◌≡◌, ℕ, ◌∙◌, subst}
use Rattle.std.specs.Prelude.{ℤ, Option, Some, None, Result, Ok, Err}
use Rattle.ring_laws.specs.Meaning.{Meaning}
use Rattle.steps.specs.Found.{where_some}
use Rattle.steps.specs.Leads.{Leads}
use Rattle.steps.specs.TermFaults.{TermSteps, term_cause}
use Rattle.steps.specs.declared.faults.TermFault.{TermFault}
use Rattle.steps.proofs.Leading.{leads, leads_on}
use Rattle.term_classes.specs.TreePolynomial.{constant_of}
use Rattle.tree_polynomials.specs.Exponents.{with_exponent, raised_to, ToExponent}

-- what is said of the constant of a polynomial that was sought
pub to_exponent_later : (s : TermSteps (Option Meaning)) (f : ℕ → TermSteps (Option Meaning)) (p : Option Meaning) (c : ℤ)
    (result : Result (Option ℕ) TermFault) → s.outcome ≡ Ok p → constant_of p ≡ Some c → ToExponent f (with_exponent f c) result
    → ToExponent f (raised_to s f) result
to_exponent_later s f p c result e h k = chained result k
  where
    here : Leads (raised_to s f) (with_exponent f c)
    here =
        subst (λ t. Leads (raised_to s f) (where_some t (with_exponent f))) h
        (leads s (λ p. where_some (constant_of p) (with_exponent f)) p e)

    chained : (r : Result (Option ℕ) TermFault) → ToExponent f (with_exponent f c) r → ToExponent f (raised_to s f) r
    chained (Ok None) k = here.outcome ∙ k
    chained (Ok (Some power)) k = leads_on here k
    chained (Err x) k = here.cause (term_cause x) k
