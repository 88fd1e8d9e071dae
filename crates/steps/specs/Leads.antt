-- Steps that lead to others: what comes out of the others comes out of the whole, and a cause in the others is one in the whole.
use Rattle.std.specs.Prelude.{◌≡◌}
use Rattle.steps.specs.Steps.{Steps}
use Rattle.steps.specs.Answers.{Cause, HasCause}

-- the whole has the outcome of the rest, and every cause in the rest is one in the whole
pub record Leads {P R A : Type 0} (whole rest : Steps P R A) : Type 0 where
  pub outcome : whole.outcome ≡ rest.outcome
  pub cause : (x : Cause P R) → HasCause rest x → HasCause whole x
