use Rattle.key_equation.proofs.NothingCommon.{reduced_solution}
use Rattle.key_equation.proofs.laws.solutions_have_nothing_common.Goals as goal

pub returns : goal.returns
returns c = record {
  law = λ normal sides y multipliers poles sorted h. reduced_solution normal sides y multipliers poles sorted h;
}
