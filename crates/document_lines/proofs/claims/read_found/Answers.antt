use Rattle.exact_texts.proofs.Alike.{alike_stops}
use Rattle.spelled.proofs.Exits.{handed_on}
use Rattle.documents.specs.Views.{found_said}
use Rattle.document_lines.specs.ClaimTexts.{found_lines}
use Rattle.document_lines.specs.ClaimLaws.{found_sequence, found_alike}
use Rattle.document_lines.proofs.ClaimSteps.{takes_lines}
use Rattle.document_lines.proofs.claims.read_found.Goals as goal

-- one of the lines isn't there
pub returns-in_err-solution : goal.returns-in_err-solution
returns-in_err-solution c = handed_on (found_sequence c.args.version) (found_lines c.args.version c.args.order) found_said _ _ _ _
    c.in_err-solution.field-0.0 c.from_residual.ensures.1
    (alike_stops (found_alike c.args.version c.args.order c.requires) _ _) c.in_err-solution.ensures

-- all lines are there
pub returns : goal.returns
returns c = takes_lines c.args.version c.args.order c.requires _ _ _ c.in_ok-solution.ensures
