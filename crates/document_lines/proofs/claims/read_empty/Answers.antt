use Rattle.exact_texts.proofs.Alike.{alike_stops}
use Rattle.spelled.proofs.Exits.{handed_on}
use Rattle.documents.specs.Views.{empty_said}
use Rattle.document_lines.specs.ClaimTexts.{empty_lines}
use Rattle.document_lines.specs.ClaimLaws.{empty_sequence, empty_alike}
use Rattle.document_lines.proofs.claims.read_empty.Goals as goal

-- one of the lines isn't there
pub returns-in_err-form : goal.returns-in_err-form
returns-in_err-form c = handed_on empty_sequence (empty_lines c.args.order) empty_said _ _ _ _ c.in_err-form.field-0.0 c.from_residual.ensures.1
    (alike_stops (empty_alike c.args.order c.requires) _ _) c.in_err-form.ensures
