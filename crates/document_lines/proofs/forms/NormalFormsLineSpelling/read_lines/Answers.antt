use Rattle.exact_texts.proofs.Alike.{alike_stops}
use Rattle.spelled.proofs.Exits.{handed_on}
use Rattle.documents.specs.Views.{form_said}
use Rattle.document_lines.specs.ClaimTexts.{form_lines}
use Rattle.document_lines.specs.FormLaws.{form_sequence, form_alike}
use Rattle.document_lines.proofs.forms.NormalFormsLineSpelling.read_lines.Goals as goal

-- one of the lines isn't there
pub returns-in_err-matches : goal.returns-in_err-matches
returns-in_err-matches c = handed_on form_sequence form_lines form_said _ _ _ _ c.in_err-matches.field-0.0 c.from_residual.ensures.1
    (alike_stops form_alike _ _) c.in_err-matches.ensures
