use Rattle.form_lines.specs.FormLaws.{forms_spaceless}
use Rattle.document_lines.proofs.ranges.RangesSpelling.read.Goals as goal

-- no form has a space
pub invariant_of-read : goal.invariant_of-read
invariant_of-read c = record { without = forms_spaceless }
