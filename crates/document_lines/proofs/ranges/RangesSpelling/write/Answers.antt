use Rattle.form_lines.specs.FormLaws.{forms_spaceless}
use Rattle.document_lines.proofs.ranges.RangesSpelling.write.Goals as goal

-- no form has a space
pub invariant_of-write : goal.invariant_of-write
invariant_of-write c = record { without = forms_spaceless }
