use Rattle.term_pieces.proofs.SomeNormalForm.{some_normal_form}
use Rattle.term_pieces.proofs.normal_forms_exist.Goals as goal

pub returns : goal.returns
returns c = record { some = some_normal_form }
