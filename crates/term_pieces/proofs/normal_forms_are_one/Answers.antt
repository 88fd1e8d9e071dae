use Rattle.term_pieces.proofs.OneNormalForm.{one_normal_form}
use Rattle.term_pieces.proofs.normal_forms_are_one.Goals as goal

pub returns : goal.returns
returns c = record { only = one_normal_form }
