use Rattle.reducing.proofs.CommonForms.{no_common_form}
use Rattle.reducing.proofs.laws.no_form_is_left.Goals as goal

pub returns : goal.returns
returns c = record { law = no_common_form }
