use Rattle.reducing.proofs.CommonNumbers.{no_common_number}
use Rattle.reducing.proofs.laws.no_content_is_left.Goals as goal

pub returns : goal.returns
returns c = record { law = no_common_number }
