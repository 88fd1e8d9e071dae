use Rattle.documents.proofs.OrderLists.{one_of_gosper, one_of_ct}
use Rattle.documents.proofs.laws.claims_of_one_order.Goals as goal

pub returns : goal.returns
returns c = record {
  gosper = λ version d h e. one_of_gosper version d h e;
  ct = λ version d order h e. one_of_ct version d h order e;
}
