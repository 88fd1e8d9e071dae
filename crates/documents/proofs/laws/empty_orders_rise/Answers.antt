use Rattle.documents.proofs.OrderLists.{orders_of_zeil, some_of_zeil, few_of_zeil, last_of_zeil, all_of_zeil}
use Rattle.documents.proofs.laws.empty_orders_rise.Goals as goal

pub returns : goal.returns
returns c = record {
  orders = λ version d most h e. orders_of_zeil version d h most e;
  some = λ version d most h e. some_of_zeil version d h most e;
  few = λ version d most h e. few_of_zeil version d h most e;
  last = λ version d most h e. last_of_zeil version d h most e;
  all = λ version d most h e none. all_of_zeil version d h most e none;
}
