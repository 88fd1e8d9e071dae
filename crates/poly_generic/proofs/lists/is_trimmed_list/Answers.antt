use Rattle.std.proofs.Common.{arith}
use Rattle.poly_generic.proofs.ListLemmas.{last_is}
use Rattle.poly_generic.proofs.lists.is_trimmed_list.Goals as goal

pub returns : goal.returns
returns g c = last_is g.R.Ring.algebra.ops g.R.Ring.meaning c.args.list.now c.index-list-list.result c.is_zero.result
    (grind (arith, c.if-is_empty.false, c.is_empty.ensures)) c.index-list-list.is c.is_zero.ensures.test
