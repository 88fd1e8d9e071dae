use Rattle.std.proofs.Common.{◌≡◌, true, false, map, sym, ◌∙◌}
use Rattle.poly_laws.specs.Lists.{is_trimmed}
use Rattle.poly_generic.proofs.ListLemmas.{trimmed_popped}
use Rattle.poly_laws.proofs.Trimming.{trimmed_already}
use Rattle.poly_generic.proofs.lists.trim.Goals as goal

pub loop-list-preserved-in-loop-list : goal.loop-list-preserved-in-loop-list
loop-list-preserved-in-loop-list g c =
    let e : is_trimmed g.R.Ring.algebra.ops (map g.R.Ring.meaning c.loop-list.list.items) ≡ false =
    cc (c.is_trimmed_list.ensures, c.loop-list-test.true, c.deref.ensures.value) in
    trimmed_popped g.R.Ring.algebra.ops g.R.Ring.meaning c.loop-list.list.items c.pop.new.self.items c.pop.result c.pop.ensures.items e
    ∙ c.loop-list.invariant

pub returns : goal.returns
returns g c =
    let e : is_trimmed g.R.Ring.algebra.ops (map g.R.Ring.meaning c.loop-list.list.items) ≡ true =
    cc (c.is_trimmed_list.ensures, c.loop-list-test.false, c.deref.ensures.value) in
    sym (trimmed_already g.R.Ring.algebra.ops (map g.R.Ring.meaning c.loop-list.list.items) e) ∙ c.loop-list.invariant
