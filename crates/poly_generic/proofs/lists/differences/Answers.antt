use Rattle.std.proofs.Common.{◌<◌, ◌≤◌, map, length, ◌∙◌, arith, below_more}
use Rattle.std.proofs.lemmas.List.{length-map, take_all}
use Rattle.poly_laws.specs.Lists.{list_sum}
use Rattle.poly_generic.proofs.AnswerLemmas.{push_made, length-negatives}
use Rattle.poly_generic.proofs.ListLemmas.{length-list_sum}
use Rattle.poly_generic.proofs.lists.differences.Goals as goal

pub loop-power-preserved : goal.loop-power-preserved
loop-power-preserved g c =
    let o = g.R.Ring.algebra.ops in
    let xs = map g.R.Ring.meaning c.args.a.now in
    let ys = map o.neg (map g.R.Ring.meaning c.args.b.now) in
    let b : c.loop-power.power < length (list_sum o xs ys) =
    omega (
      arith,
      length-list_sum o xs ys,
      length-map c.args.a.now g.R.Ring.meaning,
      length-negatives g.R.Ring.algebra g.R.Ring.meaning c.args.b.now,
      c.max-count.ensures,
      c.loop-power-test.true,
    ) in
    record {
      in_bounds = below_more _ _ c.loop-power.invariant.in_bounds c.in_ok-item.ensures.0;
      made = push_made g.R.Ring.algebra g.R.Ring.meaning
          (list_sum o xs ys) c.loop-power.out.items c.push.new.self.items c.in_ok-item.item c.loop-power.power o.nought c.in_ok-push.ensures.items
          c.loop-power.invariant.made c.in_ok-item.ensures.1 b;
    }

pub returns : goal.returns
returns g c =
    let o = g.R.Ring.algebra.ops in
    let xs = map g.R.Ring.meaning c.args.a.now in
    let ys = map o.neg (map g.R.Ring.meaning c.args.b.now) in
    let b : length (list_sum o xs ys) ≤ c.loop-power.power =
    omega (
      arith,
      length-list_sum o xs ys,
      length-map c.args.a.now g.R.Ring.meaning,
      length-negatives g.R.Ring.algebra g.R.Ring.meaning c.args.b.now,
      c.max-count.ensures,
      c.loop-power-test.false,
    ) in (
      (λ k p q. c.loop-power.invariant.in_bounds k (omega (
        arith,
        length-map c.args.a.now g.R.Ring.meaning,
        c.max-count.ensures,
        c.loop-power-test.false,
      )) p q),
      c.loop-power.invariant.made ∙ take_all c.loop-power.power (list_sum o xs ys) b,
    )
