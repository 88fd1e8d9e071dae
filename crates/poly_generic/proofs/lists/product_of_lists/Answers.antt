use Rattle.std.proofs.Common.{◌≡◌, ◌<◌, ◌≤◌, ◌+◌, ◌-◌, ◌∙◌, map, length, take, ap, arith}
use Rattle.std.proofs.lemmas.List.{length-map, take_all}
use Rattle.poly_laws.specs.Lists.{coefficient_at, list_product}
use Rattle.poly_generic.proofs.AnswerLemmas.{push_made}
use Rattle.poly_generic.proofs.Convolution.{length-of_product}
use Rattle.poly_generic.proofs.lists.product_of_lists.Goals as goal

-- one coefficient more, where the second list begins
pub loop-last-preserved : goal.loop-last-preserved
loop-last-preserved g c =
    let o = g.R.Ring.algebra.ops in
    let M = g.R.Ring.meaning in
    let xs = map M c.args.a.now in
    let ys = map M c.args.b.now in
    let zs = list_product o xs ys in
    let i = c.loop-last.last in
    let n : i + 0 ≡ i = omega arith in
    let b : i < length zs =
    omega (
      arith,
      c.loop-last-test.true,
      length-map c.args.a.now M,
      length-of_product o xs ys (omega (
        arith,
        c.loop-last-test.true,
        length-map c.args.a.now M,
      )),
    ) in
    push_made g.R.Ring.algebra M zs c.loop-last.out.items c.push.new.self.items c.in_ok-item.item i o.nought c.in_ok-push.ensures.items
    c.loop-last.invariant (c.in_ok-item.ensures ∙ ap (coefficient_at o zs) n) b

-- one coefficient more, where the first list ends
pub loop-first-preserved : goal.loop-first-preserved
loop-first-preserved g c =
    let o = g.R.Ring.algebra.ops in
    let M = g.R.Ring.meaning in
    let xs = map M c.args.a.now in
    let ys = map M c.args.b.now in
    let zs = list_product o xs ys in
    let i = length c.args.a.now - 1 + c.loop-first.first in
    let some : 0 < length xs = grind (arith, c.if-is_empty.false, c.is_empty.ensures, length-map c.args.a.now M) in
    let b : i < length zs =
    omega (
      arith,
      c.loop-first-test.true,
      length-map c.args.a.now M,
      length-map c.args.b.now M,
      length-of_product o xs ys some,
    ) in
    let n : i + 1 ≡ length c.args.a.now - 1 + (c.loop-first.first + 1) = omega arith in
    record {
      from_one = omega (arith, c.loop-first.invariant.from_one);
      made =
          push_made g.R.Ring.algebra M zs c.loop-first.out.items c.push-in-loop-first.new.self.items c.in_ok-item-2.item i o.nought
          c.in_ok-push-2.ensures.items c.loop-first.invariant.made c.in_ok-item-2.ensures b
          ∙ ap (λ k. take k zs) n;
    }

-- there are no more
pub returns : goal.returns
returns g c =
    let o = g.R.Ring.algebra.ops in
    let M = g.R.Ring.meaning in
    let xs = map M c.args.a.now in
    let ys = map M c.args.b.now in
    let zs = list_product o xs ys in
    let i = length c.args.a.now - 1 + c.loop-first.first in
    let some : 0 < length xs = grind (arith, c.if-is_empty.false, c.is_empty.ensures, length-map c.args.a.now M) in
    let b : length zs ≤ i =
    omega (
      arith,
      c.loop-first-test.false,
      c.loop-first.invariant.from_one,
      length-map c.args.a.now M,
      length-map c.args.b.now M,
      length-of_product o xs ys some,
    ) in
    c.loop-first.invariant.made ∙ take_all i zs b
