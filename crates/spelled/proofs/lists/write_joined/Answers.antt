use Rattle.std.proofs.Common.{map, subst}
use Rattle.std.specs.List.{AllByRecursion}
use Rattle.spelled.proofs.ItemSteps.{written_first, written_more, has_at}
use Rattle.spelled.proofs.lists.write_joined.Goals as goal

pub loop-item-init : goal.loop-item-init
loop-item-init g c =
    written_first (g.S.Spelling.format c.args.each.now) g.S.Spelling.value_of c.args.separator.now _ _ c.args.items.now c.in-Some.others.now
    c.in-Some.first.now
    c.in_ok-write.ensures c.in-Some.ensures.cases.0

pub write-requires-in-loop-item : goal.write-requires-in-loop-item
write-requires-in-loop-item g c =
    let F = g.S.Spelling.format c.args.each.now in
    let value_of = g.S.Spelling.value_of in
    let all = subst (λ xs. AllByRecursion F.Has (map value_of xs)) c.in-Some.ensures.cases.0 c.requires in
    has_at F value_of c.in-Some.others.now c.loop-item.item-index c.item-item.result all.1 c.loop-item-test.true c.item-item.is

pub loop-item-preserved : goal.loop-item-preserved
loop-item-preserved g c =
    written_more (g.S.Spelling.format c.args.each.now) g.S.Spelling.value_of c.args.separator.now _ _ _ _ c.in-Some.others.now c.loop-item.item-index
    c.item-item.result
    c.in_ok-push_str.ensures.bytes c.in_ok-write-2.ensures c.loop-item-test.true c.item-item.is c.loop-item.invariant
