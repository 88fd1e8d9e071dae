use Rattle.std.proofs.Common.{◌≡◌, map, sym, subst}
use Rattle.std.specs.Option.{MatchOption}
use Rattle.std.specs.List.{AllByRecursion}
use Rattle.spelled.proofs.ItemSteps.{spelled_next, read_more, has_more}
use Rattle.spelled.proofs.lists.read_pieces.Goals as goal

-- a piece that is no item
pub returns-in-None-clause-read : goal.returns-in-None-clause-read
returns-in-None-clause-read g c = λ vs p e.
    let value_of = g.S.Spelling.value_of in
    let next = spelled_next (g.S.Spelling.format c.args.each.now) vs c.args.pieces.now c.loop-piece.piece-index _ p e c.loop-piece-test.true in
    subst (λ found. MatchOption found ⊥ (λ x. value_of x ≡ next.value)) c.in-None.is (c.in_ok-item.ensures.read next.value next.has next.spelled)

-- one item more
pub loop-piece-preserved : goal.loop-piece-preserved
loop-piece-preserved g c =
    let F = g.S.Spelling.format c.args.each.now in
    let value_of = g.S.Spelling.value_of in
    let items = c.loop-piece.items.items in
    let item = c.in-Some.item in
    let has = subst (λ found. MatchOption found (Unit {0}) (λ x. F.Has (value_of x))) c.in-Some.is c.in_ok-item.ensures.has in
    record {
      has = subst (λ xs. AllByRecursion F.Has (map value_of xs)) (sym c.in_ok-push-in-Some.ensures.items)
          (has_more F value_of items item c.loop-piece.invariant.has has);
      read = λ vs p e.
          let next = spelled_next F vs c.args.pieces.now c.loop-piece.piece-index _ p e c.loop-piece-test.true in
          read_more F value_of vs items c.push.new.self.items item c.loop-piece.piece-index _ next
          (c.loop-piece.invariant.read vs p e) c.in_ok-push-in-Some.ensures.items
          (λ v h same. subst (λ found. MatchOption found ⊥ (λ x. value_of x ≡ v)) c.in-Some.is (c.in_ok-item.ensures.read v h same));
    }
