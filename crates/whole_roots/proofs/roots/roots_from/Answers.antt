use Rattle.std.proofs.Common.{◌+◌, ◌-◌, ◌^◌, ◌-ℤ◌, ℤ, pos, negsuc, map, drop, get_or, ap, sym, ◌∙◌, subst, arith, to_z}
use Rattle.std.specs.Int.{w128}
use Rattle.std.proofs.lemmas.Int.{ints, to_z-of_z}
use Rattle.ring_laws.specs.Meaning.{number, listed}
use Rattle.ring_laws.specs.declared.wholes.Whole.{Whole}
use Rattle.whole_roots.specs.Signs.{value}
use Rattle.whole_roots.specs.Roots.{IsRoot}
use Rattle.whole_roots.specs.Turns.{greatest, IsTurn, AreAll}
use Rattle.whole_roots.proofs.AllOf.{next_of_all, none_of_all}
use Rattle.whole_roots.proofs.Bounds.{fits_between, held_before}
use Rattle.whole_roots.proofs.roots.roots_from.Goals as goal

pub push_roots-requires-clause-order : goal.push_roots-requires-clause-order
push_roots-requires-clause-order c =
    let m = listed (map (λ (w : Whole). number w.value) c.args.f.now.list.items) in
    let i = c.loop-index.invariant in
    let start = to_z w128 c.loop-index.start-bits in
    let turn = get_or c.args.turns.now c.loop-index.index (pos 0) in
    let h = next_of_all (IsTurn (value m)) start greatest c.args.turns.now c.loop-index.index c.loop-index-test.true i.turns in
    omega (arith, ints, held_before start turn i.begun h.0.0 h.0.1, h.0.0)

-- up to the next turn the sign stays
pub push_roots-requires-clause-stays : goal.push_roots-requires-clause-stays
push_roots-requires-clause-stays c =
    let m = listed (map (λ (w : Whole). number w.value) c.args.f.now.list.items) in
    let i = c.loop-index.invariant in
    let start = to_z w128 c.loop-index.start-bits in
    let turn = get_or c.args.turns.now c.loop-index.index (pos 0) in
    let h = next_of_all (IsTurn (value m)) start greatest c.args.turns.now c.loop-index.index c.loop-index-test.true i.turns in
    let before = held_before start turn i.begun h.0.0 h.0.1 in
    λ z above within. h.1.1.0 z above (omega (arith, ints, within, before))

pub loop-index-preserved : goal.loop-index-preserved
loop-index-preserved c =
    let m = listed (map (λ (w : Whole). number w.value) c.args.f.now.list.items) in
    let i = c.loop-index.invariant in
    let start = to_z w128 c.loop-index.start-bits in
    let turn = get_or c.args.turns.now c.loop-index.index (pos 0) in
    let h = next_of_all (IsTurn (value m)) start greatest c.args.turns.now c.loop-index.index c.loop-index-test.true i.turns in
    let again = to_z-of_z w128 turn (fits_between turn (omega (arith, ints, h.0.0, i.begun)) (omega (arith, ints, h.0.1))) in
    let before = held_before start turn i.begun h.0.0 h.0.1 in
    record {
      begun = omega (arith, ints, again, h.0.0, i.begun);
      within = omega (arith, ints, again, h.0.1);
      turns = subst (λ (z : ℤ). AreAll (IsTurn (value m)) z greatest (drop (c.loop-index.index + 1) c.args.turns.now)) (sym again) h.1.1.1;
      found =
          subst (λ (z : ℤ). AreAll (IsRoot m) (negsuc (2 ^ 127 - 1)) z c.push_roots.new.found.items) (before ∙ ap (λ (z : ℤ). z -ℤ pos 1) (sym again))
          c.in_ok-push_roots.ensures.found;
    }

-- and above the last turn
pub push_roots-requires-2-clause-stays : goal.push_roots-requires-2-clause-stays
push_roots-requires-2-clause-stays c =
    let m = listed (map (λ (w : Whole). number w.value) c.args.f.now.list.items) in
    none_of_all (IsTurn (value m)) (to_z w128 c.loop-index.start-bits) greatest c.args.turns.now c.loop-index.index c.loop-index-test.false
    c.loop-index.invariant.turns
