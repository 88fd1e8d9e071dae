use Rattle.std.proofs.Common.{◌+◌, ℤ, pos, map, drop, get_or, sym, subst, arith, to_z}
use Rattle.std.specs.Int.{w128}
use Rattle.std.proofs.lemmas.Int.{ints, to_z-of_z}
use Rattle.ring_laws.specs.Meaning.{number, listed}
use Rattle.ring_laws.specs.declared.wholes.Whole.{Whole}
use Rattle.whole_roots.specs.Signs.{value}
use Rattle.whole_roots.specs.Differences.{difference}
use Rattle.whole_roots.specs.Turns.{greatest, IsTurn, AreAll, IsMonotone}
use Rattle.whole_roots.proofs.AllOf.{next_of_all, none_of_all}
use Rattle.whole_roots.proofs.Bounds.{fits_between}
use Rattle.whole_roots.proofs.Monotone.{monotone_between}
use Rattle.whole_roots.proofs.Values.{value_difference}
use Rattle.whole_roots.proofs.turns.turns_from.Goals as goal

-- between two turns of the difference the values rise or fall
pub push_turns-requires-clause-monotone : goal.push_turns-requires-clause-monotone
push_turns-requires-clause-monotone c =
    let m = listed (map (λ (w : Whole). number w.value) c.args.f.now.list.items) in
    let i = c.loop-index.invariant in
    let start = to_z w128 c.loop-index.start-bits in
    let cut = get_or c.args.cuts.now c.loop-index.index (pos 0) in
    let h = next_of_all (IsTurn (value (difference m))) start greatest c.args.cuts.now c.loop-index.index c.loop-index-test.true i.cuts in
    let again = to_z-of_z w128 cut (fits_between cut (omega (arith, ints, h.0.0, i.begun)) (omega (arith, ints, h.0.1))) in
    subst (λ (z : ℤ). IsMonotone (value m) start z) (sym again)
    (monotone_between (value m) (value (difference m)) (value_difference m) start cut h.1.1.0)

pub loop-index-preserved : goal.loop-index-preserved
loop-index-preserved c =
    let m = listed (map (λ (w : Whole). number w.value) c.args.f.now.list.items) in
    let i = c.loop-index.invariant in
    let start = to_z w128 c.loop-index.start-bits in
    let cut = get_or c.args.cuts.now c.loop-index.index (pos 0) in
    let h = next_of_all (IsTurn (value (difference m))) start greatest c.args.cuts.now c.loop-index.index c.loop-index-test.true i.cuts in
    let again = to_z-of_z w128 cut (fits_between cut (omega (arith, ints, h.0.0, i.begun)) (omega (arith, ints, h.0.1))) in
    record {
      begun = omega (arith, ints, again, h.0.0, i.begun);
      within = omega (arith, ints, again, h.0.1);
      cuts =
          subst (λ (z : ℤ). AreAll (IsTurn (value (difference m))) z greatest (drop (c.loop-index.index + 1) c.args.cuts.now)) (sym again) h.1.1.1;
      found = c.in_ok-sign.ensures.found;
      sign = c.in_ok-sign.ensures.ended;
    }

-- and so they do above the last
pub push_turns-requires-2-clause-monotone : goal.push_turns-requires-2-clause-monotone
push_turns-requires-2-clause-monotone c =
    let m = listed (map (λ (w : Whole). number w.value) c.args.f.now.list.items) in
    let start = to_z w128 c.loop-index.start-bits in
    monotone_between (value m) (value (difference m)) (value_difference m) start greatest
    (λ z above before.
    none_of_all (IsTurn (value (difference m))) start greatest c.args.cuts.now c.loop-index.index c.loop-index-test.false c.loop-index.invariant.cuts z above
    (omega (arith, ints, before)))
