use Rattle.std.proofs.Common.{◌≡◌, ◌≤ℤ◌, ℤ, ap, ◌∙◌, ◌∷◌, [], map, sym, subst, arith, to_z, of_z}
use Rattle.std.specs.Int.{w128}
use Rattle.std.proofs.lemmas.Int.{ints, to_z-of_z}
use Rattle.ring_laws.specs.Meaning.{number, listed}
use Rattle.ring_laws.specs.declared.wholes.Whole.{Whole}
use Rattle.whole_roots.specs.Signs.{sign_of, value}
use Rattle.whole_roots.specs.Turns.{least, SameSign, IsTurn, AreAll, IsNextTurn}
use Rattle.whole_roots.proofs.AllOf.{all_joined, all_extended, one_of_all}
use Rattle.whole_roots.proofs.Bounds.{above_fits, below_fits, fits_between, not_least}
use Rattle.whole_roots.proofs.Monotone.{monotone_within, no_turn_between}
use Rattle.whole_roots.proofs.SignLemmas.{false_true}
use Rattle.whole_roots.proofs.turns.push_turns.Goals as goal

pub next_turn-at-requires-clause-monotone : goal.next_turn-at-requires-clause-monotone
next_turn-at-requires-clause-monotone c =
    let m = listed (map (λ (w : Whole). number w.value) c.args.f.now.list.items) in
    let start = to_z-of_z w128 c.args.start c.ranges.start in
    let end = to_z-of_z w128 c.args.end c.ranges.end in
    monotone_within (value m) c.args.start c.args.end _ _ (omega (arith, ints, start, c.loop-sign.invariant.begun)) (omega (arith, ints, end))
    c.requires.monotone

-- the next turn comes last
pub loop-sign-preserved : goal.loop-sign-preserved
loop-sign-preserved c =
    let m = listed (map (λ (w : Whole). number w.value) c.args.f.now.list.items) in
    let start = to_z-of_z w128 c.args.start c.ranges.start in
    let end = to_z-of_z w128 c.args.end c.ranges.end in
    let i = c.loop-sign.invariant in
    let at = to_z w128 c.loop-sign.at-bits in
    let turn = c.next_turn-at.result in
    let next : IsNextTurn (value m) at (to_z w128 (of_z w128 c.args.end)) turn = c.next_turn-at.ensures.turn in
    let held = to_z w128 (of_z w128 turn) in
    let again : held ≡ turn =
    to_z-of_z w128 turn (fits_between turn (omega (arith, ints, next.above, i.begun, start, above_fits c.args.start c.ranges.start))
    (omega (arith, ints, next.within, end, below_fits c.args.end c.ranges.end))) in
    let after : IsNextTurn (value m) at (to_z w128 (of_z w128 c.args.end)) held =
    subst (λ (z : ℤ). IsNextTurn (value m) at (to_z w128 (of_z w128 c.args.end)) z) (sym again) next in
    record {
      sign = c.sign_at-sign.ensures.sign;
      begun = omega (arith, ints, after.above, i.begun);
      within = after.within;
      found =
          subst (λ xs. AreAll (IsTurn (value m)) least held xs) (sym c.in_ok-push.ensures.items)
          (all_joined (IsTurn (value m)) least at held c.loop-sign.found.items (held ∷ [])
          (omega (arith, ints, not_least c.args.start c.ranges.start c.requires.least, start, i.begun)) (omega (arith, ints, after.above)) i.found
          (one_of_all (IsTurn (value m)) at held after.above after.turns after.first));
    }

-- the sign isn't that at the end yet
pub next_turn-at-requires-clause-ended : goal.next_turn-at-requires-clause-ended
next_turn-at-requires-clause-ended c =
    let m = listed (map (λ (w : Whole). number w.value) c.args.f.now.list.items) in
    λ e. false_true (sym c.loop-sign-test.true ∙ c.is_same.ensures.same.1 (e ∙ sym c.sign_at-last.ensures.sign))

pub returns-clause-ended : goal.returns-clause-ended
returns-clause-ended c =
    let m = listed (map (λ (w : Whole). number w.value) c.args.f.now.list.items) in
    c.sign_at-last.ensures.sign ∙ ap (λ (z : ℤ). sign_of (value m z)) (to_z-of_z w128 c.args.end c.ranges.end)

-- the sign is that at the end, so no turn is left
pub returns-clause-found : goal.returns-clause-found
returns-clause-found c =
    let m = listed (map (λ (w : Whole). number w.value) c.args.f.now.list.items) in
    let at = to_z w128 c.loop-sign.at-bits in
    let start = to_z-of_z w128 c.args.start c.ranges.start in
    let end = to_z-of_z w128 c.args.end c.ranges.end in
    let i = c.loop-sign.invariant in
    let within : at ≤ℤ c.args.end = omega (arith, ints, i.within, end) in
    let one : SameSign (value m) at c.args.end =
    sym i.sign ∙ c.is_same.ensures.same.0 c.loop-sign-test.false ∙ c.sign_at-last.ensures.sign ∙ ap (λ (z : ℤ). sign_of (value m z)) end in
    all_extended (IsTurn (value m)) least at c.args.end c.loop-sign.found.items within i.found
    (no_turn_between (value m) at c.args.end c.args.end
    (monotone_within (value m) c.args.start c.args.end at c.args.end (omega (arith, ints, start, i.begun)) (omega (arith, ints)) c.requires.monotone)
    (omega (arith, ints)) one)
