use Rattle.std.proofs.Common.{◌≡◌, ◌≤ℤ◌, ◌+ℤ◌, ◌-ℤ◌, ℤ, pos, negsuc, ◌-◌, ◌^◌, map, ap, sym, ◌∙◌, subst, arith, to_z, of_z}
use Rattle.std.specs.Int.{w128}
use Rattle.std.proofs.lemmas.Int.{ints, to_z-of_z}
use Rattle.ring_laws.specs.Meaning.{number, listed}
use Rattle.ring_laws.specs.declared.wholes.Whole.{Whole}
use Rattle.whole_roots.specs.Signs.{sign_of, value}
use Rattle.whole_roots.specs.Roots.{IsRoot}
use Rattle.whole_roots.proofs.AllOf.{all_extended, one_more}
use Rattle.whole_roots.proofs.Bounds.{above_fits, below_fits, fits_between, not_least}
use Rattle.whole_roots.specs.Turns.{AreAll}
use Rattle.whole_roots.proofs.Monotone.{stays, zero_stays}
use Rattle.whole_roots.proofs.SignLemmas.{false_true}
use Rattle.whole_roots.proofs.roots.push_roots.Goals as goal

-- the sign isn't 0 there, and so nowhere up to the end
pub returns-then-not-has_sign-clause-found : goal.returns-then-not-has_sign-clause-found
returns-then-not-has_sign-clause-found c =
    let m = listed (map (λ (w : Whole). number w.value) c.args.f.now.list.items) in
    let start = to_z-of_z w128 c.args.start c.ranges.start in
    all_extended (IsRoot m) _ (c.args.start -ℤ pos 1) c.args.end c.args.found.now.items (omega (arith, ints, c.requires.order)) c.requires.found
    (λ z above within root.
    let same : sign_of (value m (to_z w128 (of_z w128 c.args.start))) ≡ sign_of (pos 0) =
    ap (λ (y : ℤ). sign_of (value m y)) start
    ∙ stays (value m) c.args.start c.args.end c.requires.stays z (omega (arith, ints, above)) within ∙ ap sign_of root in
    false_true (sym c.if-not-has_sign.true ∙ c.has_sign.ensures.test.1 same))

-- the first root
pub loop-root-init : goal.loop-root-init
loop-root-init c =
    let m = listed (map (λ (w : Whole). number w.value) c.args.f.now.list.items) in
    let first = to_z w128 (of_z w128 c.args.start) in
    let start = to_z-of_z w128 c.args.start c.ranges.start in
    let end = to_z-of_z w128 c.args.end c.ranges.end in
    let root = zero_stays (value m) first c.args.start c.args.end first c.requires.stays start (c.has_sign.ensures.test.0 c.if-not-has_sign.false)
    (omega (arith, ints, start)) (omega (arith, ints, start, c.requires.order)) in
    record {
      begun = omega (arith, ints);
      within = omega (arith, ints, start, end, c.requires.order);
      found =
          subst (λ xs. AreAll (IsRoot m) (negsuc (2 ^ 127 - 1)) first xs) (sym c.in_ok-push.ensures.items)
          (one_more (IsRoot m) (negsuc (2 ^ 127 - 1)) first c.args.found.now.items
          (omega (arith, ints, start, not_least c.args.start c.ranges.start c.requires.least)) root
          (subst (λ (z : ℤ). AreAll (IsRoot m) (negsuc (2 ^ 127 - 1)) (z -ℤ pos 1) c.args.found.now.items) (sym start) c.requires.found));
    }

-- the next root
pub loop-root-preserved : goal.loop-root-preserved
loop-root-preserved c =
    let m = listed (map (λ (w : Whole). number w.value) c.args.f.now.list.items) in
    let i = c.loop-root.invariant in
    let root = to_z w128 c.loop-root.root-bits in
    let start = to_z-of_z w128 c.args.start c.ranges.start in
    let end = to_z-of_z w128 c.args.end c.ranges.end in
    let below : (root +ℤ pos 1) ≤ℤ c.args.end = omega (arith, ints, c.loop-root-test.true, end) in
    let next = to_z w128 (of_z w128 (root +ℤ pos 1)) in
    let again : next ≡ root +ℤ pos 1 =
    to_z-of_z w128 (root +ℤ pos 1) (fits_between (root +ℤ pos 1) (omega (arith, ints, i.begun, start, above_fits c.args.start c.ranges.start))
    (omega (arith, ints, below, below_fits c.args.end c.ranges.end))) in
    let zero = zero_stays (value m) (to_z w128 (of_z w128 c.args.start)) c.args.start c.args.end next c.requires.stays start
    (c.has_sign.ensures.test.0 c.if-not-has_sign.false) (omega (arith, ints, again, i.begun, start)) (omega (arith, ints, again, below)) in
    record {
      begun = omega (arith, ints, again, i.begun);
      within = omega (arith, ints, again, below, end);
      found =
          subst (λ xs. AreAll (IsRoot m) (negsuc (2 ^ 127 - 1)) next xs) (sym c.in_ok-push-2.ensures.items)
          (one_more (IsRoot m) (negsuc (2 ^ 127 - 1)) next c.loop-root.found.items
          (omega (arith, ints, again, i.begun, start, not_least c.args.start c.ranges.start c.requires.least)) zero
          (subst (λ (z : ℤ). AreAll (IsRoot m) (negsuc (2 ^ 127 - 1)) z c.loop-root.found.items) (before root next again) i.found));
    }
  where
    before : (x y : ℤ) → y ≡ x +ℤ pos 1 → x ≡ y -ℤ pos 1
    before x y e = omega (arith, ints, e)
