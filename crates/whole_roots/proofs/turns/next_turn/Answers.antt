use Rattle.std.proofs.Common.{◌≡◌, ◌≤ℤ◌, ◌+ℤ◌, ℤ, pos, map, ap, sym, ◌∙◌, arith, to_z, of_z}
use Rattle.std.specs.Int.{w128}
use Rattle.std.proofs.lemmas.Int.{ints, to_z-of_z}
use Rattle.ring_laws.specs.Meaning.{number, listed}
use Rattle.ring_laws.specs.declared.wholes.Whole.{Whole}
use Rattle.whole_roots.specs.Signs.{sign_of, value}
use Rattle.whole_roots.proofs.Bounds.{above_fits, below_fits, fits_between, neighbours}
use Rattle.whole_roots.proofs.Monotone.{turn_found, apart}
use Rattle.whole_roots.proofs.turns.next_turn.Goals as goal

-- the ends have different signs
pub loop-low-init : goal.loop-low-init
loop-low-init c =
    let m = listed (map (λ (w : Whole). number w.value) c.args.f.now.list.items) in
    let low = to_z w128 (of_z w128 c.args.start) in
    let high = to_z w128 (of_z w128 c.args.end) in
    let start : low ≡ c.args.start = to_z-of_z w128 c.args.start c.ranges.start in
    let end : high ≡ c.args.end = to_z-of_z w128 c.args.end c.ranges.end in
    let order : low ≤ℤ high = omega (arith, ints, start, end, c.requires.order) in
    let different : ¬ (sign_of (value m high) ≡ sign_of (value m low)) =
    λ s. c.requires.ended (c.requires.begun ∙ ap (λ (z : ℤ). sign_of (value m z)) (sym start) ∙ sym s ∙ ap (λ (z : ℤ). sign_of (value m z)) end) in
    record {
      begun = omega (arith, ints);
      apart = apart (value m) low high order different;
      ended = omega (arith, ints);
      low_sign = ap (λ (z : ℤ). sign_of (value m z)) start ∙ sym c.requires.begun;
      high_sign = λ e. c.requires.ended (sym e ∙ ap (λ (z : ℤ). sign_of (value m z)) end);
    }

-- nothing is left between the two ends
pub returns : goal.returns
returns c =
    let m = listed (map (λ (w : Whole). number w.value) c.args.f.now.list.items) in
    let i = c.loop-low.invariant in
    let low = to_z w128 c.loop-low.low-bits in
    let high = to_z w128 c.loop-low.high-bits in
    let start = to_z-of_z w128 c.args.start c.ranges.start in
    let end = to_z-of_z w128 c.args.end c.ranges.end in
    let next : high ≤ℤ (low +ℤ pos 1) =
    neighbours low high (fits_between low (omega (arith, ints, start, i.begun, above_fits c.args.start c.ranges.start))
    (omega (arith, ints, i.apart, i.ended, end, below_fits c.args.end c.ranges.end))) i.apart
    (omega (arith, ints, i.ended, end, below_fits c.args.end c.ranges.end)) c.loop-low-test.false in
    record {
      turn =
          turn_found (value m) c.args.start c.args.end low high c.requires.monotone (omega (arith, ints, start, i.begun)) i.apart
          (omega (arith, ints, end, i.ended)) next (i.low_sign ∙ c.requires.begun)
          (λ e. i.high_sign (e ∙ sym c.requires.begun));
    }
