use Rattle.std.proofs.Common.{◌<◌, pos, ap, sym, ◌∙◌, arith, get_or, to_z, w64}
use Rattle.std.specs.Prelude.{◌+ℤ◌, ◌*ℤ◌}
use Rattle.ekhad_cli.proofs.Signed.{sum_fits, sum_held, sum_held_small}
use Rattle.ekhad_cli.proofs.Sums.{dot_more}
use Rattle.ekhad_cli.proofs.antidifference.dot.Goals as goal

pub overflow_add-sum : goal.overflow_add-sum
overflow_add-sum c =
    sum_fits (to_z w64 c.loop-place.sum-bits) (get_or c.args.weights.now c.loop-place.place (pos 0)) (get_or c.args.c.now c.loop-place.place (pos 0))
    c.loop-place.place (omega (arith, c.requires.five, c.loop-place-test.true)) c.loop-place.invariant.small
    (c.requires.small_weights c.loop-place.place (pos 0) c.loop-place-test.true)
    (c.requires.small c.loop-place.place (pos 0) (omega (arith, c.requires.five, c.requires.as_many, c.loop-place-test.true)))

-- one product more
pub loop-place-preserved : goal.loop-place-preserved
loop-place-preserved c =
    let place = c.loop-place.place in
    let s = to_z w64 c.loop-place.sum-bits in
    let w = get_or c.args.weights.now place (pos 0) in
    let x = get_or c.args.c.now place (pos 0) in
    let within : place < 5 = omega (arith, c.requires.five, c.loop-place-test.true) in
    let light = c.requires.small_weights place (pos 0) c.loop-place-test.true in
    let small = c.requires.small place (pos 0) (omega (arith, c.requires.five, c.requires.as_many, c.loop-place-test.true)) in record {
      value = sum_held s w x place within c.loop-place.invariant.small light small
          ∙ ap (λ z. z +ℤ w *ℤ x) c.loop-place.invariant.value
          ∙ sym (dot_more c.args.weights.now c.args.c.now place c.loop-place-test.true (c.requires.five ∙ sym c.requires.as_many));
      small = sum_held_small s w x place within c.loop-place.invariant.small light small;
    }
