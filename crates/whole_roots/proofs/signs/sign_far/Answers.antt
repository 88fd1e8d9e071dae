use Rattle.std.proofs.Common.{drop, sym, subst, arith, to_z, of_z}
use Rattle.std.specs.Int.{w128}
use Rattle.std.proofs.lemmas.Int.{to_z-of_z, fits_signed_from_abs}
use Rattle.whole_roots.specs.Clamps.{IsClamped}
use Rattle.ring_laws.specs.declared.wholes.Whole.{Whole}
use Rattle.poly_laws.specs.Values.{horner}
use Rattle.whole_roots.proofs.Clamping.{clamped_fits, far_step}
use Rattle.whole_roots.proofs.Values.{value_before}
use Rattle.whole_roots.proofs.signs.sign_far.Goals as goal

-- the coefficient of the power comes in front, and a value that was cut off may stand for the value
pub loop-power-preserved : goal.loop-power-preserved
loop-power-preserved c =
    let at = to_z w128 (of_z w128 c.args.at) in
    let r = c.clamped_step-clamped.result in
    let again = to_z-of_z w128 r (fits_signed_from_abs w128 r (clamped_fits _ r c.clamped_step-clamped.ensures.clamped)) in
    record {
      within = omega (arith, c.loop-power.invariant.within);
      clamped =
          subst (λ z. IsClamped z (to_z w128 (of_z w128 r)))
          (sym (value_before at c.args.list.now c.loop-power.power c.index-list-power.result c.loop-power-test.true c.loop-power.invariant.within
          c.index-list-power.is))
          (far_step c.args.at at c.value.result (to_z w128 (of_z w128 c.value.result)) c.index-list-power.result.value
          (horner (λ (w : Whole). w.value) at (drop c.loop-power.power c.args.list.now))
          (to_z w128 c.loop-power.clamped-bits) r (to_z w128 (of_z w128 r))
          c.requires.far (to_z-of_z w128 c.args.at c.ranges.at) c.value.ensures.small
          (to_z-of_z w128 c.value.result (fits_signed_from_abs w128 c.value.result c.value.ensures.small)) c.value.ensures.value
          c.loop-power.invariant.clamped c.clamped_step-clamped.ensures.clamped again);
    }
