use Rattle.std.proofs.Common.{ap, sym, ◌∙◌, true≢false}
use Rattle.std.specs.Prelude.{◌*ℤ◌}
use Rattle.std.proofs.Math.IntN.{pow}
use Rattle.ring_laws.specs.Wholes.{is_zero}
use Rattle.steps.proofs.StepLaws.{same_Ok}
use Rattle.hypergeometric.proofs.FractionLaws.{product_not_zero, pow_not_zero}
use Rattle.tree_polynomials.proofs.fractions.times_natural_power.Goals as goal

-- a power of the bottom isn't 0
pub over-requires : goal.over-requires
over-requires c = record {
  not_zero =
      λ z. product_not_zero c.bottom.result.now.value (pow c.args.bottom.value c.args.power)
      (λ e. true≢false (sym (ap is_zero e) ∙ c.bottom.ensures.not_zero))
      (pow_not_zero c.args.bottom.value c.args.power c.requires.not_zero)
      (same_Ok (c.bottom.result.now.value *ℤ pow c.args.bottom.value c.args.power) c.in_ok-bottom.bottom.value c.in_ok-bottom.ensures.answers ∙ z);
}
