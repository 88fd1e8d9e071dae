use Rattle.std.proofs.Common.{◌≡◌, ap, ◌∙◌, arith}
use Rattle.std.specs.Prelude.{unsigned_abs}
use Rattle.poly_fraction.specs.FractionOf.{fraction_of}
use Rattle.hypergeometric.specs.Fraction.{fraction_negative}
use Rattle.proper_term.specs.Fields.{number_fraction_of}
use Rattle.term_classes.specs.Walk.{with_scale}
use Rattle.term_walk.specs.Views.{gathered_of}
use Rattle.term_walk.proofs.CodePowers.{size_is}
use Rattle.term_walk.proofs.LowestFields.{has_terms, is_lowest}
use Rattle.term_walk.proofs.ScaleSigns.{even_power, odd_power, negative_terms}
use Rattle.term_walk.proofs.gathered.Gathered.with_sign.Goals as goal

-- an even power of -1
pub returns-then-unsigned_abs-eq0 : goal.returns-then-unsigned_abs-eq0
returns-then-unsigned_abs-eq0 c =
    let same : c.unsigned_abs.result ≡ unsigned_abs c.args.power = size_is c.args.power _ c.ranges.power c.unsigned_abs.ensures.value in
    record {
      sign = ap (λ s. with_scale s (gathered_of c.args.self))
          (even_power (number_fraction_of (fraction_of c.args.self.scale)) (has_terms (fraction_of c.args.self.scale) c.args.self.lowest) c.args.power
          (omega (arith, same, c.if-unsigned_abs-eq0.true)));
    }

pub invariant_of-result : goal.invariant_of-result
invariant_of-result c = record {
  not_zero = c.args.self.not_zero;
  lowest = is_lowest (fraction_of c.negative.result) (fraction_negative (number_fraction_of (fraction_of c.args.self.scale))) c.negative.ensures.value
      (negative_terms (number_fraction_of (fraction_of c.args.self.scale)) (has_terms (fraction_of c.args.self.scale) c.args.self.lowest));
}

-- an odd power of -1
pub returns : goal.returns
returns c =
    let same : c.unsigned_abs.result ≡ unsigned_abs c.args.power = size_is c.args.power _ c.ranges.power c.unsigned_abs.ensures.value in
    record {
      sign = ap (λ s. with_scale s (gathered_of c.args.self)) (c.negative.ensures.value
          ∙ odd_power (number_fraction_of (fraction_of c.args.self.scale)) (has_terms (fraction_of c.args.self.scale) c.args.self.lowest) c.args.power
          (λ e. c.if-unsigned_abs-eq0.false (omega (arith, same, e))));
    }
