use Rattle.std.proofs.Common.{◌∙◌, ap, subst, arith, of_z}
use Rattle.std.proofs.lemmas.Int.{ints}
use Rattle.std.specs.Int.{w128}
use Rattle.std.specs.Prelude.{Option, pos}
use Rattle.ring_laws.specs.Wholes.{number_of}
use Rattle.steps.specs.Answers.{Answers}
use Rattle.steps.specs.Found.{found}
use Rattle.steps.specs.TermFaults.{TermSteps, term_cause}
use Rattle.hypergeometric.specs.Fraction.{Fraction}
use Rattle.hypergeometric.proofs.FractionPowers.{fraction_same}
use Rattle.term_classes.specs.Finding.{power_made}
use Rattle.tree_polynomials.specs.Views.{fraction_value}
use Rattle.tree_polynomials.proofs.ConstantSteps.{negative_power}
use Rattle.tree_polynomials.proofs.constant_powers.constant_power.Goals as goal

-- a negative power of what isn't 0
pub returns : goal.returns
returns c =
    let f = fraction_value c.args.base.now in
    let turned = subst
    (λ (g : Fraction). Answers term_cause (found fraction_value) (power_made c.args.at (pos c.unsigned_abs-times.result) g) c.natural_power-2.result)
    (fraction_same (ap number_of c.bottom-bottom.ensures.bottom) (ap number_of c.top-top.ensures.top)) c.natural_power-2.ensures.answers in
    record {
      answers = subst (λ (s : TermSteps (Option Fraction)). Answers term_cause (found fraction_value) s c.natural_power-2.result)
          (negative_power c.args.at c.args.power.value c.unsigned_abs-times.result f
          (omega (arith, ints, c.if-value-ge0.false, c.value-2.ensures.value))
          (omega (arith, ints, c.unsigned_abs-times.ensures.value, c.value.ensures.value))
          (λ e. c.if-value-eq0.false (ap (λ z. of_z w128 z) (c.value-3.ensures.value ∙ ap number_of c.top-top.ensures.top ∙ e))))
          turned;
    }
