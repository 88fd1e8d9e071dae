use Rattle.std.proofs.Common.{◌≡◌, ap, sym, ◌∙◌, subst, true≢false, [], ◌∷◌}
use Rattle.ring_laws.specs.Answer.{fault_weaker}
use Rattle.ring_laws.specs.Wholes.{is_zero}
use Rattle.poly_fraction.specs.FractionOf.{fraction_of}
use Rattle.hypergeometric.specs.Fraction.{Fraction, natural_power}
use Rattle.hypergeometric.proofs.FractionLaws.{pow_not_zero}
use Rattle.proper_term.specs.Fields.{number_fraction_of, number_fraction}
use Rattle.proper_term.specs.Runs.{GivesRun}
use Rattle.proper_term.proofs.Faults.{handed_on}
use Rattle.proper_term.proofs.PowerFractions.{power_parts, top_small, bottom_small}
use Rattle.proper_term.proofs.running.times_natural_power.Goals as goal

pub returns-in_err-top : goal.returns-in_err-top
returns-in_err-top c = record {
  run = handed_on (GivesRun fraction_of (number_fraction_of (fraction_of c.args.running.now))
      (natural_power (number_fraction c.args.top.value c.args.bottom.value) c.args.exponent ∷ []))
      c.from_residual.result c.in_err-top.field-0.0 c.from_residual.ensures.1
      (fault_weaker c.in_err-top.field-0.0 (λ n b. n (top_small (number_fraction_of (fraction_of c.args.running.now)) c.args.top.value c.args.bottom.value
      c.args.exponent b c.requires.running)) c.in_err-top.ensures.power);
}

pub returns-in_err-bottom : goal.returns-in_err-bottom
returns-in_err-bottom c = record {
  run = handed_on (GivesRun fraction_of (number_fraction_of (fraction_of c.args.running.now))
      (natural_power (number_fraction c.args.top.value c.args.bottom.value) c.args.exponent ∷ []))
      c.from_residual-in_err-bottom.result c.in_err-bottom.field-0.0 c.from_residual-in_err-bottom.ensures.1
      (fault_weaker c.in_err-bottom.field-0.0 (λ n b. n (bottom_small (number_fraction_of (fraction_of c.args.running.now)) c.args.top.value
      c.args.bottom.value c.args.exponent b (λ z. true≢false (sym (ap is_zero z) ∙ c.args.running.now.nonzero)))) c.in_err-bottom.ensures.power);
}

-- a power of the bottom isn't 0
pub times-requires : goal.times-requires
times-requires c = record {
  not_zero = λ e. pow_not_zero c.args.bottom.value c.args.exponent c.requires.bottom (sym c.in_ok-bottom.ensures.power ∙ e);
}

-- the parts of the power
pub returns : goal.returns
returns c =
    let e : number_fraction c.in_ok-top.top.value c.in_ok-bottom.bottom.value
    ≡ natural_power (number_fraction c.args.top.value c.args.bottom.value) c.args.exponent =
    (λ i. number_fraction (c.in_ok-top.ensures.power i) (c.in_ok-bottom.ensures.power i)) ∙ sym
    (power_parts c.args.top.value c.args.bottom.value c.args.exponent) in
    record {
      run = subst (λ (x : Fraction). GivesRun fraction_of (number_fraction_of (fraction_of c.args.running.now))
          (x ∷ []) c.times.result) e c.times.ensures.run;
    }
