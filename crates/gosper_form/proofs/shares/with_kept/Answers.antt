use Rattle.std.proofs.Common.{◌++◌, sym, arith, subst}
use Rattle.std.proofs.lemmas.Int.{ints}
use Rattle.hypergeometric.specs.FactorLists.{factor_with}
use Rattle.lin_form.specs.Forms.{form_of}
use Rattle.gosper_form.specs.RaisedForms.{factors_of, Makes}
use Rattle.gosper_form.proofs.Pushes.{nothing_more}
use Rattle.gosper_form.proofs.CountedShifts.{kept_all, kept_none}
use Rattle.gosper_form.proofs.shares.with_kept.Goals as goal

-- nothing is given
pub returns-then-k_slope-ne0 : goal.returns-then-k_slope-ne0
returns-then-k_slope-ne0 c = record {
  makes = nothing_more (factors_of c.args.forms.items) _ (kept_none c.args.order (factor_with (form_of c.args.form) c.args.power)
      (λ e. omega (arith, ints, e, c.k_slope.ensures.k_slope, c.if-k_slope-ne0.true)));
}

pub returns : goal.returns
returns c = record {
  makes = subst (λ xs. Makes (λ longer. factors_of longer.items) (factors_of c.args.forms.items ++ xs) c.with_counted.result)
      (sym (kept_all c.args.order (factor_with (form_of c.args.form) c.args.power)
      (omega (arith, ints, c.k_slope.ensures.k_slope, c.if-k_slope-ne0.false)))) c.with_counted.ensures.makes;
}
