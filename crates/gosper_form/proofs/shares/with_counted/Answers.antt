use Rattle.std.proofs.Common.{◌++◌, arith, subst}
use Rattle.std.proofs.lemmas.Int.{ints}
use Rattle.hypergeometric.specs.FactorLists.{factor_with}
use Rattle.lin_form.specs.Forms.{form_of}
use Rattle.gosper_form.specs.RaisedForms.{factors_of, Makes}
use Rattle.gosper_form.proofs.CountedShifts.{counted_each}
use Rattle.gosper_form.proofs.shares.with_counted.Goals as goal

-- a denominator with an n
pub returns : goal.returns
returns c = record {
  makes = subst (λ xs. Makes (λ longer. factors_of longer.items) (factors_of c.args.forms.items ++ xs) c.with_shifts-2.result)
      (counted_each c.args.order (factor_with (form_of c.args.form) c.args.power)
      (λ e. omega (arith, ints, e, c.n_slope.ensures.n_slope, c.if-n_slope-eq0.false))) c.with_shifts-2.ensures.makes;
}
