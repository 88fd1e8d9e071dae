use Rattle.std.proofs.Common.{◌++◌, ap, sym, ◌∙◌, arith, subst}
use Rattle.std.proofs.lemmas.Int.{ints}
use Rattle.hypergeometric.specs.FactorLists.{factor_with}
use Rattle.lin_form.specs.Forms.{form_of}
use Rattle.term_pieces.specs.Products.{form_plus}
use Rattle.term_pieces.specs.ItemForms.{counted}
use Rattle.gosper_form.specs.RaisedForms.{factors_of, Makes}
use Rattle.gosper_form.proofs.Pushes.{nothing_more}
use Rattle.gosper_form.proofs.CountedShifts.{later_all, later_none}
use Rattle.gosper_form.proofs.shares.with_later.Goals as goal

-- nothing is given
pub returns-then-k_slope-eq0 : goal.returns-then-k_slope-eq0
returns-then-k_slope-eq0 c = record {
  makes = nothing_more (factors_of c.args.forms.items) _ (later_none c.args.order (factor_with (form_of c.args.form) c.args.power)
      (omega (arith, ints, c.k_slope.ensures.k_slope, c.if-k_slope-eq0.true)));
}

pub returns : goal.returns
returns c = record {
  makes = subst (λ xs. Makes (λ longer. factors_of longer.items) (factors_of c.args.forms.items ++ xs) c.with_counted.result)
      (sym (later_all c.args.order (factor_with (form_of c.args.form) c.args.power)
      (λ e. omega (arith, ints, e, c.k_slope.ensures.k_slope, c.if-k_slope-eq0.false)))) (subst (λ f. Makes (λ longer. factors_of longer.items)
      (factors_of c.args.forms.items ++ counted c.args.order (factor_with f c.args.power)) c.with_counted.result)
      (c.moved.ensures.moved ∙ ap (form_plus (form_of c.args.form)) (omega (arith, ints, c.k_slope-2.ensures.k_slope)))
      c.with_counted.ensures.makes);
}
