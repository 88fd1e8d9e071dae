use Rattle.std.proofs.Common.{◌∙◌}
use Rattle.lin_form.specs.ListOf.{list_of}
use Rattle.gosper_form.proofs.GatheredForms.{gathered_more, few_more, gathered_fits}
use Rattle.gosper_form.proofs.form_products.gathered.Goals as goal

pub multiply-requires-clause-fits : goal.multiply-requires-clause-fits
multiply-requires-clause-fits c =
    gathered_fits c.args.forms.now c.loop-raised.raised-index c.raised-item.result c.loop-raised-test.true c.raised-item.is
    (list_of c.loop-raised.list).factors c.requires.few c.loop-raised.invariant.few

-- one form more
pub loop-raised-preserved : goal.loop-raised-preserved
loop-raised-preserved c = record {
  forms = gathered_more c.args.forms.now c.loop-raised.raised-index c.raised-item.result c.loop-raised-test.true c.raised-item.is
      (list_of c.loop-raised.list).factors (list_of c.multiply.new.self).factors c.in_ok-multiply.ensures.factors c.loop-raised.invariant.forms;
  few = few_more c.args.forms.now c.loop-raised.raised-index c.raised-item.result c.loop-raised-test.true c.raised-item.is
      (list_of c.loop-raised.list).factors (list_of c.multiply.new.self).factors c.in_ok-multiply.ensures.factors c.loop-raised.invariant.few;
  unit = c.in_ok-multiply.ensures.scale ∙ c.loop-raised.invariant.unit;
}
