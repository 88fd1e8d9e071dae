use Rattle.std.proofs.Common.{◌++◌, ap, sym, ◌∙◌, arith, add-one}
use Rattle.std.proofs.lemmas.Int.{ints}
use Rattle.std.specs.Prelude.{pos, neg_ℤ}
use Rattle.hypergeometric.specs.FactorLists.{factor_with}
use Rattle.lin_form.specs.Forms.{form_of}
use Rattle.term_pieces.specs.Products.{form_plus, forms_below}
use Rattle.gosper_form.specs.RaisedForms.{factor_of, factors_of}
use Rattle.gosper_form.proofs.Pushes.{one_more}
use Rattle.gosper_form.proofs.runs.with_forms_below.Goals as goal

-- one form more
pub loop-step-preserved : goal.loop-step-preserved
loop-step-preserved c =
    one_more factor_of c.loop-step.forms.items c.push.new.self.items (factors_of c.args.forms.items)
    (forms_below (form_of c.args.form) c.loop-step.step c.args.power) _
    (factor_with (form_plus (form_of c.args.form) (neg_ℤ (pos c.loop-step.step))) c.args.power) c.loop-step.invariant c.in_ok-push.ensures.items
    (ap (λ f. factor_with f c.args.power) (c.moved-form.ensures.moved ∙ ap (form_plus (form_of c.args.form)) (omega (arith, ints, c.from.ensures))))
    ∙ ap (λ m. factors_of c.args.forms.items ++ forms_below (form_of c.args.form) m c.args.power) (sym (add-one c.loop-step.step))
