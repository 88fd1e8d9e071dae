use Rattle.std.proofs.Common.{◌+◌, ◌<◌, ◌^◌, ap, sym, ◌∙◌, subst}
use Rattle.std.specs.Prelude.{pos, neg_ℤ, ◌*ℤ◌}
use Rattle.hypergeometric.specs.FactorLists.{factor_with, power_of, with_factor}
use Rattle.hypergeometric.specs.FormOrder.{IsFactor}
use Rattle.hypergeometric.specs.TermFacts.{IsWithinLimits}
use Rattle.lin_form.specs.Forms.{form_of}
use Rattle.lin_form.specs.ListOf.{list_of}
use Rattle.term_pieces.specs.ItemForms.{positive_part}
use Rattle.gosper_form.proofs.ShareLists.{at_index}
use Rattle.gosper_form.proofs.CarrierForms.{moved_more, moved_fits}
use Rattle.gosper_form.proofs.carriers.factorials_below.Goals as goal

pub form_below-requires-clause-within : goal.form_below-requires-clause-within
form_below-requires-clause-within c =
    at_index (λ x. IsWithinLimits x.form) (list_of c.args.list.now).factors c.loop-index.index
    (factor_with (form_of c.in-Some.form) c.in-Some.power) c.in-Some.ensures.item c.requires.within

pub multiply-requires-clause-some : goal.multiply-requires-clause-some
multiply-requires-clause-some c =
    (at_index IsFactor (list_of c.args.list.now).factors c.loop-index.index
    (factor_with (form_of c.in-Some.form) c.in-Some.power) c.in-Some.ensures.item c.args.list.now.factors.each).some

-- the form isn't there yet
pub multiply-requires-clause-fits : goal.multiply-requires-clause-fits
multiply-requires-clause-fits c =
    subst (λ f. power_of f (list_of c.loop-index.below).factors + c.in-Some.power < 2 ^ 32) (sym c.form_below.ensures.form)
    (moved_fits (λ s. positive_part s *ℤ pos c.args.order) (λ s. neg_ℤ (positive_part s)) (list_of c.args.list.now).factors (list_of c.loop-index.below).factors
    c.loop-index.index (factor_with (form_of c.in-Some.form) c.in-Some.power) c.in-Some.ensures.item c.args.list.now.factors.distinct
    c.loop-index.invariant.leads
    (at_index IsFactor (list_of c.args.list.now).factors c.loop-index.index
    (factor_with (form_of c.in-Some.form) c.in-Some.power) c.in-Some.ensures.item c.args.list.now.factors.each).few)

-- one form more
pub loop-index-preserved : goal.loop-index-preserved
loop-index-preserved c = record {
  leads = moved_more (λ s. positive_part s *ℤ pos c.args.order) (λ s. neg_ℤ (positive_part s)) (list_of c.args.list.now).factors (list_of c.loop-index.below).factors
      c.loop-index.index (factor_with (form_of c.in-Some.form) c.in-Some.power) c.in-Some.ensures.item c.args.list.now.factors.distinct
      c.loop-index.invariant.leads (list_of c.multiply.new.self).factors
      (c.in_ok-multiply.ensures.factors ∙ ap (λ f. with_factor f c.in-Some.power (list_of c.loop-index.below).factors) c.form_below.ensures.form);
  unit = c.in_ok-multiply.ensures.scale ∙ c.loop-index.invariant.unit;
}
