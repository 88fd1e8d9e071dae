use Rattle.std.proofs.Common.{arith}
use Rattle.hypergeometric.specs.FactorLists.{factor_with}
use Rattle.hypergeometric.specs.FormOrder.{IsFactor}
use Rattle.hypergeometric.specs.TermFacts.{IsWithinLimits}
use Rattle.lin_form.specs.Forms.{form_of}
use Rattle.lin_form.specs.ListOf.{list_of}
use Rattle.gosper_form.specs.Shares.{share_of, CanGive}
use Rattle.gosper_form.specs.RaisedForms.{factors_of}
use Rattle.gosper_form.proofs.ShareLists.{at_index, power_of_item, shares_more, shares_end, shares_few}
use Rattle.gosper_form.proofs.piece_forms.with_shares.Goals as goal

pub with_share-requires-clause-within : goal.with_share-requires-clause-within
with_share-requires-clause-within c =
    at_index (λ x. IsWithinLimits x.form) (list_of c.args.list.now).factors c.loop-index.index
    (factor_with (form_of c.in-Some.form) c.in-Some.power) c.in-Some.ensures.item c.requires.within

pub with_share-requires-clause-can_give : goal.with_share-requires-clause-can_give
with_share-requires-clause-can_give c =
    at_index (λ x. CanGive c.args.share x.form) (list_of c.args.list.now).factors c.loop-index.index
    (factor_with (form_of c.in-Some.form) c.in-Some.power) c.in-Some.ensures.item c.requires.can_give

pub with_share-requires-clause-some : goal.with_share-requires-clause-some
with_share-requires-clause-some c =
    (at_index IsFactor (list_of c.args.list.now).factors c.loop-index.index
    (factor_with (form_of c.in-Some.form) c.in-Some.power) c.in-Some.ensures.item c.args.list.now.factors.each).some

pub with_share-requires-clause-few : goal.with_share-requires-clause-few
with_share-requires-clause-few c =
    let within = power_of_item (list_of c.args.list.now).factors c.loop-index.index (factor_with (form_of c.in-Some.form) c.in-Some.power)
    c.in-Some.ensures.item in
    omega (arith, within, c.requires.few)

-- the share of one more item
pub loop-index-preserved : goal.loop-index-preserved
loop-index-preserved c =
    shares_more (share_of c.args.share c.args.order) (list_of c.args.list.now).factors c.loop-index.index
    (factor_with (form_of c.in-Some.form) c.in-Some.power) c.in-Some.ensures.item _ (factors_of c.loop-index.forms.items)
    (factors_of c.in_ok-forms.forms.items) c.loop-index.invariant c.in_ok-forms.ensures.makes

pub returns-clause-few : goal.returns-clause-few
returns-clause-few c =
    shares_few c.args.share c.args.order (list_of c.args.list.now).factors c.requires.low c.requires.within c.requires.can_give
    (factors_of c.args.forms.items) (factors_of c.loop-index.forms.items)
    (shares_end (share_of c.args.share c.args.order) (list_of c.args.list.now).factors c.loop-index.index
    (omega (arith, c.loop-index-test.false, c.len-index-end.ensures.count)) _ (factors_of c.loop-index.forms.items) c.loop-index.invariant)
