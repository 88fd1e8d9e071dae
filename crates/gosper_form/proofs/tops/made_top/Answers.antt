use Rattle.std.proofs.Common.{ap, ◌∙◌, arith, w64, to_z, of_z}
use Rattle.std.proofs.lemmas.Int.{ints}
use Rattle.lin_form.proofs.ListProducts.{fault_list}
use Rattle.poly_fraction.specs.FractionOf.{fraction_of}
use Rattle.proper_term.specs.Fields.{number_fraction_of}
use Rattle.proper_term.specs.TermOf.{term_of}
use Rattle.gosper_form.specs.RaisedForms.{factors_of}
use Rattle.gosper_form.proofs.TopFaults.{shift_too_large, number_is, number_some, number_too_large, top_made}
use Rattle.gosper_form.proofs.tops.made_top.Goals as goal

-- the polynomial at n + j is too large
pub returns-in_err-poly-clause-too_large : goal.returns-in_err-poly-clause-too_large
returns-in_err-poly-clause-too_large c =
    fault_list _ c.from_residual.result c.in_err-poly.field-0.0 c.from_residual.ensures.1
    (shift_too_large (term_of c.args.term.now) c.args.order c.args.j _ (to_z w64 (of_z w64 c.from.result)) c.in_err-poly.field-0.0 c.in_err-poly.ensures.gives
    (omega (arith, ints, c.from.ensures)) c.poly.ensures.poly)

-- the powers of the base are
pub returns-in_err-number-clause-too_large : goal.returns-in_err-number-clause-too_large
returns-in_err-number-clause-too_large c =
    fault_list _ c.from_residual-in_err-number.result c.in_err-number.field-0.0 c.from_residual-in_err-number.ensures.1
    (number_too_large (term_of c.args.term.now) c.args.order c.args.j c.in_ok-forms.forms.items _ c.in_err-number.field-0.0 c.in_err-number.ensures.gives
    (number_is (term_of c.args.term.now) c.args.order c.args.j (number_fraction_of (fraction_of c.n_base.result.now)) c.n_base.ensures.n_base)
    c.in_ok-forms.ensures.makes)

pub product_of-requires-clause-not_zero : goal.product_of-requires-clause-not_zero
product_of-requires-clause-not_zero c =
    number_some (term_of c.args.term.now) c.args.order c.args.j c.in_ok-number.number.value
    (c.in_ok-number.ensures.gives
    ∙ number_is (term_of c.args.term.now) c.args.order c.args.j (number_fraction_of (fraction_of c.n_base.result.now)) c.n_base.ensures.n_base)
    c.requires.plain.proper.n_base

pub returns-clause-top : goal.returns-clause-top
returns-clause-top c =
    top_made (term_of c.args.term.now) c.args.order c.args.j _ _ _ c.in_ok-number.number.value c.as_slice.result.now c.in_ok-poly.ensures.gives.1
    (omega (arith, ints, c.from.ensures)) c.poly.ensures.poly c.in_ok-factors.ensures.product
    (c.in_ok-number.ensures.gives
    ∙ number_is (term_of c.args.term.now) c.args.order c.args.j (number_fraction_of (fraction_of c.n_base.result.now)) c.n_base.ensures.n_base)
    (ap factors_of c.as_slice.ensures.value ∙ c.in_ok-forms.ensures.makes)
