use Rattle.std.proofs.Common.{[], ap, sym, ◌∙◌, subst}
use Rattle.std.specs.List.{AllByRecursion}
use Rattle.hypergeometric.specs.FormOrder.{IsPrimitive}
use Rattle.hypergeometric.specs.TermFacts.{IsLowest, IsNotConstant}
use Rattle.hypergeometric.proofs.FormPolynomials.{more_than_one}
use Rattle.poly_fraction.specs.FractionOf.{fraction_of}
use Rattle.proper_term.specs.Fields.{number_fraction_of}
use Rattle.proper_term.specs.TermOf.{term_of}
use Rattle.proper_term.proofs.FieldPolynomials.{polynomial_kept}
use Rattle.term_pieces.specs.Pieces.{gathered_forms}
use Rattle.gosper_form.specs.RaisedForms.{factors_of}
use Rattle.gosper_form.proofs.KeptForms.{kept_divisors}
use Rattle.gosper_form.proofs.CarrierFacts.{carrier_scale_lowest}
use Rattle.gosper_form.proofs.carriers.made_carrier.Goals as goal

-- the facts of every proper term hold
pub unreachable-requires : goal.unreachable-requires
unreachable-requires c = c.in-None.ensures.given (
  record {
    poly = polynomial_kept c.in_ok-poly.poly.list.items c.in_ok-poly.poly.ended c.in_ok-poly.poly.short;
    poly_not_zero = λ e. more_than_one (sym c.in_ok-poly.ensures.gives ∙ e);
    scale = carrier_scale_lowest (term_of c.args.term.now) c.args.order (number_fraction_of (fraction_of c.in_ok-scale.scale)) c.requires.plain.proper
        c.in_ok-scale.ensures.scale c.in_ok-scale.scale.top.small c.in_ok-scale.scale.bottom.small;
    n_base = subst IsLowest (sym (ap number_fraction_of c.in_ok-n_base.ensures.makes ∙ c.n_base.ensures.n_base)) c.requires.plain.proper.n_base;
    k_base = subst IsLowest (sym (ap number_fraction_of c.in_ok-k_base.ensures.makes ∙ c.k_base.ensures.k_base)) c.requires.plain.proper.k_base;
    up = c.in_ok-up.up.factors;
    down = c.in_ok-down.down.factors;
    over = c.in_ok-over.over.factors;
    over_primitive = subst (AllByRecursion (λ x. IsPrimitive x.form × IsNotConstant x.form))
        (sym (c.in_ok-over.ensures.makes ∙ ap (gathered_forms []) (ap factors_of c.as_slice.ensures.value ∙ c.in_ok-kept.ensures.makes)))
        (kept_divisors c.args.order (term_of c.args.term.now).over c.requires.plain.proper.over_primitive);
    guard = c.in_ok-guard.guard.factors;
  },
  record {
    up = c.in_ok-up.ensures.scale;
    down = c.in_ok-down.ensures.scale;
    over = c.in_ok-over.ensures.scale;
    guard = c.in_ok-guard.ensures.scale;
  },
)
