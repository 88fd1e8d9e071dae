use Rattle.std.proofs.Common.{refl, sym, true≢false}
use Rattle.proper_term.proofs.FieldPolynomials.{polynomial_kept, nought_test}
use Rattle.proper_term.proofs.facts.keep_facts.Goals as goal

pub returns-then-is_zero : goal.returns-then-is_zero
returns-then-is_zero c = record {
  test = (λ e. absurd (true≢false (sym e)), λ h. absurd (h.0.poly_not_zero ((nought_test _).0 (c.if-is_zero.ensures.test.0 refl))));
}

-- each fact is tested, or kept by the type of its field
pub returns : goal.returns
returns c = record {
  test = (
    λ e. (
      record {
        poly = polynomial_kept c.args.poly.now.list.items c.args.poly.now.ended c.args.poly.now.short;
        poly_not_zero = λ z. true≢false (sym (c.if-is_zero.ensures.test.1 ((nought_test _).1 z)));
        scale = (c.if-not-are_lowest.ensures.test.0 refl).0;
        n_base = (c.if-not-are_lowest.ensures.test.0 refl).1;
        k_base = (c.if-not-are_lowest.ensures.test.0 refl).2;
        up = c.args.up.now.factors;
        down = c.args.down.now.factors;
        over = c.args.over.now.factors;
        over_primitive = c.are_divisors.ensures.test.0 e;
        guard = c.args.guard.now.factors;
      },
      c.if-not-have_unit_scales.ensures.test.0 refl,
    ),
    λ h. c.are_divisors.ensures.test.1 h.0.over_primitive,
  );
}
