use Rattle.std.specs.Int.{w128, ◌∣◌}
use Rattle.std.proofs.Common.{sym, ◌∙◌, subst, unsigned_abs}
use Rattle.std.proofs.lemmas.Int.{fits_signed_from_abs}
use Rattle.poly_fraction.proofs.ExactQuotients.{exact}
use Rattle.poly_fraction.proofs.lowest_terms.exact_quotient.Goals as goal

pub returns : goal.returns
returns c = record {
  quotient =
      exact c.value.result c.args.divisor c.new.result c.unwrap.result (fits_signed_from_abs w128 c.value.result c.value.ensures.small)
      c.ranges.divisor c.value.ensures.small
      (subst (λ t. unsigned_abs c.args.divisor ∣ unsigned_abs t) (sym c.value.ensures.value) c.requires.divides) c.new.ensures.given
      c.unwrap.ensures
      ∙ c.value.ensures.value;
}
