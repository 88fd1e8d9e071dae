use Rattle.std.proofs.Common.{ap, sym, ◌∙◌, true≢false}
use Rattle.ring_laws.specs.Wholes.{is_zero}
use Rattle.poly_fraction.specs.FractionOf.{fraction_of}
use Rattle.tree_polynomials.proofs.LowestFractions.{lowest_is}
use Rattle.tree_polynomials.proofs.fractions.lowered.Goals as goal

-- lowest terms of a fraction are unique
pub returns : goal.returns
returns c = record {
  lowest = lowest_is (fraction_of c.args.fraction.now) (fraction_of c.lowest.result)
      (λ z. true≢false (sym (ap is_zero z) ∙ c.args.fraction.now.nonzero)) c.lowest.ensures.same c.lowest.ensures.lowest;
}
