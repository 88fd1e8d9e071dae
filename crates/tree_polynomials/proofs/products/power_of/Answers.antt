use Rattle.proper_term.proofs.FieldPolynomials.{polynomial_kept}
use Rattle.tree_polynomials.proofs.PowersRaised.{power_given, power_refused}
use Rattle.tree_polynomials.proofs.PolynomialMeanings.{meaning_of}
use Rattle.tree_polynomials.proofs.products.power_of.Goals as goal

pub returns-clause-power : goal.returns-clause-power
returns-clause-power c =
    power_given c.times_power.result meaning_of
    (meaning_of c.args.base, (polynomial_kept c.args.base.list.items c.args.base.ended c.args.base.short).passes) _ c.args.power
    c.in_ok-one.ensures.gives c.times_power.ensures.gives

pub returns-clause-too_large : goal.returns-clause-too_large
returns-clause-too_large c =
    power_refused c.times_power.result meaning_of
    (meaning_of c.args.base, (polynomial_kept c.args.base.list.items c.args.base.ended c.args.base.short).passes) _ c.args.power
    c.in_ok-one.ensures.gives c.times_power.ensures.gives
