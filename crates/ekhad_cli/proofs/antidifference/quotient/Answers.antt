use Rattle.std.proofs.Common.{ap, ◌∙◌}
use Rattle.std.proofs.lemmas.Int.{quot_is, quot_fits}
use Rattle.std.specs.Prelude.{◌*ℤ◌}
use Rattle.ekhad_cli.proofs.Divisors.{exact, quotient_small}
use Rattle.ekhad_cli.proofs.antidifference.quotient.Goals as goal

-- the rest of the division is 0
pub returns : goal.returns
returns c =
    let same = quot_is _ c.args.number c.args.divisor c.ranges.number c.ranges.divisor
    (quot_fits _ c.args.number c.args.divisor c.ranges.number c.requires.positive) in
    let whole = ap (λ z. z *ℤ c.args.divisor) same ∙ exact c.args.number c.args.divisor c.requires.divides in record {
      exact = whole;
      small = quotient_small _ c.args.divisor c.args.number c.requires.positive whole;
    }
