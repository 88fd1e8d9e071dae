-- What the lists of a plain term keep: all forms are within the limits, none stands above and below, and there are at most 24 factors.
use Rattle.std.specs.Prelude.{◌≢◌, ◌+◌, ◌*◌, ◌≤◌, List}
use Rattle.std.specs.List.{AllByRecursion}
use Rattle.hypergeometric.specs.LinearForm.{Factor}
use Rattle.hypergeometric.specs.TermFacts.{AllWithinLimits, total_power}

-- the factors above and below, the divisors and the guards are those of a plain term
pub record ArePlainLists (above below divisors guards : List Factor) : Type 0 where
  pub within : AllWithinLimits above × AllWithinLimits below × AllWithinLimits divisors × AllWithinLimits guards
  pub cancelled : AllByRecursion (λ x. AllByRecursion (λ y. y.form ≢ x.form) below) above
  pub few : total_power above + total_power below + total_power divisors + 2 * total_power guards ≤ 24
