use Rattle.std.proofs.Common.{ℕ, ◌↔◌, take}
use Rattle.std.specs.Int.{◌∣◌}
use Rattle.ekhad_cli.specs.Antidifference.{DividesAll}
use Rattle.ekhad_cli.proofs.antidifference.greatest_divisor.Given as goal

-- the divisors of the divisor so far are the common divisors of 60 and the numbers so far
abbrev pub invariant-loop-number : goal.invariant-loop-number
invariant-loop-number l = (d : ℕ) → (d ∣ l.divisor) ↔ ((d ∣ 60) × DividesAll d (take l.number-index l.numbers))
