-- The limits of the program: what is counted, up to where, and how a count is carried.
use Rattle.std.specs.Prelude.{ℕ, min, ◌-◌, ◌^◌}
use Rattle.steps.specs.declared.limits.LimitName.{LimitName}
use Rattle.steps.specs.declared.limits.LimitName.TheVariants.{Factors, Slope, Offset, Exponent, Order, Degree, MatchShifts, Columns, HyperPairs, BoxSide}

-- the greatest count that is within a limit
abbrev pub greatest_count : LimitName → ℕ
greatest_count Factors = 24
greatest_count Slope = 8
greatest_count Offset = 1000000
greatest_count Exponent = 12
greatest_count Order = 6
greatest_count Degree = 64
greatest_count MatchShifts = 256
greatest_count Columns = 48
greatest_count HyperPairs = 1024
greatest_count BoxSide = 256

-- a count above 2^64 - 1 is carried as 2^64 - 1
abbrev pub capped : ℕ → ℕ
capped count = min count (2 ^ 64 - 1)
