-- The formats of numbers: decimal digits without leading zeros, a minus before a negative number.
use Rattle.std.specs.Prelude.{ℕ, ◌<◌, ◌^◌, ℤ, unsigned_abs}
use Rattle.std.specs.Fmt.{decimal, signed_decimal}
use Rattle.exact_texts.specs.Formats.{Format}

-- numbers below a bound
abbrev pub numbers_below : ℕ → Format ℕ
numbers_below bound = record { Has = λ n. n < bound; text = decimal }

-- numbers of at most 127 bits
abbrev pub naturals : Format ℕ
naturals = numbers_below (2 ^ 127)

-- whole numbers, below 2^127 in magnitude
abbrev pub whole_numbers : Format ℤ
whole_numbers = record { Has = λ z. unsigned_abs z < 2 ^ 127; text = signed_decimal }
