-- What is left of a quotient of factorials where common factors are cancelled: of m! as 1 * 2 * .. * m, each number i of at least 2
-- as often as it stands above more often than below, and the other way round.
use Rattle.std.specs.Prelude.{ℕ, zero, suc, ◌+◌, ◌-◌, max, if◌then◌else◌, nat_le, pos, unsigned_abs, List, [], ◌∷◌, ◌++◌, map, replicate}
use Rattle.hypergeometric.specs.Point.{Point}
use Rattle.hypergeometric.specs.Fraction.{Fraction}
use Rattle.hypergeometric.specs.LinearForm.{Factor, form_value}

-- the number whose factorial is taken, and how often
pub record Argument : Type 0 where
  pub number : ℕ
  pub power : ℕ

-- the values of the forms at a point at which none is negative
abbrev pub arguments_at : Point → List Factor → List Argument
arguments_at p xs = map (λ x. record { number = unsigned_abs (form_value x.form p); power = x.power }) xs

-- how often i stands in number! to a power: the power where i is at most the number, and else 0
abbrev pub counted : ℕ → ℕ → ℕ → ℕ
counted number power i = if nat_le i number then power else 0

-- how often i stands in the product of the factorials: the sum of the powers of the numbers that are at least i
abbrev pub at_least : List Argument → ℕ → ℕ
at_least [] i = 0
at_least (x ∷ xs) i = counted x.number x.power i + at_least xs i

-- the greatest number whose factorial is taken, and 0 where there is none
abbrev pub greatest : List Argument → ℕ
greatest [] = 0
greatest (x ∷ xs) = max x.number (greatest xs)

-- each of the numbers i, i + 1, .., so many of them, as often as counts says
abbrev pub rising : (ℕ → ℕ) → ℕ → ℕ → List ℕ
rising counts i zero = []
rising counts i (suc more) = replicate (counts i) i ++ rising counts (i + 1) more

-- the numbers from 2 on that stand above more often than below, each as often as it does so, rising
abbrev pub left_over : List Argument → List Argument → List ℕ
left_over above below = rising (λ i. at_least above i - at_least below i) 2 (max (greatest above) (greatest below))

-- t over b, of natural numbers
abbrev pub quotient : ℕ → ℕ → Fraction
quotient t b = record { top = pos t; bottom = pos b }

-- the j-th of the one list over the j-th of the other, and 1 where a list has no j-th
abbrev pub quotients : List ℕ → List ℕ → List Fraction
quotients [] [] = []
quotients (t ∷ ts) [] = quotient t 1 ∷ quotients ts []
quotients [] (b ∷ bs) = quotient 1 b ∷ quotients [] bs
quotients (t ∷ ts) (b ∷ bs) = quotient t b ∷ quotients ts bs
