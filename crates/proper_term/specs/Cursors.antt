-- How the numbers that are left of a quotient of factorials are found, from argument to argument.
use Rattle.std.specs.Prelude.{◌≡◌, ℕ, ◌+◌, ◌-◌, ◌≤◌, max, List, [], ◌∷◌, ◌++◌, replicate, Option, Some, None}
use Rattle.proper_term.specs.Cancelled.{Argument, at_least, greatest, rising}
use Rattle.proper_term.specs.declared.argument.Argument.{Argument as ArgumentOfCode}

-- the number and the power that an argument of the code stands for
abbrev pub argument_of : ArgumentOfCode → Argument
argument_of a = record { number = a.number; power = a.power }

-- the numbers from one on up to v stand equally often in the product of the factorials
pub record IsNext (v first : ℕ) (xs : List Argument) : Type 0 where
  pub from_on : first ≤ v
  pub within : v ≤ greatest xs
  pub same : (j : ℕ) → first ≤ j → j ≤ v → at_least xs j ≡ at_least xs first

-- the same, or no number from there on stands in the product
abbrev pub IsNextOf : Option ℕ → ℕ → List Argument → Type 0
IsNextOf (Some v) first xs = IsNext v first xs
IsNextOf None first xs = (j : ℕ) → first ≤ j → at_least xs j ≡ 0

-- the same for two lists
pub record IsNextOfTwo (v first : ℕ) (above below : List Argument) : Type 0 where
  pub from_on : first ≤ v
  pub within : v ≤ max (greatest above) (greatest below)
  pub same_above : (j : ℕ) → first ≤ j → j ≤ v → at_least above j ≡ at_least above first
  pub same_below : (j : ℕ) → first ≤ j → j ≤ v → at_least below j ≡ at_least below first

-- the numbers from `first` to v stand equally often in each of the two products of factorials; or none from `first` on stands in either
abbrev pub IsNextOfBoth : Option ℕ → ℕ → List Argument → List Argument → Type 0
IsNextOfBoth (Some v) first above below = IsNextOfTwo v first above below
IsNextOfBoth None first above below = (j : ℕ) → first ≤ j → (at_least above j ≡ 0) × (at_least below j ≡ 0)

-- the first number of a list, and 1 where there is none
abbrev pub first_of : List ℕ → ℕ
first_of [] = 1
first_of (x ∷ xs) = x

-- the numbers of a list behind its first
abbrev pub rest_of : List ℕ → List ℕ
rest_of [] = []
rest_of (x ∷ xs) = xs

-- so many copies of a number, and then the greater numbers that stand above more often than below
abbrev pub numbers_left : List Argument → List Argument → ℕ → ℕ → List ℕ
numbers_left above below number copies =
    replicate copies number
    ++ rising (λ i. at_least above i - at_least below i) (number + 1) (max (greatest above) (greatest below) + 1 - number)

-- where no number is here, none is left
abbrev pub IsFilled : List Argument → List Argument → ℕ → ℕ → Type 0
IsFilled above below number copies = copies ≡ 0 → numbers_left above below number copies ≡ []
