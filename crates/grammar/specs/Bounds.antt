-- The bounds of a box, a constructor for each production, with the places of the tokens:
--   bounds = bound | bounds "," bound
--   bound  = digits | "-" digits
use Rattle.std.specs.Prelude.{ℕ, ◌+◌, List, [], ◌∷◌, ◌++◌, ℤ, pos, neg_ℤ}
use Rattle.grammar.specs.Token.{digits, minus, comma, Placed}

-- a number of a box, with its places: digits, or a minus and digits
pub data Bound : Type 0 where
  plain_bound : ℕ → ℕ → Bound
  minus_bound : ℕ → ℕ → ℕ → Bound

-- one bound, or several with a comma between two
pub data Bounds : Type 0 where
  bound_alone : Bound → Bounds
  bound_more : Bounds → ℕ → Bound → Bounds

-- the tokens in front of others
abbrev pub bound_text : Bound → List Placed → List Placed
bound_text (plain_bound at value) rest = (at, digits value) ∷ rest
bound_text (minus_bound minus_at at value) rest = (minus_at, minus) ∷ (at, digits value) ∷ rest

-- the tokens in front of others
abbrev pub bounds_text : Bounds → List Placed → List Placed
bounds_text (bound_alone b) rest = bound_text b rest
bounds_text (bound_more bs at b) rest = bounds_text bs ((at, comma) ∷ bound_text b rest)

-- the number that a bound is
abbrev pub bound_value : Bound → ℤ
bound_value (plain_bound at value) = pos value
bound_value (minus_bound minus_at at value) = neg_ℤ (pos value)

-- the numbers of the bounds, in their order
abbrev pub bounds_values : Bounds → List ℤ
bounds_values (bound_alone b) = bound_value b ∷ []
bounds_values (bound_more bs at b) = bounds_values bs ++ bound_value b ∷ []

-- how many they are
abbrev pub count : Bounds → ℕ
count (bound_alone b) = 1
count (bound_more bs at b) = count bs + 1
