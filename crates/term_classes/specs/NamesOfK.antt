-- Where the name k stands in a tree.
use Rattle.std.specs.Prelude.{ℕ, ◌≤◌, List, [], ◌∷◌, ◌++◌, All, min, Option, Some, None}
use Rattle.std.specs.List.{Contains}
use Rattle.grammar.specs.Tree.{Tree, tree, Node, literal, variable_n, variable_k, sum_of, product_of, power_of, factorial_of, binomial_of, Parts, no_parts, part}

-- the places of the names k
abbrev mutual
  pub k_places : Tree → List ℕ
  k_places (tree at node) = node_k_places at node

  pub node_k_places : ℕ → Node → List ℕ
  node_k_places at (literal c) = []
  node_k_places at variable_n = []
  node_k_places at variable_k = at ∷ []
  node_k_places at (sum_of parts) = parts_k_places parts
  node_k_places at (product_of parts) = parts_k_places parts
  node_k_places at (power_of base exponent) = k_places base ++ k_places exponent
  node_k_places at (factorial_of t) = k_places t
  node_k_places at (binomial_of upper lower) = k_places upper ++ k_places lower

  pub parts_k_places : Parts → List ℕ
  parts_k_places no_parts = []
  parts_k_places (part turned t parts) = k_places t ++ parts_k_places parts

-- the number stands in the list, and none in it is less
abbrev pub IsLeast : ℕ → List ℕ → Type 0
IsLeast at places = Contains places at × All (λ place. at ≤ place) places

-- the lesser of two places, where there are any
abbrev pub least_place : Option ℕ → Option ℕ → Option ℕ
least_place None b = b
least_place (Some a) None = Some a
least_place (Some a) (Some b) = Some (min a b)

-- the least of a list, where it has any
abbrev pub least_of : List ℕ → Option ℕ
least_of [] = None
least_of (x ∷ xs) = least_place (Some x) (least_of xs)

-- the least place of a name k
abbrev pub place_of_k : Tree → Option ℕ
place_of_k t = least_of (k_places t)
