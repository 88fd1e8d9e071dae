-- Trees of terms, each node with its place in the text. Parentheses leave no node.
use Rattle.std.specs.Prelude.{ℕ, Bool, ℤ}

mutual
  pub data Tree : Type 0 where
    tree : ℕ → Node → Tree

  pub data Node : Type 0 where
    literal : ℤ → Node
    variable_n : Node
    variable_k : Node
    sum_of : Parts → Node
    product_of : Parts → Node
    power_of : Tree → Tree → Node
    factorial_of : Tree → Node
    binomial_of : Tree → Tree → Node

  -- each part with whether it is turned: subtracted in a sum, divided by in a product
  pub data Parts : Type 0 where
    no_parts : Parts
    part : Bool → Tree → Parts → Parts
