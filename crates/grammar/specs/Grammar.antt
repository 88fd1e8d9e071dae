-- The grammar, a constructor for each production, with the places of the tokens that it names:
--   sum     = product | "-" product | sum ( "+" | "-" ) product
--   product = power | product ( "*" | "/" ) power
--   power   = postfix | postfix "^" atom
--   postfix = atom | atom "!"
--   atom    = digits | "n" | "k" | "(" sum ")" | "binomial" "(" sum "," sum ")"
-- Of a text's two spellings `x_text s rest` is its tokens in front of `rest`.
use Rattle.std.specs.Prelude.{ℕ, Bool, true, false, pos, List, ◌∷◌}
use Rattle.grammar.specs.Token.{digits, name_n, name_k, name_binomial, minus, caret, bang, opening, closing, comma, Placed, sum_sign, product_sign}
use Rattle.grammar.specs.Tree.{Tree, tree, literal, variable_n, variable_k, sum_of, product_of, power_of, factorial_of, binomial_of, Parts, no_parts, part}

mutual
  pub data Sum : Type 0 where
    product_alone : Product → Sum
    minus_product : ℕ → Product → Sum
    product_more : Sum → Bool → ℕ → Product → Sum

  pub data Product : Type 0 where
    power_alone : Power → Product
    power_more : Product → Bool → ℕ → Power → Product

  pub data Power : Type 0 where
    postfix_alone : Postfix → Power
    raised : Postfix → ℕ → Atom → Power

  pub data Postfix : Type 0 where
    atom_alone : Atom → Postfix
    factorial_at : Atom → ℕ → Postfix

  pub data Atom : Type 0 where
    number : ℕ → ℕ → Atom
    the_n : ℕ → Atom
    the_k : ℕ → Atom
    bracket : ℕ → Sum → ℕ → Atom
    choose : ℕ → ℕ → Sum → ℕ → Sum → ℕ → Atom

abbrev mutual
  pub sum_text : Sum → List Placed → List Placed
  sum_text (product_alone p) rest = product_text p rest
  sum_text (minus_product at p) rest = (at, minus) ∷ product_text p rest
  sum_text (product_more s turned at p) rest = sum_text s ((at, sum_sign turned) ∷ product_text p rest)

  pub product_text : Product → List Placed → List Placed
  product_text (power_alone w) rest = power_text w rest
  product_text (power_more p turned at w) rest = product_text p ((at, product_sign turned) ∷ power_text w rest)

  pub power_text : Power → List Placed → List Placed
  power_text (postfix_alone q) rest = postfix_text q rest
  power_text (raised q at a) rest = postfix_text q ((at, caret) ∷ atom_text a rest)

  pub postfix_text : Postfix → List Placed → List Placed
  postfix_text (atom_alone a) rest = atom_text a rest
  postfix_text (factorial_at a at) rest = atom_text a ((at, bang) ∷ rest)

  pub atom_text : Atom → List Placed → List Placed
  atom_text (number at value) rest = (at, digits value) ∷ rest
  atom_text (the_n at) rest = (at, name_n) ∷ rest
  atom_text (the_k at) rest = (at, name_k) ∷ rest
  atom_text (bracket at s close) rest = (at, opening) ∷ sum_text s ((close, closing) ∷ rest)
  atom_text (choose at open_at upper comma_at lower close) rest =
      (at, name_binomial) ∷ (open_at, opening) ∷ sum_text upper ((comma_at, comma) ∷ sum_text lower ((close, closing) ∷ rest))

-- The trees. Parentheses leave no node.
abbrev pub with_last : Parts → Bool → Tree → Parts
with_last no_parts turned t = part turned t no_parts
with_last (part b u parts) turned t = part b u (with_last parts turned t)

-- the first sign of a sum, or the sign that follows where it has none
abbrev pub sum_place : Sum → ℕ → ℕ
sum_place (product_alone p) next = next
sum_place (minus_product at p) next = at
sum_place (product_more s turned at p) next = sum_place s at

-- the first sign of a product, or the sign that follows where it has none
abbrev pub product_place : Product → ℕ → ℕ
product_place (power_alone w) next = next
product_place (power_more p turned at w) next = product_place p at

abbrev mutual
  pub sum_tree : Sum → Tree
  sum_tree (product_alone p) = product_tree p
  sum_tree (minus_product at p) = tree at (sum_of (part true (product_tree p) no_parts))
  sum_tree (product_more s turned at p) = tree (sum_place s at) (sum_of (with_last (sum_parts s) turned (product_tree p)))

  pub sum_parts : Sum → Parts
  sum_parts (product_alone p) = part false (product_tree p) no_parts
  sum_parts (minus_product at p) = part true (product_tree p) no_parts
  sum_parts (product_more s turned at p) = with_last (sum_parts s) turned (product_tree p)

  pub product_tree : Product → Tree
  product_tree (power_alone w) = power_tree w
  product_tree (power_more p turned at w) = tree (product_place p at) (product_of (with_last (product_parts p) turned (power_tree w)))

  pub product_parts : Product → Parts
  product_parts (power_alone w) = part false (power_tree w) no_parts
  product_parts (power_more p turned at w) = with_last (product_parts p) turned (power_tree w)

  pub power_tree : Power → Tree
  power_tree (postfix_alone q) = postfix_tree q
  power_tree (raised q at a) = tree at (power_of (postfix_tree q) (atom_tree a))

  pub postfix_tree : Postfix → Tree
  postfix_tree (atom_alone a) = atom_tree a
  postfix_tree (factorial_at a at) = tree at (factorial_of (atom_tree a))

  pub atom_tree : Atom → Tree
  atom_tree (number at value) = tree at (literal (pos value))
  atom_tree (the_n at) = tree at variable_n
  atom_tree (the_k at) = tree at variable_k
  atom_tree (bracket at s close) = sum_tree s
  atom_tree (choose at open_at upper comma_at lower close) = tree at (binomial_of (sum_tree upper) (sum_tree lower))
