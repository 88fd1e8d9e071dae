-- Which trees are polynomials, and which are constant exponents: a literal, n, k, a sum of polynomials, a product of polynomials
-- without division, and a polynomial to a constant power from 0 to 12. A constant is told by the polynomial, not by how it is
-- written: `2-1` is the constant 1.
use Rattle.std.specs.Prelude.{Bool, true, false, if◌then◌else◌, nat_lt, ℤ, pos, negsuc, Option, Some, None}
use Rattle.ring_laws.specs.Meaning.{Meaning, items}
use Rattle.poly_laws.specs.TwoVariables.{in_n_and_k, poly_n, poly_k, poly_power, constant_in_k}
use Rattle.grammar.specs.Tree.{Tree, tree, Node, literal, variable_n, variable_k, sum_of, product_of, power_of, factorial_of, binomial_of, Parts, no_parts, part}

-- the number that a polynomial in n and k is, where there is a polynomial and it is one
abbrev pub constant_of : Option Meaning → Option ℤ
constant_of None = None
constant_of (Some p) = constant_in_k (items p)

-- an operation on two polynomials, where there are both
abbrev pub combined : (Meaning → Meaning → Meaning) → Option Meaning → Option Meaning → Option Meaning
combined op (Some p) (Some q) = Some (op p q)
combined op (Some p) None = None
combined op None q = None

-- the polynomial of a part of a sum, where it has one, negated where the part is subtracted
abbrev pub signed_poly : Bool → Option Meaning → Option Meaning
signed_poly turned None = None
signed_poly false (Some p) = Some p
signed_poly true (Some p) = Some (in_n_and_k.neg p)

-- the polynomial to a constant power from 0 to 12
abbrev pub raised : Option Meaning → Option ℤ → Option Meaning
raised (Some p) (Some (pos c)) = if nat_lt 12 c then None else Some (poly_power p c)
raised (Some p) (Some (negsuc c)) = None
raised (Some p) None = None
raised None c = None

abbrev mutual
  pub tree_polynomial : Tree → Option Meaning
  tree_polynomial (tree at node) = node_polynomial node

  pub node_polynomial : Node → Option Meaning
  node_polynomial (literal c) = Some (in_n_and_k.whole c)
  node_polynomial variable_n = Some poly_n
  node_polynomial variable_k = Some poly_k
  node_polynomial (sum_of parts) = sum_polynomial parts
  node_polynomial (product_of parts) = product_polynomial parts
  node_polynomial (power_of base exponent) = raised (tree_polynomial base) (constant_of (tree_polynomial exponent))
  node_polynomial (factorial_of t) = None
  node_polynomial (binomial_of l m) = None

  pub sum_polynomial : Parts → Option Meaning
  sum_polynomial no_parts = Some in_n_and_k.nought
  sum_polynomial (part turned t parts) = combined in_n_and_k.sum (signed_poly turned (tree_polynomial t)) (sum_polynomial parts)

  pub product_polynomial : Parts → Option Meaning
  product_polynomial no_parts = Some in_n_and_k.unit
  product_polynomial (part true t parts) = None
  product_polynomial (part false t parts) = combined in_n_and_k.product (tree_polynomial t) (product_polynomial parts)

-- the constant that an exponent is, where it is one
abbrev pub constant_exponent : Tree → Option ℤ
constant_exponent t = constant_of (tree_polynomial t)
