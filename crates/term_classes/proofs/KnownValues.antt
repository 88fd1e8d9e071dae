-- Values of trees that are known, so that a wrong rule of TreeValue or TreePolynomial does not check.
use Rattle.std.proofs.Common.{◌≡◌, ℕ, refl, Bool, true, false, Some, None}
use Rattle.std.specs.Prelude.{pos, negsuc}
use Rattle.hypergeometric.specs.Point.{point}
use Rattle.grammar.specs.Tree.{Tree, tree, Node, literal, variable_n, variable_k, sum_of, product_of, power_of, factorial_of, binomial_of, Parts, no_parts, part}
use Rattle.term_classes.specs.TreePolynomial.{constant_exponent}
use Rattle.term_classes.specs.TreeValue.{tree_value, term_value}

-- a node at some place
abbrev at : Node → Tree
at node = tree 0 node

abbrev lit : ℕ → Tree
lit c = at (literal (pos c))

abbrev two_parts : Bool → Tree → Tree → Parts
two_parts turned s t = part false s (part turned t no_parts)

abbrev binomial_n_k : Tree
binomial_n_k = at (binomial_of (at variable_n) (at variable_k))

-- binomial(4,2) is 4!/(2! 2!), not brought to lowest terms
chosen : term_value binomial_n_k (point (pos 4) (pos 2)) ≡ record { top = pos 24; bottom = pos 4 }
chosen = refl

-- binomial(4,5) is 0, since 1/(-1)! is
none_chosen : (term_value binomial_n_k (point (pos 4) (pos 5))).top ≡ pos 0
none_chosen = refl

-- binomial(-1,0) is not defined
not_chosen : (term_value binomial_n_k (point (negsuc 0) (pos 0))).bottom ≡ pos 0
not_chosen = refl

-- a factorial below 0 is not defined, its inverse is 0
factorial_below : (term_value (at (factorial_of (at variable_k))) (point (pos 0) (negsuc 0))).bottom ≡ pos 0
factorial_below = refl

inverse_below : tree_value (at (factorial_of (at variable_k))) (negsuc 0) (point (pos 0) (negsuc 0)) ≡ record { top = pos 0; bottom = pos 1 }
inverse_below = refl

-- 1/k at k = 0 is not defined; 1/(1/k) is k
over_zero : (term_value (at (product_of (two_parts true (lit 1) (at variable_k)))) (point (pos 0) (pos 0))).bottom ≡ pos 0
over_zero = refl

over_over : tree_value (at (product_of (two_parts true (lit 1) (at variable_k)))) (negsuc 0) (point (pos 0) (pos 5)) ≡ record { top = pos 5; bottom = pos 1 }
over_over = refl

-- (n-k)^(2-1) at (7,3); the exponent is the constant 1
abbrev exponent : Tree
exponent = at (sum_of (two_parts true (lit 2) (lit 1)))

constant_one : constant_exponent exponent ≡ Some (pos 1)
constant_one = refl

difference_to_one : term_value (at (power_of (at (sum_of (two_parts true (at variable_n) (at variable_k)))) exponent)) (point (pos 7) (pos 3)) ≡ record { top = pos 4; bottom = pos 1 }
difference_to_one = refl

-- 4/2 is no polynomial, and so no constant exponent; yet 3^(4/2) is 9
abbrev half_of_four : Tree
half_of_four = at (product_of (two_parts true (lit 4) (lit 2)))

not_constant : constant_exponent half_of_four ≡ None
not_constant = refl

power_of_quotient : (term_value (at (power_of (lit 3) half_of_four)) (point (pos 0) (pos 0))).top ≡ pos 9
power_of_quotient = refl

-- 2^k at k = -3 is 1/8, and 0^0 is 1
power_below : term_value (at (power_of (lit 2) (at variable_k))) (point (pos 0) (negsuc 2)) ≡ record { top = pos 1; bottom = pos 8 }
power_below = refl

zero_to_zero : term_value (at (power_of (lit 0) (lit 0))) (point (pos 0) (pos 0)) ≡ record { top = pos 1; bottom = pos 1 }
zero_to_zero = refl

-- 1/k isn't defined at k = 0, and so (1/k)^k isn't, though its exponent has the value 0; but (1/k)^0 is 1, since its exponent is a constant
abbrev one_over_k : Tree
one_over_k = at (product_of (two_parts true (lit 1) (at variable_k)))

undefined_base : (term_value (at (power_of one_over_k (at variable_k))) (point (pos 0) (pos 0))).bottom ≡ pos 0
undefined_base = refl

constant_power_of_undefined : term_value (at (power_of one_over_k (lit 0))) (point (pos 0) (pos 0)) ≡ record { top = pos 1; bottom = pos 1 }
constant_power_of_undefined = refl
