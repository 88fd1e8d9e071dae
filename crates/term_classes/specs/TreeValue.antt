-- The value of a tree at a point, to a whole power w other than 0, by cases on its nodes. Places play no part in it.
use Rattle.std.specs.Prelude.{suc, Bool, true, false, if◌then◌else◌, ℤ, pos, negsuc, ◌*ℤ◌, neg_ℤ, unsigned_abs, Option, Some, None, nat_eq}
use Rattle.std.specs.Int.RustNames.{int_div, int_rem}
use Rattle.hypergeometric.specs.Point.{Point}
use Rattle.hypergeometric.specs.Fraction.{Fraction, of_whole, undefined_value, fraction_sum, fraction_negative, fraction_difference, fraction_product, whole_power, natural_power}
use Rattle.hypergeometric.specs.LinearForm.{factorial_value, inverse_factorial_value}
use Rattle.grammar.specs.Tree.{Tree, tree, Node, literal, variable_n, variable_k, sum_of, product_of, power_of, factorial_of, binomial_of, Parts, no_parts, part}
use Rattle.term_classes.specs.TreePolynomial.{constant_exponent}

-- the whole number that a fraction is, where it is one
abbrev pub whole_number_of : Fraction → Option ℤ
whole_number_of f =
    if nat_eq (unsigned_abs f.bottom) 0 then None
    else if nat_eq (unsigned_abs (int_rem f.top f.bottom)) 0 then Some (int_div f.top f.bottom) else None

-- g of the whole number that a fraction is, and not defined where it is none
abbrev pub at_whole : (ℤ → Fraction) → Fraction → Fraction
at_whole g f = elim (whole_number_of f) as (λ _. Fraction) [ Some z ↦ g z | None ↦ undefined_value ]

-- f to a whole power, where f is defined: what isn't has no power, not even the power 0
abbrev pub defined_power : Fraction → ℤ → Fraction
defined_power f w = if nat_eq (unsigned_abs f.bottom) 0 then undefined_value else whole_power f w

-- (m!)^w, as a power of 1/m! where w is negative
abbrev pub factorial_power : ℤ → ℤ → Fraction
factorial_power (pos w) m = natural_power (factorial_value m) w
factorial_power (negsuc w) m = natural_power (inverse_factorial_value m) (suc w)

-- the value of a part of a sum, negated where the part is subtracted
abbrev pub signed_value : Bool → Fraction → Fraction
signed_value true f = fraction_negative f
signed_value false f = f

-- a part that is divided by stands to the opposite power
abbrev pub part_power : Bool → ℤ → ℤ
part_power true w = neg_ℤ w
part_power false w = w

abbrev mutual
  pub tree_value : Tree → ℤ → Point → Fraction
  tree_value (tree at node) w p = node_value node w p

  pub node_value : Node → ℤ → Point → Fraction
  node_value (literal c) w p = whole_power (of_whole c) w
  node_value variable_n w p = whole_power (of_whole p.n) w
  node_value variable_k w p = whole_power (of_whole p.k) w
  node_value (sum_of (part true t no_parts)) w p = fraction_product (whole_power (of_whole (negsuc 0)) w) (tree_value t w p)
  node_value (sum_of parts) w p = whole_power (sum_value parts p) w
  node_value (product_of parts) w p = product_value parts w p
  node_value (power_of base exponent) w p = elim (constant_exponent exponent) as (λ _. Fraction) [
    | Some c ↦ if nat_eq (unsigned_abs c) 0 then of_whole (pos 1) else tree_value base (w *ℤ c) p
    | None ↦ at_whole (λ e. defined_power (tree_value base (pos 1) p) (w *ℤ e)) (tree_value exponent (pos 1) p)
  ]
  node_value (factorial_of t) w p = at_whole (factorial_power w) (tree_value t (pos 1) p)
  node_value (binomial_of l m) w p =
      fraction_product (at_whole (factorial_power w) (tree_value l (pos 1) p))
      (fraction_product (at_whole (factorial_power (neg_ℤ w)) (tree_value m (pos 1) p))
      (at_whole (factorial_power (neg_ℤ w)) (fraction_difference (tree_value l (pos 1) p) (tree_value m (pos 1) p))))

  pub sum_value : Parts → Point → Fraction
  sum_value no_parts p = of_whole (pos 0)
  sum_value (part turned t parts) p = fraction_sum (signed_value turned (tree_value t (pos 1) p)) (sum_value parts p)

  pub product_value : Parts → ℤ → Point → Fraction
  product_value no_parts w p = of_whole (pos 1)
  product_value (part turned t parts) w p = fraction_product (tree_value t (part_power turned w) p) (product_value parts w p)

-- the term that a tree stands for
abbrev pub term_value : Tree → Point → Fraction
term_value t p = tree_value t (pos 1) p
