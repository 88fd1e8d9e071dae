-- The value of a tree that is a polynomial: that of the polynomial, to the power.
use Rattle.std.proofs.Common.{◌≡◌, ap, sym, ◌∙◌, true, false, Some}
use Rattle.std.proofs.lemmas.Option.{same_Some, none-some}
use Rattle.std.specs.Prelude.{ℤ, pos, ◌*ℤ◌}
use Rattle.ring_laws.specs.Meaning.{Meaning}
use Rattle.poly_laws.specs.TwoVariables.{in_n_and_k, poly_n, poly_k}
use Rattle.hypergeometric.specs.Point.{Point}
use Rattle.hypergeometric.specs.Fraction.{of_whole, whole_power}
use Rattle.hypergeometric.specs.ProperTerm.{poly_value}
use Rattle.hypergeometric.proofs.PlainTerms.{whole_power_of_one}
use Rattle.hypergeometric.proofs.SameValues.{◌≅◌, same, same_chain, same_products, same_sums, same_whole_powers}
use Rattle.hypergeometric.proofs.FractionPowers.{whole_power_of_product}
use Rattle.grammar.specs.Tree.{Tree, tree, Node, literal, variable_n, variable_k, sum_of, product_of, power_of, factorial_of, binomial_of, Parts, no_parts, part}
use Rattle.term_classes.specs.TreePolynomial.{signed_poly, tree_polynomial, node_polynomial, sum_polynomial, product_polynomial, constant_exponent}
use Rattle.term_classes.specs.TreeValue.{tree_value, sum_value, product_value, signed_value, at_whole, defined_power}
use Rattle.term_classes.proofs.PolynomialParts.{keeps, whole_sum, variable_n_value, variable_k_value, IsPower, NodeIsPower, from_combined, signed_has, turned_has, raised_has}

mutual
  pub tree_has : (t : Tree) (poly : Meaning) → tree_polynomial t ≡ Some poly → IsPower poly t
  tree_has (tree at node) poly e = node_has node poly e

  pub node_has : (node : Node) (poly : Meaning) → node_polynomial node ≡ Some poly → NodeIsPower poly node
  node_has (literal c) poly e w p =
      same (ap (λ z. whole_power (of_whole z) w) (sym ((keeps p).whole c))
      ∙ ap (λ q. whole_power (of_whole (poly_value q p)) w) (same_Some (in_n_and_k.whole c) poly e))
  node_has variable_n poly e w p =
      same (ap (λ z. whole_power (of_whole z) w) (sym (variable_n_value p))
      ∙ ap (λ q. whole_power (of_whole (poly_value q p)) w) (same_Some poly_n poly e))
  node_has variable_k poly e w p =
      same (ap (λ z. whole_power (of_whole z) w) (sym (variable_k_value p))
      ∙ ap (λ q. whole_power (of_whole (poly_value q p)) w) (same_Some poly_k poly e))
  node_has (sum_of no_parts) poly e w p = same_whole_powers w (sum_has no_parts poly e p)
  node_has (sum_of (part false t parts)) poly e w p = same_whole_powers w (sum_has (part false t parts) poly e p)
  node_has (sum_of (part true t no_parts)) poly e w p = turned_has (tree_polynomial t) t poly e (tree_has t) w p
  node_has (sum_of (part true t (part turned s parts))) poly e w p = same_whole_powers w (sum_has (part true t (part turned s parts)) poly e p)
  node_has (product_of parts) poly e w p = product_has parts poly e w p
  node_has (power_of base exponent) poly e w p =
      raised_has base (tree_polynomial base) (constant_exponent exponent) poly e (tree_has base) w p
      (at_whole (λ e. defined_power (tree_value base (pos 1) p) (w *ℤ e)) (tree_value exponent (pos 1) p))
  node_has (factorial_of t) poly e w p = absurd (none-some poly e)
  node_has (binomial_of l m) poly e w p = absurd (none-some poly e)

  pub sum_has : (parts : Parts) (poly : Meaning) → sum_polynomial parts ≡ Some poly → (p : Point) → sum_value parts p ≅ of_whole (poly_value poly p)
  sum_has no_parts poly e p = same (ap (λ q. of_whole (poly_value q p)) (same_Some in_n_and_k.nought poly e))
  sum_has (part turned t parts) poly e p =
      from_combined (λ x. signed_value turned (tree_value t (pos 1) p) ≅ of_whole (poly_value x p))
      (λ y. sum_value parts p ≅ of_whole (poly_value y p))
      (λ poly. sum_value (part turned t parts) p ≅ of_whole (poly_value poly p)) in_n_and_k.sum (signed_poly turned (tree_polynomial t))
      (sum_polynomial parts) poly e
      (λ x f. signed_has turned (tree_polynomial t) t x f (tree_has t) p) (λ y f. sum_has parts y f p)
      (λ x y f g. same_chain (same_sums f g) (same (whole_sum p (poly_value x p) (poly_value y p) ∙ ap of_whole (sym ((keeps p).sum x y)))))

  pub product_has : (parts : Parts) (poly : Meaning) → product_polynomial parts ≡ Some poly → (w : ℤ) (p : Point) → product_value parts w p
      ≅ whole_power (of_whole (poly_value poly p)) w
  product_has no_parts poly e w p =
      same (sym (whole_power_of_one w) ∙ ap (λ z. whole_power (of_whole z) w) (sym (keeps p).unit)
      ∙ ap (λ q. whole_power (of_whole (poly_value q p)) w) (same_Some in_n_and_k.unit poly e))
  product_has (part true t parts) poly e w p = absurd (none-some poly e)
  product_has (part false t parts) poly e w p =
      from_combined (λ x. tree_value t w p ≅ whole_power (of_whole (poly_value x p)) w)
      (λ y. product_value parts w p ≅ whole_power (of_whole (poly_value y p)) w)
      (λ poly. product_value (part false t parts) w p ≅ whole_power (of_whole (poly_value poly p)) w) in_n_and_k.product (tree_polynomial t)
      (product_polynomial parts) poly e
      (λ x f. tree_has t x f w p) (λ y f. product_has parts y f w p)
      (λ x y f g. same_chain (same_products f g) (same (sym (whole_power_of_product (of_whole (poly_value x p)) (of_whole (poly_value y p)) w)
      ∙ ap (λ z. whole_power (of_whole z) w) (sym ((keeps p).product x y)))))
