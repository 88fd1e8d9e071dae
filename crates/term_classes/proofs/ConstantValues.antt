-- The value of a tree for which a constant is found: the constant, to every whole power.
use Rattle.std.proofs.Common.{◌≡◌, ℕ, ap, sym, List, [], true, false, Option, Some, None, subst}
use Rattle.std.proofs.lemmas.Option.{same_Some, none-some}
use Rattle.std.specs.Prelude.{ℤ, pos, ◌*ℤ◌, unsigned_abs, Ok}
use Rattle.ring_laws.specs.Meaning.{items}
use Rattle.poly_laws.specs.TwoVariables.{constant_in_k}
use Rattle.steps.specs.Found.{where_some, in_front}
use Rattle.steps.specs.Steps.{gives, within_limit, ◌then◌}
use Rattle.steps.specs.TermFaults.{TermSteps}
use Rattle.steps.specs.declared.limits.LimitName.TheVariants.{Exponent}
use Rattle.steps.proofs.StepLaws.{then_gave, same_Ok}
use Rattle.hypergeometric.specs.Point.{Point}
use Rattle.hypergeometric.specs.Fraction.{Fraction, whole_power}
use Rattle.hypergeometric.proofs.FractionLaws.{one_not_zero}
use Rattle.hypergeometric.proofs.PlainTerms.{whole_power_of_one}
use Rattle.hypergeometric.proofs.SameValues.{same}
use Rattle.grammar.specs.Tree.{Tree, tree, Node, literal, variable_n, variable_k, sum_of, product_of, power_of, factorial_of, binomial_of, Parts, no_parts, part}
use Rattle.term_classes.specs.TreePolynomial.{constant_of}
use Rattle.term_classes.specs.TreeValue.{tree_value, node_value, product_value, at_whole, defined_power}
use Rattle.term_classes.specs.Finding.{FractionFactor, divides_by_zero, product_of_fractions, product_made, power_made, fraction_of_whole, negative_of, find_polynomial, find_node_polynomial, find_constant, find_node_constant, find_constants}
use Rattle.term_classes.proofs.PolynomialParts.{power_value}
use Rattle.term_classes.proofs.FindingPolynomials.{finding_is, find_node_is}
use Rattle.term_classes.proofs.ConstantPowers.{IsConstant, negated_constant}
use Rattle.term_classes.proofs.ConstantProducts.{one_factor_has, product_found, power_found, constant_or}

mutual
  pub constant_has : (t : Tree) (f : Fraction) → (find_constant t).outcome ≡ Ok (Some f) → IsConstant f (tree_value t)
  constant_has (tree at node) f e =
      let g = then_gave (find_node_polynomial at node) (λ given. elim given as (λ _. TermSteps (Option Fraction)) [
        | Some q ↦ gives (fraction_of_whole (constant_in_k (items q)))
        | None ↦ find_node_constant at node
      ]) (Some f) e in
      constant_or at node g.value f (find_node_is at node g.value g.first) g.second (node_constant_has at node f)

  node_constant_has : (at : ℕ) (node : Node) (f : Fraction) → (find_node_constant at node).outcome ≡ Ok (Some f) → IsConstant f (node_value node)
  node_constant_has at (literal c) f e = absurd (none-some f (same_Ok None (Some f) e))
  node_constant_has at variable_n f e = absurd (none-some f (same_Ok None (Some f) e))
  node_constant_has at variable_k f e = absurd (none-some f (same_Ok None (Some f) e))
  node_constant_has at (sum_of no_parts) f e = absurd (none-some f (same_Ok None (Some f) e))
  node_constant_has at (sum_of (part false t parts)) f e = absurd (none-some f (same_Ok None (Some f) e))
  node_constant_has at (sum_of (part true t (part turned s parts))) f e = absurd (none-some f (same_Ok None (Some f) e))
  node_constant_has at (sum_of (part true t no_parts)) f e =
      let g = then_gave (find_constant t) (λ f. gives (negative_of f)) (Some f) e in
      negated_constant t g.value f (same_Ok (negative_of g.value) (Some f) g.second)
      (λ h q. constant_has t h (subst (λ v. (find_constant t).outcome ≡ Ok v) q g.first))
  node_constant_has at (product_of parts) f e =
      let g = then_gave (find_constants parts) (product_made at) (Some f) e in
      product_found at parts g.value f g.first g.second (constants_have parts)
  node_constant_has at (power_of base e) f h =
      let g = then_gave (find_polynomial e) (λ given. where_some (constant_of given) (λ c. within_limit Exponent (unsigned_abs c) c then (λ c1.
      find_constant base then (λ f. where_some f (power_made at c))))) (Some f) h in
      let other : ℤ → Point → Fraction = λ w p. at_whole (λ z. defined_power (tree_value base (pos 1) p) (w *ℤ z)) (tree_value e (pos 1) p) in
      subst (λ c. IsConstant f (λ w p. power_value base c w p (other w p))) (sym (ap constant_of (finding_is e g.value g.first)))
      (power_found at base (constant_of g.value) f other g.second (constant_has base))
  node_constant_has at (factorial_of t) f e = absurd (none-some f (same_Ok None (Some f) e))
  node_constant_has at (binomial_of l m) f e = absurd (none-some f (same_Ok None (Some f) e))

  constants_have : (parts : Parts) (fs : List FractionFactor) → (find_constants parts).outcome ≡ Ok (Some fs) → divides_by_zero fs ≡ false
      → IsConstant (product_of_fractions fs) (product_value parts)
  constants_have no_parts fs e d = subst (λ fs. IsConstant (product_of_fractions fs) (product_value no_parts))
      (same_Some [] fs (same_Ok (Some []) (Some fs) e))
      (record { defined = one_not_zero; power = λ w p. same (sym (whole_power_of_one w)) })
  constants_have (part turned t parts) fs e d =
      let g = then_gave (find_constant t) (λ f. where_some f (λ f1. find_constants parts then (λ fs. gives (in_front (turned, f1) fs))))
      (Some fs) e in
      one_factor_has turned t g.value parts fs g.second d (λ f q. constant_has t f (subst (λ v. (find_constant t).outcome ≡ Ok v) q g.first))
      (constants_have parts)
