-- The constant that is found for a tree is in lowest terms.
use Rattle.std.proofs.Common.{◌≡◌, ℕ, refl, ap, sym, ◌∙◌, true, false, List, Option, Some, None, arith, subst}
use Rattle.std.proofs.lemmas.Int.{ints}
use Rattle.std.proofs.lemmas.Nat.Gcd.{dvd_antisymm}
use Rattle.std.proofs.lemmas.Option.{same_Some, none-some}
use Rattle.std.proofs.Math.Nat.{one-dvd, div-le_self}
use Rattle.std.specs.Int.{◌∣◌}
use Rattle.std.specs.Prelude.{ℤ, pos, negsuc, unsigned_abs, Ok}
use Rattle.ring_laws.specs.WholeDomain.{abs_nought}
use Rattle.ring_laws.specs.Meaning.{Meaning, items}
use Rattle.ring_laws.proofs.Quotients.{abs_div}
use Rattle.poly_laws.specs.TwoVariables.{constant_in_k}
use Rattle.steps.specs.Found.{where_some}
use Rattle.steps.specs.Operations.{of_fraction}
use Rattle.steps.specs.Steps.{gives, within_limit, ◌then◌}
use Rattle.steps.specs.TermFaults.{TermSteps}
use Rattle.steps.specs.declared.limits.LimitName.TheVariants.{Exponent}
use Rattle.steps.proofs.StepLaws.{then_gave, same_Ok}
use Rattle.hypergeometric.specs.Fraction.{Fraction, IsDefined, of_whole, fraction_negative}
use Rattle.hypergeometric.specs.Divisors.{negated_where, lowest_terms, raised_fraction, size_of_top, size_of_bottom}
use Rattle.hypergeometric.specs.PrimitiveForm.{is_zero}
use Rattle.hypergeometric.proofs.LowestTerms.{divisor_of, has_negative_bottom, negated_size}
use Rattle.hypergeometric.proofs.ReducedFractions.{HasLowestTerms, lowest_has_terms}
use Rattle.grammar.specs.Tree.{Tree, tree, Node, literal, variable_n, variable_k, sum_of, product_of, power_of, factorial_of, binomial_of, no_parts, part}
use Rattle.term_classes.specs.TreePolynomial.{constant_of}
use Rattle.term_classes.specs.Finding.{FractionFactor, divides_by_zero, product_of_fractions, product_made, power_made, fraction_of_whole, negative_of, top_sizes, bottom_sizes, find_polynomial, find_node_polynomial, find_constant, find_node_constant, find_constants}
use Rattle.term_classes.proofs.ConstantValues.{constant_has}
use Rattle.term_classes.proofs.ConstantPowers.{unless_given}

whole_terms : (z : ℤ) → HasLowestTerms (of_whole z)
whole_terms z = record { positive = omega (arith, ints); coprime = λ d p q. dvd_antisymm q (one-dvd d) }

negative_terms : (f : Fraction) → HasLowestTerms f → HasLowestTerms (fraction_negative f)
negative_terms f h = record { positive = h.positive; coprime = λ d p q. h.coprime d (subst (λ m. d ∣ m) (negated_size true f.top) p) q }

-- lowest terms of what is not defined are not defined
lowest_not_defined : (f : Fraction) → f.bottom ≡ pos 0 → (lowest_terms f).bottom ≡ pos 0
lowest_not_defined f z = abs_nought (lowest_terms f).bottom (omega (
  arith,
  abs_div (negated_where (has_negative_bottom f) f.bottom) (pos (divisor_of f)),
  div-le_self (unsigned_abs (negated_where (has_negative_bottom f) f.bottom)) (divisor_of f),
  negated_size (has_negative_bottom f) f.bottom,
  ap unsigned_abs z,
))

-- f is some fraction in lowest terms
record IsLowered (f : Fraction) : Type 0 where
  pub from : Fraction
  pub is : lowest_terms from ≡ f

lowered_terms : (f : Fraction) → IsLowered f → IsDefined f → HasLowestTerms f
lowered_terms f l d = subst HasLowestTerms l.is (lowest_has_terms l.from (λ z. d (ap (λ x. x.bottom) (sym l.is) ∙ lowest_not_defined l.from z)))

product_lowered : (at : ℕ) (a : Option (List FractionFactor)) (f : Fraction) → (product_made at a).outcome ≡ Ok (Some f) → IsLowered f
product_lowered at None f e = absurd (none-some f (same_Ok None (Some f) e))
product_lowered at (Some fs) f e = record {
  from = product_of_fractions fs;
  is = (unless_given (divides_by_zero fs) (of_fraction (top_sizes fs) (bottom_sizes fs)) at (lowest_terms (product_of_fractions fs)) f e).1;
}

power_lowered : (at : ℕ) (c : ℤ) (g f : Fraction) → (power_made at c g).outcome ≡ Ok (Some f) → IsLowered f
power_lowered at (pos c) g f e = record {
  from = raised_fraction g (pos c);
  is = same_Some (lowest_terms (raised_fraction g (pos c))) f (same_Ok (Some (lowest_terms (raised_fraction g (pos c)))) (Some f) e);
}
power_lowered at (negsuc c) g f e = record {
  from = raised_fraction g (negsuc c);
  is = (unless_given (is_zero g.top) (of_fraction (size_of_top (raised_fraction g (negsuc c))) (size_of_bottom (raised_fraction g (negsuc c)))) at
      (lowest_terms (raised_fraction g (negsuc c))) f e).1;
}

some_power_lowered : (at : ℕ) (c : ℤ) (a : Option Fraction) (f : Fraction) → (where_some a (power_made at c)).outcome ≡ Ok (Some f) → IsLowered f
some_power_lowered at c None f e = absurd (none-some f (same_Ok None (Some f) e))
some_power_lowered at c (Some g) f e = power_lowered at c g f e

exponent_lowered : (at : ℕ) (base : Tree) (c : Option ℤ) (f : Fraction)
    → (where_some c (λ c. within_limit Exponent (unsigned_abs c) c then (λ c1.
    find_constant base then (λ f. where_some f (power_made at c))))).outcome ≡ Ok (Some f) → IsLowered f
exponent_lowered at base None f e = absurd (none-some f (same_Ok None (Some f) e))
exponent_lowered at base (Some c) f e =
    let g = then_gave (within_limit Exponent (unsigned_abs c) c) (λ c1. find_constant base then (λ f. where_some f (power_made at c)))
    (Some f) e in
    let b = then_gave (find_constant base) (λ f. where_some f (power_made at c)) (Some f) g.second in
    some_power_lowered at c b.value f b.second

whole_given_terms : (c : Option ℤ) (f : Fraction) → fraction_of_whole c ≡ Some f → HasLowestTerms f
whole_given_terms None f e = absurd (none-some f e)
whole_given_terms (Some z) f e = subst HasLowestTerms (same_Some (of_whole z) f e) (whole_terms z)

negated_terms : (a : Option Fraction) (f : Fraction) → negative_of a ≡ Some f → ((g : Fraction) → a ≡ Some g → HasLowestTerms g) → HasLowestTerms f
negated_terms None f e h = absurd (none-some f e)
negated_terms (Some g) f e h = subst HasLowestTerms (same_Some (fraction_negative g) f e) (negative_terms g (h g refl))

polynomial_or : (at : ℕ) (node : Node) (p : Option Meaning) (f : Fraction)
    → (elim p as (λ _. TermSteps (Option Fraction)) [
      | Some q ↦ gives (fraction_of_whole (constant_in_k (items q)))
      | None ↦ find_node_constant at node
    ]).outcome ≡ Ok (Some f)
    → ((find_node_constant at node).outcome ≡ Ok (Some f) → HasLowestTerms f) → HasLowestTerms f
polynomial_or at node None f e h = h e
polynomial_or at node (Some q) f e h = whole_given_terms (constant_in_k (items q)) f (same_Ok (fraction_of_whole (constant_in_k (items q))) (Some f) e)

mutual
  -- the constant of a tree is in lowest terms
  pub constant_terms : (t : Tree) (f : Fraction) → (find_constant t).outcome ≡ Ok (Some f) → HasLowestTerms f
  constant_terms (tree at node) f e =
      let g = then_gave (find_node_polynomial at node) (λ p. elim p as (λ _. TermSteps (Option Fraction)) [
        | Some q ↦ gives (fraction_of_whole (constant_in_k (items q)))
        | None ↦ find_node_constant at node
      ]) (Some f) e in
      polynomial_or at node g.value f g.second (node_terms at node f (constant_has (tree at node) f e).defined)

  node_terms : (at : ℕ) (node : Node) (f : Fraction) → IsDefined f → (find_node_constant at node).outcome ≡ Ok (Some f) → HasLowestTerms f
  node_terms at (literal c) f d e = absurd (none-some f (same_Ok None (Some f) e))
  node_terms at variable_n f d e = absurd (none-some f (same_Ok None (Some f) e))
  node_terms at variable_k f d e = absurd (none-some f (same_Ok None (Some f) e))
  node_terms at (sum_of no_parts) f d e = absurd (none-some f (same_Ok None (Some f) e))
  node_terms at (sum_of (part false t parts)) f d e = absurd (none-some f (same_Ok None (Some f) e))
  node_terms at (sum_of (part true t (part turned s parts))) f d e = absurd (none-some f (same_Ok None (Some f) e))
  node_terms at (sum_of (part true t no_parts)) f d e =
      let g = then_gave (find_constant t) (λ f. gives (negative_of f)) (Some f) e in
      negated_terms g.value f (same_Ok (negative_of g.value) (Some f) g.second)
      (λ h q. constant_terms t h (subst (λ v. (find_constant t).outcome ≡ Ok v) q g.first))
  node_terms at (product_of parts) f d e =
      let g = then_gave (find_constants parts) (product_made at) (Some f) e in
      lowered_terms f (product_lowered at g.value f g.second) d
  node_terms at (power_of base e) f d h =
      let g = then_gave (find_polynomial e) (λ p. where_some (constant_of p) (λ c. within_limit Exponent (unsigned_abs c) c then (λ c1.
      find_constant base then (λ f. where_some f (power_made at c))))) (Some f) h in
      lowered_terms f (exponent_lowered at base (constant_of g.value) f g.second) d
  node_terms at (factorial_of t) f d e = absurd (none-some f (same_Ok None (Some f) e))
  node_terms at (binomial_of l m) f d e = absurd (none-some f (same_Ok None (Some f) e))
