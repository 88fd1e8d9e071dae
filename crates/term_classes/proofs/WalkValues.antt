-- The walk over a tree multiplies the value of a term by that of the tree.
use Rattle.std.proofs.Common.{◌≡◌, ◌≢◌, ℕ, refl, ap, sym, ◌∙◌, Bool, true, false, Option, Some, None, arith, subst}
use Rattle.std.proofs.lemmas.Int.{ints}
use Rattle.std.specs.Prelude.{ℤ, pos, negsuc, ◌*ℤ◌, unsigned_abs, if◌then◌else◌, Ok}
use Rattle.ring_laws.specs.Meaning.{Meaning}
use Rattle.steps.specs.Steps.{gives, refuses, within_limit, ◌then◌}
use Rattle.steps.specs.TermFaults.{improper, TermSteps}
use Rattle.steps.specs.declared.limits.LimitName.TheVariants.{Exponent}
use Rattle.steps.proofs.StepLaws.{then_gave, same_Ok, not_refused}
use Rattle.hypergeometric.specs.Point.{Point}
use Rattle.hypergeometric.specs.Fraction.{Fraction, of_whole, fraction_product, whole_power}
use Rattle.hypergeometric.specs.LinearForm.{LinearForm, form_value}
use Rattle.hypergeometric.specs.ProperTerm.{ProperTerm, HasFractions}
use Rattle.hypergeometric.specs.Divisors.{lowest_terms, raised_fraction}
use Rattle.hypergeometric.specs.PrimitiveForm.{is_zero}
use Rattle.hypergeometric.proofs.FractionLaws.{one_not_zero}
use Rattle.hypergeometric.proofs.SameValues.{◌≅◌, same, same_chain, same_symmetric, same_defined, same_whole_powers}
use Rattle.hypergeometric.proofs.FractionPowers.{product_one}
use Rattle.grammar.specs.Tree.{Tree, tree, Node, literal, variable_n, variable_k, sum_of, product_of, power_of, factorial_of, binomial_of, Parts, no_parts, part}
use Rattle.term_classes.specs.TreePolynomial.{constant_of, tree_polynomial}
use Rattle.term_classes.specs.TreeValue.{tree_value, node_value, product_value, part_power, factorial_power, at_whole, defined_power}
use Rattle.term_classes.specs.Forms.{linear_form_of, limited_form, limited_exponent}
use Rattle.term_classes.specs.Finding.{find_polynomial, find_node_polynomial, find_constant}
use Rattle.term_classes.specs.Walk.{with_scale, place_of, times_found, form_or_refused, find_argument, not_negative, with_factorial, base_or_refused, times_exponential, walk, walk_node, walk_parts}
use Rattle.term_classes.proofs.PassingPolynomials.{node_belongs}
use Rattle.term_classes.proofs.PolynomialValues.{node_has}
use Rattle.term_classes.proofs.PolynomialParts.{power_value}
use Rattle.term_classes.proofs.FindingPolynomials.{finding_is, find_node_is}
use Rattle.term_classes.proofs.ConstantPowers.{not_zero}
use Rattle.term_classes.proofs.ConstantValues.{constant_has}
use Rattle.term_classes.proofs.TermProducts.{IsTimes, times_nothing, times_both, times_same}
use Rattle.term_classes.proofs.FieldProducts.{scale_times}
use Rattle.term_classes.proofs.WholeValues.{at_whole_value, defined_power_value}
use Rattle.term_classes.proofs.WalkRows.{factorial_row, finding_row}
use Rattle.term_classes.proofs.ArgumentRows.{form_found, argument_found, exponential_row, binomial_row, skipped}

-- what is shown of each tree
abbrev pub WalkMultiplies : Tree → Type 0
WalkMultiplies t = (w : ℤ) (s s' : ProperTerm) → HasFractions s → (walk t w s).outcome ≡ Ok s' → IsTimes s s' (tree_value t w)

-- a base that is a constant other than 0
pub record IsBase (b : Option Fraction) (f : Fraction) : Type 0 where
  pub found : b ≡ Some f
  pub top : f.top ≢ pos 0

pub base_found : (at : ℕ) (b : Option Fraction) (f : Fraction) → (base_or_refused at b).outcome ≡ Ok f → IsBase b f
base_found at None f e = absurd (not_refused (improper 4 at) f e)
base_found at (Some g) f e = by (is_zero g.top) refl e
  where
    by : (b : Bool) → is_zero g.top ≡ b → (if b then refuses {P = ℕ} (improper 4 at) else gives g).outcome ≡ Ok f → IsBase (Some g) f
    by true p q = absurd (not_refused (improper 4 at) f q)
    by false p q = record { found = ap Some (same_Ok g f q); top = subst (λ f. f.top ≢ pos 0) (same_Ok g f q) (not_zero g.top p) }

abbrev exponent_value : Tree → Tree → ℤ → Point → Fraction
exponent_value base e w p = at_whole (λ z. defined_power (tree_value base (pos 1) p) (w *ℤ z)) (tree_value e (pos 1) p)

-- an exponent that is no constant
abbrev pub exponential_walk : ℕ → Tree → Tree → Option LinearForm → ℤ → ProperTerm → TermSteps ProperTerm
exponential_walk at base e l w s = find_constant base then (λ b. base_or_refused at b then (λ b1. form_or_refused 5 e l then (λ l.
    limited_exponent l then (λ l1. times_exponential at b1 l w s))))

exponential_has : (at : ℕ) (base e : Tree) (poly : Option Meaning) (w : ℤ) (s s' : ProperTerm) → HasFractions s → tree_polynomial e ≡ poly
    → (exponential_walk at base e (linear_form_of poly) w s).outcome ≡ Ok s' → IsTimes s s' (exponent_value base e w)
exponential_has at base e poly w s s' h is given =
    let a = then_gave (find_constant base) (λ b. base_or_refused at b then (λ b1. form_or_refused 5 e (linear_form_of poly) then (λ l.
    limited_exponent l then (λ l1. times_exponential at b1 l w s)))) s' given in
    let b = then_gave (base_or_refused at a.value)
    (λ b1. form_or_refused 5 e (linear_form_of poly) then (λ l. limited_exponent l then (λ l1. times_exponential at b1 l w s))) s' a.second in
    let c = then_gave (form_or_refused 5 e (linear_form_of poly)) (λ l. limited_exponent l then (λ l1. times_exponential at b.value l w s))
    s' b.second in
    let d = skipped (limited_exponent c.value) (times_exponential at b.value c.value w s) s' c.second in
    let base_is = base_found at a.value b.value b.first in
    let constant = constant_has base b.value (a.first ∙ ap Ok base_is.found) in
    let form = form_found 5 e poly c.value is c.first in
    let base_value : (p : Point) → tree_value base (pos 1) p ≅ b.value = λ p. same_chain (constant.power (pos 1) p) (same (product_one b.value)) in
    times_same s s' (λ p. whole_power b.value (w *ℤ form_value c.value p)) (exponent_value base e w)
    (exponential_row at b.value c.value w s s' h (record { top = base_is.top; bottom = constant.defined }) d)
    (λ p. same_symmetric (same_chain
    (same (at_whole_value (λ z. defined_power (tree_value base (pos 1) p) (w *ℤ z)) (tree_value e (pos 1) p) (form_value c.value p) (form p)
    ∙ defined_power_value (tree_value base (pos 1) p) (w *ℤ form_value c.value p) ((same_defined (base_value p)).1 constant.defined)))
    (same_whole_powers (w *ℤ form_value c.value p) (base_value p))))

-- a constant exponent
constant_walk : (base : Tree) (c w : ℤ) (s s' : ProperTerm) → HasFractions s → WalkMultiplies base → (b : Bool)
    → (if b then gives s else walk base (w *ℤ c) s).outcome ≡ Ok s'
    → IsTimes s s' (λ p. if b then of_whole (pos 1) else tree_value base (w *ℤ c) p)
constant_walk base c w s s' h rest true e = subst (λ t. IsTimes s t (λ p. of_whole (pos 1))) (same_Ok s s' e) (times_nothing s h)
constant_walk base c w s s' h rest false e = rest (w *ℤ c) s s' h e

power_has : (at : ℕ) (base e : Tree) (poly : Option Meaning) (c : Option ℤ) (w : ℤ) (s s' : ProperTerm) → HasFractions s → tree_polynomial e ≡ poly
    → (elim c as (λ _. TermSteps ProperTerm) [
      | Some c ↦ within_limit Exponent (unsigned_abs (w *ℤ c)) c then (λ c1. if is_zero c then gives s else walk base (w *ℤ c) s)
      | None ↦ exponential_walk at base e (linear_form_of poly) w s
    ]).outcome ≡ Ok s' → WalkMultiplies base → IsTimes s s' (λ p. power_value base c w p (exponent_value base e w p))
power_has at base e poly None w s s' h is given rest = exponential_has at base e poly w s s' h is given
power_has at base e poly (Some c) w s s' h is given rest =
    constant_walk base c w s s' h rest (is_zero c)
    (skipped (within_limit Exponent (unsigned_abs (w *ℤ c)) c) (if is_zero c then gives s else walk base (w *ℤ c) s) s' given)

-- a literal, n, k or a sum
finding_has : (at : ℕ) (node : Node) (w : ℤ) (s s' : ProperTerm) → HasFractions s
    → (find_node_polynomial at node then (times_found at w s)).outcome ≡ Ok s'
    → IsTimes s s' (node_value node w)
finding_has at node w s s' h e =
    let g = then_gave (find_node_polynomial at node) (times_found at w s) s' e in
    finding_row at w s s' g.value (λ q f. node_belongs node q (find_node_is at node g.value g.first ∙ f)) h g.second (node_value node w)
    (λ q f p. node_has node q (find_node_is at node g.value g.first ∙ f) w p)

pub minus_one_not_zero : negsuc 0 ≢ pos 0
minus_one_not_zero e = omega (arith, ints, e)

mutual
  pub walk_multiplies : (t : Tree) → WalkMultiplies t
  walk_multiplies (tree at node) w s s' h e = node_multiplies at node w s s' h e

  node_multiplies : (at : ℕ) (node : Node) (w : ℤ) (s s' : ProperTerm) → HasFractions s → (walk_node at node w s).outcome ≡ Ok s'
      → IsTimes s s' (node_value node w)
  node_multiplies at (literal c) w s s' h e = finding_has at (literal c) w s s' h e
  node_multiplies at variable_n w s s' h e = finding_has at variable_n w s s' h e
  node_multiplies at variable_k w s s' h e = finding_has at variable_k w s s' h e
  node_multiplies at (sum_of no_parts) w s s' h e = finding_has at (sum_of no_parts) w s s' h e
  node_multiplies at (sum_of (part false t parts)) w s s' h e = finding_has at (sum_of (part false t parts)) w s s' h e
  node_multiplies at (sum_of (part true t (part turned u parts))) w s s' h e = finding_has at (sum_of (part true t (part turned u parts))) w s s' h e
  node_multiplies at (sum_of (part true t no_parts)) w s s' h e =
      let r : ProperTerm = with_scale (lowest_terms (fraction_product s.scale (raised_fraction (of_whole (negsuc 0)) w))) s in
      let own = scale_times s h (of_whole (negsuc 0)) w (record { top = minus_one_not_zero; bottom = one_not_zero }) in
      times_both s r s' (λ p. whole_power (of_whole (negsuc 0)) w) (tree_value t w) own (walk_multiplies t w r s' own.fractions e)
  node_multiplies at (product_of parts) w s s' h e = parts_multiply parts w s s' h e
  node_multiplies at (power_of base e) w s s' h given =
      let g = then_gave (find_polynomial e) (λ own. elim (constant_of own) as (λ _. TermSteps ProperTerm) [
        | Some c ↦ within_limit Exponent (unsigned_abs (w *ℤ c)) c then (λ c1. if is_zero c then gives s else walk base (w *ℤ c) s)
        | None ↦ exponential_walk at base e (linear_form_of own) w s
      ]) s' given in
      subst (λ q. IsTimes s s' (λ p. power_value base (constant_of q) w p (exponent_value base e w p))) (sym (finding_is e g.value g.first))
      (power_has at base e g.value (constant_of g.value) w s s' h (finding_is e g.value g.first) g.second (walk_multiplies base))
  node_multiplies at (factorial_of t) w s s' h e =
      let g = then_gave (find_argument t) (λ l. not_negative (place_of t) l then (λ l1. limited_form l then (λ l2. with_factorial l w s))) s' e in
      let i = skipped (not_negative (place_of t) g.value) (limited_form g.value then (λ l2. with_factorial g.value w s)) s' g.second in
      let j = skipped (limited_form g.value) (with_factorial g.value w s) s' i in
      times_same s s' (λ p. factorial_power w (form_value g.value p)) (node_value (factorial_of t) w) (factorial_row g.value w s s' h j)
      (λ p. same (sym (at_whole_value (factorial_power w) (tree_value t (pos 1) p) (form_value g.value p)
      (argument_found t g.value g.first p))))
  node_multiplies at (binomial_of upper lower) w s s' h e = binomial_row at upper lower w s s' h e

  parts_multiply : (parts : Parts) (w : ℤ) (s s' : ProperTerm) → HasFractions s → (walk_parts parts w s).outcome ≡ Ok s'
      → IsTimes s s' (product_value parts w)
  parts_multiply no_parts w s s' h e = subst (λ t. IsTimes s t (λ p. of_whole (pos 1))) (same_Ok s s' e) (times_nothing s h)
  parts_multiply (part turned t parts) w s s' h e =
      let g = then_gave (walk t (part_power turned w) s) (λ g. walk_parts parts w g) s' e in
      let own = walk_multiplies t (part_power turned w) s g.value h g.first in
      times_both s g.value s' (tree_value t (part_power turned w)) (product_value parts w) own (parts_multiply parts w g.value s' own.fractions g.second)
