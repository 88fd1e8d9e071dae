-- What is found where a polynomial is sought is the polynomial of the tree, or that there is none.
use Rattle.std.proofs.Common.{◌≡◌, ℕ, suc, ◌≤◌, refl, ap, ◌∙◌, List, [], Bool, true, false, Option, Some, None, arith}
use Rattle.std.proofs.lemmas.Bool.{leb-true, ltb-true, cond_both}
use Rattle.std.specs.Prelude.{ℤ, pos, negsuc, unsigned_abs, if◌then◌else◌, nat_lt, Ok}
use Rattle.ring_laws.specs.Meaning.{Meaning}
use Rattle.poly_laws.specs.TwoVariables.{in_n_and_k, poly_n, poly_k, poly_power}
use Rattle.steps.specs.Found.{in_front, made_of, where_some}
use Rattle.steps.specs.Operations.{Counterpart, of_polynomial}
use Rattle.steps.specs.TermFaults.{Improper}
use Rattle.steps.specs.Steps.{gives, within_limit, ◌then◌}
use Rattle.steps.specs.declared.limits.LimitName.TheVariants.{Exponent}
use Rattle.steps.proofs.StepLaws.{then_gave, same_Ok, limit_gave}
use Rattle.grammar.specs.Tree.{Tree, tree, Node, literal, variable_n, variable_k, sum_of, product_of, power_of, factorial_of, binomial_of, Parts, no_parts, part}
use Rattle.term_classes.specs.TreePolynomial.{constant_of, combined, signed_poly, raised, tree_polynomial, node_polynomial, sum_polynomial, product_polynomial}
use Rattle.term_classes.specs.Finding.{size_raised, sum_of_polynomials, product_of_polynomials, sizes_added, sizes_multiplied, signed_polynomial, raised_at, where_natural, find_polynomial, find_node_polynomial, find_summands, find_factors}

abbrev where_there : {A B : Type 0} → (A → B) → Option A → Option B
where_there f None = None
where_there f (Some x) = Some (f x)

made_gave : {A B : Type 0} (at : ℕ) (c : A → Counterpart) (f : A → B) (x : Option A) (y : Option B)
    → (made_of {P = ℕ} {R = Improper} at c f x).outcome
    ≡ Ok y → where_there f x ≡ y
made_gave at c f None y e = same_Ok None y e
made_gave at c f (Some x) y e = same_Ok (Some (f x)) y e

-- a summand in front
one_summand : (turned : Bool) (a : Option Meaning) (parts : Parts) (ps : Option (List Meaning))
    → (where_some a (λ p. find_summands parts then (λ ps. gives (in_front (signed_polynomial turned p) ps)))).outcome ≡ Ok ps
    → ((qs : Option (List Meaning)) → (find_summands parts).outcome ≡ Ok qs → sum_polynomial parts ≡ where_there sum_of_polynomials qs)
    → combined in_n_and_k.sum (signed_poly turned a) (sum_polynomial parts) ≡ where_there sum_of_polynomials ps
one_summand turned None parts ps e h = ap (where_there sum_of_polynomials) (same_Ok None ps e)
one_summand turned (Some p) parts ps e h =
    let g = then_gave (find_summands parts) (λ ps. gives (in_front (signed_polynomial turned p) ps)) ps e in
    ap (combined in_n_and_k.sum (signed_poly turned (Some p))) (h g.value g.first) ∙ joined turned g.value
    ∙ ap (where_there sum_of_polynomials) (same_Ok (in_front (signed_polynomial turned p) g.value) ps g.second)
  where
    joined : (turned : Bool) (qs : Option (List Meaning)) → combined in_n_and_k.sum (signed_poly turned (Some p)) (where_there sum_of_polynomials qs)
        ≡ where_there sum_of_polynomials (in_front (signed_polynomial turned p) qs)
    joined false None = refl
    joined true None = refl
    joined false (Some qs) = refl
    joined true (Some qs) = refl

one_factor : (a : Option Meaning) (parts : Parts) (ps : Option (List Meaning))
    → (where_some a (λ p. find_factors parts then (λ ps. gives (in_front p ps)))).outcome ≡ Ok ps
    → ((qs : Option (List Meaning)) → (find_factors parts).outcome ≡ Ok qs → product_polynomial parts ≡ where_there product_of_polynomials qs)
    → combined in_n_and_k.product a (product_polynomial parts) ≡ where_there product_of_polynomials ps
one_factor None parts ps e h = ap (where_there product_of_polynomials) (same_Ok None ps e)
one_factor (Some p) parts ps e h =
    let g = then_gave (find_factors parts) (λ ps. gives (in_front p ps)) ps e in
    ap (combined in_n_and_k.product (Some p)) (h g.value g.first) ∙ joined g.value
    ∙ ap (where_there product_of_polynomials) (same_Ok (in_front p g.value) ps g.second)
  where
    joined : (qs : Option (List Meaning)) → combined in_n_and_k.product (Some p) (where_there product_of_polynomials qs)
        ≡ where_there product_of_polynomials (in_front p qs)
    joined None = refl
    joined (Some qs) = refl

no_exponent : (a : Option Meaning) → raised a None ≡ None
no_exponent None = refl
no_exponent (Some p) = refl

negative_exponent : (a : Option Meaning) (c : ℕ) → raised a (Some (negsuc c)) ≡ None
negative_exponent None c = refl
negative_exponent (Some p) c = refl

small_exponent : (a : Option Meaning) (c : ℕ) → c ≤ 12 → raised a (Some (pos c)) ≡ where_there (λ p. poly_power p c) a
small_exponent None c h = refl
small_exponent (Some p) c h =
    cond_both (nat_lt 12 c) None (Some (poly_power p c)) (λ r. r ≡ Some (poly_power p c)) (λ e. absurd (omega (arith, ltb-true 12 c e, h)))
    (λ e. refl)

-- a base to the exponent that was found
one_power : (at : ℕ) (base : Tree) (c : Option ℤ) (p : Option Meaning)
    → (where_some c (λ c. within_limit Exponent (unsigned_abs c) c then (λ c1.
    where_natural c (λ power. find_polynomial base then (raised_at at power))))).outcome ≡ Ok p
    → ((q : Option Meaning) → (find_polynomial base).outcome ≡ Ok q → tree_polynomial base ≡ q)
    → raised (tree_polynomial base) c ≡ p
one_power at base None p e h = no_exponent (tree_polynomial base) ∙ same_Ok None p e
one_power at base (Some (negsuc c)) p e h =
    let g = then_gave (within_limit Exponent (suc c) (negsuc c)) (λ c1. gives None) p e in
    negative_exponent (tree_polynomial base) c ∙ same_Ok None p g.second
one_power at base (Some (pos c)) p e h =
    let g = then_gave (within_limit Exponent c (pos c)) (λ c1. find_polynomial base then (raised_at at c)) p e in
    let small : c ≤ 12 = (limit_gave Exponent c (pos c) g.value g.first).few in
    let b = then_gave (find_polynomial base) (raised_at at c) p g.second in
    ap (λ a. raised a (Some (pos c))) (h b.value b.first) ∙ small_exponent b.value c small
    ∙ made_gave at (λ p. of_polynomial (size_raised p c)) (λ p. poly_power p c) b.value p b.second

mutual
  pub finding_is : (t : Tree) (p : Option Meaning) → (find_polynomial t).outcome ≡ Ok p → tree_polynomial t ≡ p
  finding_is (tree at node) p e = find_node_is at node p e

  pub find_node_is : (at : ℕ) (node : Node) (p : Option Meaning) → (find_node_polynomial at node).outcome ≡ Ok p → node_polynomial node ≡ p
  find_node_is at (literal c) p e = same_Ok (Some (in_n_and_k.whole c)) p e
  find_node_is at variable_n p e = same_Ok (Some poly_n) p e
  find_node_is at variable_k p e = same_Ok (Some poly_k) p e
  find_node_is at (sum_of parts) p e =
      let g = then_gave (find_summands parts) (made_of at (λ ps. of_polynomial (sizes_added ps)) sum_of_polynomials) p e in
      summands_are parts g.value g.first ∙ made_gave at (λ ps. of_polynomial (sizes_added ps)) sum_of_polynomials g.value p g.second
  find_node_is at (product_of parts) p e =
      let g = then_gave (find_factors parts) (made_of at (λ ps. of_polynomial (sizes_multiplied ps)) product_of_polynomials) p e in
      factors_are parts g.value g.first ∙ made_gave at (λ ps. of_polynomial (sizes_multiplied ps)) product_of_polynomials g.value p g.second
  find_node_is at (power_of base e) p h =
      let g = then_gave (find_polynomial e) (λ p. where_some (constant_of p) (λ c. within_limit Exponent (unsigned_abs c) c then (λ c1.
      where_natural c (λ power. find_polynomial base then (raised_at at power))))) p h in
      ap (λ q. raised (tree_polynomial base) (constant_of q)) (finding_is e g.value g.first)
      ∙ one_power at base (constant_of g.value) p g.second (finding_is base)
  find_node_is at (factorial_of t) p e = same_Ok None p e
  find_node_is at (binomial_of l m) p e = same_Ok None p e

  summands_are : (parts : Parts) (ps : Option (List Meaning)) → (find_summands parts).outcome ≡ Ok ps → sum_polynomial parts
      ≡ where_there sum_of_polynomials ps
  summands_are no_parts ps e = ap (where_there sum_of_polynomials) (same_Ok (Some []) ps e)
  summands_are (part turned t parts) ps e =
      let g = then_gave (find_polynomial t) (λ p. where_some p
      (λ p1. find_summands parts then (λ ps. gives (in_front (signed_polynomial turned p1) ps)))) ps e in
      ap (λ a. combined in_n_and_k.sum (signed_poly turned a) (sum_polynomial parts)) (finding_is t g.value g.first)
      ∙ one_summand turned g.value parts ps g.second (summands_are parts)

  factors_are : (parts : Parts) (ps : Option (List Meaning)) → (find_factors parts).outcome ≡ Ok ps → product_polynomial parts
      ≡ where_there product_of_polynomials ps
  factors_are no_parts ps e = ap (where_there product_of_polynomials) (same_Ok (Some []) ps e)
  factors_are (part true t parts) ps e = ap (where_there product_of_polynomials) (same_Ok None ps e)
  factors_are (part false t parts) ps e =
      let g = then_gave (find_polynomial t) (λ p. where_some p (λ p1. find_factors parts then (λ ps. gives (in_front p1 ps)))) ps e in
      ap (λ a. combined in_n_and_k.product a (product_polynomial parts)) (finding_is t g.value g.first)
      ∙ one_factor g.value parts ps g.second (factors_are parts)
