-- What each row of the walk over a tree keeps, the walk keeps.
use Rattle.std.proofs.Common.{◌≡◌, ◌≢◌, ℕ, true, false, Some, None, subst}
use Rattle.std.specs.Prelude.{ℤ, pos, negsuc, ◌*ℤ◌, unsigned_abs, if◌then◌else◌, Ok}
use Rattle.steps.specs.Steps.{gives, within_limit, ◌then◌}
use Rattle.steps.specs.TermFaults.{TermSteps}
use Rattle.steps.specs.declared.limits.LimitName.TheVariants.{Exponent}
use Rattle.steps.proofs.StepLaws.{then_gave, same_Ok}
use Rattle.hypergeometric.specs.Fraction.{of_whole, fraction_product}
use Rattle.hypergeometric.specs.ProperTerm.{ProperTerm}
use Rattle.hypergeometric.specs.Divisors.{lowest_terms, raised_fraction}
use Rattle.hypergeometric.specs.PrimitiveForm.{is_zero}
use Rattle.grammar.specs.Tree.{Tree, tree, Node, literal, variable_n, variable_k, sum_of, product_of, power_of, factorial_of, binomial_of, Parts, no_parts, part}
use Rattle.term_classes.specs.TreePolynomial.{constant_of}
use Rattle.term_classes.specs.TreeValue.{part_power}
use Rattle.term_classes.specs.Forms.{linear_form_of, limited_form}
use Rattle.term_classes.specs.Finding.{find_polynomial}
use Rattle.term_classes.specs.Walk.{with_scale, place_of, with_factorial, find_argument, not_negative, walk, walk_node, walk_parts}
use Rattle.term_classes.proofs.WalkRows.{whole_nonzero}
use Rattle.term_classes.proofs.ArgumentRows.{skipped}
use Rattle.term_classes.proofs.WalkValues.{exponential_walk, minus_one_not_zero}
use Rattle.term_classes.proofs.RowFacts.{RowsKeep, limits_given, part_not_zero}
use Rattle.term_classes.proofs.KeptRows.{factorial_keeps, find_node_keeps, binomial_keeps, power_keeps}

module _ (P : ProperTerm → Type 0) (rows : RowsKeep P) where
  mutual
    pub walk_keeps : (t : Tree) (w : ℤ) (s s' : ProperTerm) → w ≢ pos 0 → P s → (walk t w s).outcome ≡ Ok s' → P s'
    walk_keeps (tree at node) w s s' n p e = node_keeps at node w s s' n p e

    node_keeps : (at : ℕ) (node : Node) (w : ℤ) (s s' : ProperTerm) → w ≢ pos 0 → P s → (walk_node at node w s).outcome ≡ Ok s' → P s'
    node_keeps at (literal c) w s s' n p e = find_node_keeps P rows at (literal c) w s s' p e
    node_keeps at variable_n w s s' n p e = find_node_keeps P rows at variable_n w s s' p e
    node_keeps at variable_k w s s' n p e = find_node_keeps P rows at variable_k w s s' p e
    node_keeps at (sum_of no_parts) w s s' n p e = find_node_keeps P rows at (sum_of no_parts) w s s' p e
    node_keeps at (sum_of (part false t parts)) w s s' n p e = find_node_keeps P rows at (sum_of (part false t parts)) w s s' p e
    node_keeps at (sum_of (part true t (part turned u parts))) w s s' n p e = find_node_keeps P rows at (sum_of (part true t (part turned u parts)))
        w s s' p e
    node_keeps at (sum_of (part true t no_parts)) w s s' n p e =
        walk_keeps t w (with_scale (lowest_terms (fraction_product s.scale (raised_fraction (of_whole (negsuc 0)) w))) s) s' n
        (rows.scale s (of_whole (negsuc 0)) w p (whole_nonzero (negsuc 0) minus_one_not_zero)) e
    node_keeps at (product_of parts) w s s' n p e = parts_keep parts w s s' n p e
    node_keeps at (power_of base e) w s s' n p given =
        let g = then_gave (find_polynomial e) (λ p. elim (constant_of p) as (λ _. TermSteps ProperTerm) [
          | Some c ↦ within_limit Exponent (unsigned_abs (w *ℤ c)) c then (λ c1. if is_zero c then gives s else walk base (w *ℤ c) s)
          | None ↦ exponential_walk at base e (linear_form_of p) w s
        ]) s' given in
        power_keeps P rows at base e (linear_form_of g.value) (constant_of g.value) w s s' n p g.second (λ v m f. walk_keeps base v s s' m p f)
    node_keeps at (factorial_of t) w s s' n p e =
        let g = then_gave (find_argument t) (λ l. not_negative (place_of t) l then (λ l1. limited_form l then (λ l2. with_factorial l w s))) s' e in
        let h = skipped (not_negative (place_of t) g.value) (limited_form g.value then (λ l2. with_factorial g.value w s)) s' g.second in
        let i = then_gave (limited_form g.value) (λ l2. with_factorial g.value w s) s' h in
        factorial_keeps P rows g.value w s s' n (limits_given g.value i.value i.first) p i.second
    node_keeps at (binomial_of upper lower) w s s' n p e = binomial_keeps P rows at upper lower w s s' n p e

    parts_keep : (parts : Parts) (w : ℤ) (s s' : ProperTerm) → w ≢ pos 0 → P s → (walk_parts parts w s).outcome ≡ Ok s' → P s'
    parts_keep no_parts w s s' n p e = subst P (same_Ok s s' e) p
    parts_keep (part turned t parts) w s s' n p e =
        let g = then_gave (walk t (part_power turned w) s) (λ g. walk_parts parts w g) s' e in
        parts_keep parts w g.value s' n (walk_keeps t (part_power turned w) s g.value (part_not_zero turned w n) p g.first) g.second
