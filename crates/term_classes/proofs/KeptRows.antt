-- What is kept by the rows of the walk over a tree, where each keeps it.
use Rattle.std.proofs.Common.{◌≡◌, ◌≢◌, ℕ, zero, suc, refl, ap, ◌∙◌, Bool, true, false, Option, Some, None, arith, subst, ⊎_elim}
use Rattle.std.specs.Prelude.{ℤ, pos, negsuc, ◌*ℤ◌, neg_ℤ, unsigned_abs, int_lt, if◌then◌else◌, Ok}
use Rattle.ring_solver.proofs.Linear.{product_zero}
use Rattle.ring_laws.specs.Meaning.{Meaning, items}
use Rattle.poly_laws.specs.TwoVariables.{in_n_and_k, poly_power, constant_in_k}
use Rattle.steps.specs.Steps.{gives, refuses, within_limit, ◌then◌}
use Rattle.steps.specs.TermFaults.{improper, TermSteps}
use Rattle.steps.specs.declared.limits.LimitName.TheVariants.{Exponent}
use Rattle.steps.proofs.StepLaws.{then_gave, same_Ok, not_refused}
use Rattle.hypergeometric.specs.Fraction.{of_whole, fraction_product}
use Rattle.hypergeometric.specs.LinearForm.{LinearForm}
use Rattle.hypergeometric.specs.ProperTerm.{ProperTerm, IsNonzero}
use Rattle.hypergeometric.specs.TermFacts.{IsWithinLimits}
use Rattle.hypergeometric.specs.Divisors.{lowest_terms, raised_fraction}
use Rattle.hypergeometric.specs.PrimitiveForm.{is_zero, content_of_form, primitive_form}
use Rattle.hypergeometric.specs.Forms.{form_difference}
use Rattle.hypergeometric.proofs.Contents.{content_not_zero}
use Rattle.grammar.specs.Tree.{Tree, Node}
use Rattle.term_classes.specs.Forms.{linear_form_of, limited_form, limited_exponent}
use Rattle.term_classes.specs.Finding.{find_node_polynomial, find_constant}
use Rattle.term_classes.specs.Walk.{with_poly, with_scale, with_n_base, with_k_base, place_of, times_power, few_factors, with_factorial, with_denominator, times_number, times_polynomial, times_found, form_or_refused, base_or_refused, find_argument, not_negative, times_exponential, times_binomial, walk}
use Rattle.term_classes.proofs.FindingPolynomials.{find_node_is}
use Rattle.term_classes.proofs.ConstantPowers.{not_zero}
use Rattle.term_classes.proofs.ConstantValues.{constant_has}
use Rattle.term_classes.proofs.PassingPolynomials.{Belongs, node_belongs}
use Rattle.term_classes.proofs.VaryingForms.{IsVarying, varying_not_zero}
use Rattle.term_classes.proofs.WalkRows.{few_same, whole_nonzero}
use Rattle.term_classes.proofs.ArgumentRows.{skipped, three_factorials, limits_tested, difference_made, arguments_tested}
use Rattle.term_classes.proofs.WalkValues.{base_found, exponential_walk}
use Rattle.term_classes.proofs.RowFacts.{with_up, with_down, with_over, RowsKeep, few_given, limits_given, negated_not_zero}

module _ (P : ProperTerm → Type 0) (rows : RowsKeep P) where
  pub factorial_keeps : (l : LinearForm) (w : ℤ) (s s' : ProperTerm) → w ≢ pos 0 → IsWithinLimits l → P s → (with_factorial l w s).outcome ≡ Ok s'
      → P s'
  factorial_keeps l (pos zero) s s' n limits p e = absurd (n refl)
  factorial_keeps l (pos (suc w)) s s' n limits p e =
      subst P (few_same (with_up l (suc w) s) s' e) (rows.up s l (suc w) p limits (omega arith) (few_given (with_up l (suc w) s) s' e))
  factorial_keeps l (negsuc w) s s' n limits p e =
      subst P (few_same (with_down l (suc w) s) s' e) (rows.down s l (suc w) p limits (omega arith) (few_given (with_down l (suc w) s) s' e))

  denominator_keeps : (at : ℕ) (q : Meaning) (l : LinearForm) (w : ℕ) (s s' : ProperTerm) → IsVarying q → linear_form_of (Some q) ≡ Some l
      → IsWithinLimits l
      → P s → (with_denominator at l (suc w) s).outcome ≡ Ok s' → P s'
  denominator_keeps at q l w s s' varying form limits p e =
      let t : ProperTerm = with_over (primitive_form l) (suc w) s in
      let g = then_gave (few_factors t) (λ g. times_power at g.scale (of_whole (content_of_form l)) (negsuc w) then (λ s. gives (with_scale s g)))
      s' e in
      subst P (same_Ok (with_scale (lowest_terms (fraction_product g.value.scale (raised_fraction (of_whole (content_of_form l)) (negsuc w))))
      g.value) s' g.second)
      (rows.scale g.value (of_whole (content_of_form l)) (negsuc w)
      (subst P (few_same t g.value g.first) (rows.over s q l (suc w) p varying form limits (omega arith) (few_given t g.value g.first)))
      (whole_nonzero (content_of_form l) (content_not_zero l (varying_not_zero q l varying form))))

  number_keeps : (at : ℕ) (z w : ℤ) (s s' : ProperTerm) → P s → (times_number at z w s).outcome ≡ Ok s' → P s'
  number_keeps at z w s s' p e = by (is_zero z) refl e
    where
      by : (b : Bool) → is_zero z ≡ b → (if b then refuses (improper (if int_lt w (pos 0) then 3 else 7) at)
          else (times_power at s.scale (of_whole z) w then (λ t. gives (with_scale t s)))).outcome ≡ Ok s' → P s'
      by true q f = absurd (not_refused (improper (if int_lt w (pos 0) then 3 else 7) at) s' f)
      by false q f = subst P (same_Ok (with_scale (lowest_terms (fraction_product s.scale (raised_fraction (of_whole z) w))) s) s' f)
          (rows.scale s (of_whole z) w p (whole_nonzero z (not_zero z q)))

  polynomial_keeps : (at : ℕ) (q : Meaning) (w : ℤ) (s s' : ProperTerm) → IsVarying q → P s → (times_polynomial at q w s).outcome ≡ Ok s' → P s'
  polynomial_keeps at q (pos w) s s' varying p e =
      subst P (same_Ok (with_poly (in_n_and_k.product s.poly (poly_power q w)) s) s' e) (rows.poly s q w p varying)
  polynomial_keeps at q (negsuc w) s s' varying p e = by (linear_form_of (Some q)) refl e
    where
      by : (o : Option LinearForm) → linear_form_of (Some q) ≡ o → (elim o as (λ _. TermSteps ProperTerm) [
        | None ↦ refuses (improper 3 at)
        | Some l ↦ limited_form l then (λ l1. with_denominator at l (suc w) s)
      ]).outcome ≡ Ok s' → P s'
      by None form f = absurd (not_refused (improper 3 at) s' f)
      by (Some l) form f =
          let g = then_gave (limited_form l) (λ l1. with_denominator at l (suc w) s) s' f in
          denominator_keeps at q l w s s' varying form (limits_given l g.value g.first) p g.second

  finding_keeps : (at : ℕ) (w : ℤ) (s s' : ProperTerm) (o : Option Meaning) → ((q : Meaning) → o ≡ Some q → Belongs q) → P s
      → (times_found at w s o).outcome ≡ Ok s' → P s'
  finding_keeps at w s s' None belongs p e = absurd (not_refused (improper 6 at) s' e)
  finding_keeps at w s s' (Some q) belongs p e = by (constant_in_k (items q)) refl e
    where
      by : (c : Option ℤ) → constant_in_k (items q) ≡ c → (elim c as (λ _. TermSteps ProperTerm) [
        | Some z ↦ times_number at z w s
        | None ↦ times_polynomial at q w s
      ]).outcome ≡ Ok s' → P s'
      by (Some z) constant f = number_keeps at z w s s' p f
      by None constant f = polynomial_keeps at q w s s' (record { belongs = belongs q refl; no_number = constant }) p f

  pub find_node_keeps : (at : ℕ) (node : Node) (w : ℤ) (s s' : ProperTerm) → P s
      → (find_node_polynomial at node then (times_found at w s)).outcome
      ≡ Ok s' → P s'
  find_node_keeps at node w s s' p e =
      let g = then_gave (find_node_polynomial at node) (times_found at w s) s' e in
      finding_keeps at w s s' g.value (λ q f. node_belongs node q (find_node_is at node g.value g.first ∙ f)) p g.second

  exponential_keeps : (at : ℕ) (base e : Tree) (o : Option LinearForm) (w : ℤ) (s s' : ProperTerm) → P s
      → (exponential_walk at base e o w s).outcome ≡ Ok s' → P s'
  exponential_keeps at base e o w s s' p given =
      let a = then_gave (find_constant base) (λ b. base_or_refused at b then (λ b1. form_or_refused 5 e o then (λ l.
      limited_exponent l then (λ l1. times_exponential at b1 l w s)))) s' given in
      let b = then_gave (base_or_refused at a.value)
      (λ b1. form_or_refused 5 e o then (λ l. limited_exponent l then (λ l1. times_exponential at b1 l w s))) s' a.second in
      let c = then_gave (form_or_refused 5 e o) (λ l. limited_exponent l then (λ l1. times_exponential at b.value l w s)) s' b.second in
      let d = skipped (limited_exponent c.value) (times_exponential at b.value c.value w s) s' c.second in
      let base_is = base_found at a.value b.value b.first in
      let nonzero : IsNonzero b.value = record { top = base_is.top; bottom = (constant_has base b.value (a.first ∙ ap Ok base_is.found)).defined } in
      let scaled : ProperTerm = with_scale (lowest_terms (fraction_product s.scale (raised_fraction b.value (w *ℤ c.value.offset)))) s in
      let in_k : ProperTerm = with_k_base (lowest_terms (fraction_product s.k_base (raised_fraction b.value (w *ℤ c.value.k_slope)))) scaled in
      subst P {x = with_n_base (lowest_terms (fraction_product s.n_base (raised_fraction b.value (w *ℤ c.value.n_slope)))) in_k}
      (same_Ok (with_n_base (lowest_terms (fraction_product s.n_base (raised_fraction b.value (w *ℤ c.value.n_slope)))) in_k) s' d)
      (rows.n_base in_k b.value (w *ℤ c.value.n_slope)
      (rows.k_base scaled b.value (w *ℤ c.value.k_slope) (rows.scale s b.value (w *ℤ c.value.offset) p nonzero) nonzero) nonzero)

  three_keep : (l m d : LinearForm) (w : ℤ) (s s' : ProperTerm) → w ≢ pos 0 → IsWithinLimits l → IsWithinLimits m → IsWithinLimits d → P s
      → (three_factorials l m d w s).outcome ≡ Ok s' → P s'
  three_keep l m d w s s' n x y z p e =
      let g = then_gave (with_factorial l w s) (λ g. with_factorial m (neg_ℤ w) g then (λ h. with_factorial d (neg_ℤ w) h)) s' e in
      let h = then_gave (with_factorial m (neg_ℤ w) g.value) (λ h. with_factorial d (neg_ℤ w) h) s' g.second in
      factorial_keeps d (neg_ℤ w) h.value s' (negated_not_zero w n) z
      (factorial_keeps m (neg_ℤ w) g.value h.value (negated_not_zero w n) y (factorial_keeps l w s g.value n x p g.first) h.first) h.second

  limits_keep : (l m d : LinearForm) (w : ℤ) (s s' : ProperTerm) → w ≢ pos 0 → P s → (limits_tested l m d w s).outcome ≡ Ok s' → P s'
  limits_keep l m d w s s' n p e =
      let a = then_gave (limited_form l) (λ l2. limited_form m then (λ m2. limited_form d then (λ d2. three_factorials l m d w s))) s' e in
      let b = then_gave (limited_form m) (λ m2. limited_form d then (λ d2. three_factorials l m d w s)) s' a.second in
      let c = then_gave (limited_form d) (λ d2. three_factorials l m d w s) s' b.second in
      three_keep l m d w s s' n (limits_given l a.value a.first) (limits_given m b.value b.first) (limits_given d c.value c.first) p c.second

  pub binomial_keeps : (at : ℕ) (upper lower : Tree) (w : ℤ) (s s' : ProperTerm) → w ≢ pos 0 → P s → (times_binomial at upper lower w s).outcome
      ≡ Ok s'
      → P s'
  binomial_keeps at upper lower w s s' n p e =
      let a = then_gave (find_argument upper) (λ l. find_argument lower then (λ m. arguments_tested at upper lower l m w s)) s' e in
      let l = a.value in
      let b = then_gave (find_argument lower) (λ m. arguments_tested at upper lower l m w s) s' a.second in
      let m = b.value in
      let c = skipped (not_negative (place_of upper) l) (not_negative (place_of lower) m then (λ m1. difference_made at l m w s)) s' b.second in
      let d = skipped (not_negative (place_of lower) m) (difference_made at l m w s) s' c in
      let g = skipped (not_negative at (form_difference l m)) (limits_tested l m (form_difference l m) w s) s' d in
      limits_keep l m (form_difference l m) w s s' n p g

  pub power_keeps : (at : ℕ) (base e : Tree) (o : Option LinearForm) (c : Option ℤ) (w : ℤ) (s s' : ProperTerm) → w ≢ pos 0 → P s
      → (elim c as (λ _. TermSteps ProperTerm) [
        | Some c ↦ within_limit Exponent (unsigned_abs (w *ℤ c)) c then (λ c1. if is_zero c then gives s else walk base (w *ℤ c) s)
        | None ↦ exponential_walk at base e o w s
      ]).outcome ≡ Ok s' → ((v : ℤ) → v ≢ pos 0 → (walk base v s).outcome ≡ Ok s' → P s') → P s'
  power_keeps at base e o None w s s' n p given rest = exponential_keeps at base e o w s s' p given
  power_keeps at base e o (Some c) w s s' n p given rest =
      by (is_zero c) refl (skipped (within_limit Exponent (unsigned_abs (w *ℤ c)) c) (if is_zero c then gives s else walk base (w *ℤ c) s)
      s' given)
    where
      by : (b : Bool) → is_zero c ≡ b → (if b then gives s else walk base (w *ℤ c) s).outcome ≡ Ok s' → P s'
      by true q f = subst P (same_Ok s s' f) p
      by false q f = rest (w *ℤ c) (λ z. ⊎_elim n (not_zero c q) (product_zero w c z)) f
