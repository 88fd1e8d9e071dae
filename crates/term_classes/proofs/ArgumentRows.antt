-- What exponentials, factorials and binomial coefficients of the walk over a tree do to the value of a term.
use Rattle.std.proofs.Common.{◌≡◌, ℕ, refl, ap, sym, ◌∙◌, [], ◌∷◌, Option, Some, None, subst}
use Rattle.std.specs.Prelude.{ℤ, pos, ◌+ℤ◌, ◌-ℤ◌, ◌*ℤ◌, neg_ℤ, if◌then◌else◌, Ok}
use Rattle.ring_solver.proofs.Read.{ring_z, reading_z}
use Rattle.ring_laws.specs.Meaning.{Meaning}
use Rattle.steps.specs.Operations.{of_number}
use Rattle.steps.specs.Steps.{makes, ◌then◌}
use Rattle.steps.specs.TermFaults.{improper, TermSteps}
use Rattle.steps.proofs.StepLaws.{then_gave, same_Ok, not_refused}
use Rattle.hypergeometric.specs.Point.{Point}
use Rattle.hypergeometric.specs.Fraction.{Fraction, of_whole, fraction_difference, fraction_product, whole_power}
use Rattle.hypergeometric.specs.LinearForm.{LinearForm, form_value}
use Rattle.hypergeometric.specs.ProperTerm.{ProperTerm, poly_value, IsNonzero, HasFractions}
use Rattle.hypergeometric.specs.Divisors.{lowest_terms, raised_fraction}
use Rattle.hypergeometric.specs.Forms.{form_difference, difference_size}
use Rattle.hypergeometric.proofs.PlainTerms.{difference_of_wholes}
use Rattle.hypergeometric.proofs.SameValues.{◌≅◌, same, same_itself, same_chain, same_symmetric, same_products, same_sums, same_negatives}
use Rattle.hypergeometric.proofs.FractionPowers.{product_one}
use Rattle.hypergeometric.proofs.NonzeroPowers.{power_at_sum}
use Rattle.grammar.specs.Tree.{Tree}
use Rattle.term_classes.specs.TreePolynomial.{tree_polynomial}
use Rattle.term_classes.specs.TreeValue.{tree_value, factorial_power, at_whole}
use Rattle.term_classes.specs.Forms.{linear_form_of, limited_form}
use Rattle.term_classes.specs.Finding.{find_polynomial}
use Rattle.term_classes.specs.Walk.{with_n_base, with_k_base, with_scale, place_of, with_factorial, form_or_refused, find_argument, not_negative, times_exponential, times_binomial}
use Rattle.term_classes.proofs.PolynomialValues.{tree_has}
use Rattle.term_classes.proofs.FindingPolynomials.{finding_is}
use Rattle.term_classes.proofs.TermProducts.{IsTimes, times_both, times_same}
use Rattle.term_classes.proofs.FieldProducts.{scale_times, n_base_times, k_base_times}
use Rattle.term_classes.proofs.FormValues.{linear_value}
use Rattle.term_classes.proofs.WholeValues.{at_whole_value}
use Rattle.term_classes.proofs.WalkRows.{factorial_row}

-- the tree has the value of the form
abbrev pub HasForm : Tree → LinearForm → Type 0
HasForm t l = (p : Point) → tree_value t (pos 1) p ≅ of_whole (form_value l p)

pub form_found : (reason : ℕ) (t : Tree) (poly : Option Meaning) (l : LinearForm) → tree_polynomial t ≡ poly
    → (form_or_refused reason t (linear_form_of poly)).outcome ≡ Ok l → HasForm t l
form_found reason t None l is e = absurd (not_refused (improper reason (place_of t)) l e)
form_found reason t (Some poly) l is e = by (linear_form_of (Some poly)) refl e
  where
    by : (o : Option LinearForm) → linear_form_of (Some poly) ≡ o → (form_or_refused reason t o).outcome ≡ Ok l → HasForm t l
    by None q f = absurd (not_refused (improper reason (place_of t)) l f)
    by (Some m) q f = λ p. same_chain (tree_has t poly is (pos 1) p) (same (product_one (of_whole (poly_value poly p))
        ∙ ap of_whole (linear_value p poly m q) ∙ ap (λ l. of_whole (form_value l p)) (same_Ok m l f)))

pub argument_found : (t : Tree) (l : LinearForm) → (find_argument t).outcome ≡ Ok l → HasForm t l
argument_found t l e =
    let g = then_gave (find_polynomial t) (λ p. form_or_refused 1 t (linear_form_of p)) l e in
    form_found 1 t g.value l (finding_is t g.value g.first) g.second

-- f to the power w * (s * n + t * k + c), in three parts
three_powers : (f : Fraction) → IsNonzero f → (l : LinearForm) (w : ℤ) (p : Point)
    → fraction_product (fraction_product (whole_power f (w *ℤ l.offset)) (whole_power f (w *ℤ l.k_slope *ℤ p.k))) (whole_power f (w *ℤ l.n_slope *ℤ p.n))
    ≅ whole_power f (w *ℤ form_value l p)
three_powers f h l w p =
    same_chain (same_products (same_symmetric (power_at_sum f h (w *ℤ l.offset) (w *ℤ l.k_slope *ℤ p.k)))
    (same_itself (whole_power f (w *ℤ l.n_slope *ℤ p.n))))
    (same_chain (same_symmetric (power_at_sum f h (w *ℤ l.offset +ℤ w *ℤ l.k_slope *ℤ p.k) (w *ℤ l.n_slope *ℤ p.n)))
    (same (ap (whole_power f) (joined w l.n_slope l.k_slope l.offset p.n p.k))))
  where
    joined : (w s t c n k : ℤ) → w *ℤ c +ℤ w *ℤ t *ℤ k +ℤ w *ℤ s *ℤ n ≡ w *ℤ (s *ℤ n +ℤ t *ℤ k +ℤ c)
    joined w s t c n k = ring_z (w ∷ s ∷ t ∷ c ∷ n ∷ k ∷ []) (search reading_z depth 40 fits 20000) refl

pub exponential_row : (at : ℕ) (f : Fraction) (l : LinearForm) (w : ℤ) (s s' : ProperTerm) → HasFractions s → IsNonzero f
    → (times_exponential at f l w s).outcome ≡ Ok s' → IsTimes s s' (λ p. whole_power f (w *ℤ form_value l p))
exponential_row at f l w s s' h nonzero e =
    let a : ProperTerm = with_scale (lowest_terms (fraction_product s.scale (raised_fraction f (w *ℤ l.offset)))) s in
    let b : ProperTerm = with_k_base (lowest_terms (fraction_product s.k_base (raised_fraction f (w *ℤ l.k_slope)))) a in
    let c : ProperTerm = with_n_base (lowest_terms (fraction_product s.n_base (raised_fraction f (w *ℤ l.n_slope)))) b in
    let given = scale_times s h f (w *ℤ l.offset) nonzero in
    let q = k_base_times a given.fractions f (w *ℤ l.k_slope) nonzero in
    let r = n_base_times b q.fractions f (w *ℤ l.n_slope) nonzero in
    subst (λ t. IsTimes s t (λ p. whole_power f (w *ℤ form_value l p))) (same_Ok c s' e)
    (times_same s c (λ p. fraction_product (fraction_product (whole_power f (w *ℤ l.offset)) (whole_power f (w *ℤ l.k_slope *ℤ p.k)))
    (whole_power f (w *ℤ l.n_slope *ℤ p.n)))
    (λ p. whole_power f (w *ℤ form_value l p))
    (times_both s b c (λ p. fraction_product (whole_power f (w *ℤ l.offset)) (whole_power f (w *ℤ l.k_slope *ℤ p.k)))
    (λ p. whole_power f (w *ℤ l.n_slope *ℤ p.n))
    (times_both s a b (λ p. whole_power f (w *ℤ l.offset)) (λ p. whole_power f (w *ℤ l.k_slope *ℤ p.k)) given q) r)
    (three_powers f nonzero l w))

-- a difference of forms
difference_value : (upper lower : Tree) (l m : LinearForm) → HasForm upper l → HasForm lower m
    → (p : Point) → fraction_difference (tree_value upper (pos 1) p) (tree_value lower (pos 1) p) ≅ of_whole (form_value (form_difference l m) p)
difference_value upper lower l m e q p =
    same_chain (same_sums (e p) (same_negatives (q p)))
    (same (difference_of_wholes (form_value l p) (form_value m p)
    ∙ ap of_whole (parts l.n_slope l.k_slope l.offset m.n_slope m.k_slope m.offset p.n p.k)))
  where
    parts : (a b c d e f n k : ℤ) → (a *ℤ n +ℤ b *ℤ k +ℤ c) -ℤ (d *ℤ n +ℤ e *ℤ k +ℤ f) ≡ (a -ℤ d) *ℤ n +ℤ (b -ℤ e) *ℤ k +ℤ (c -ℤ f)
    parts a b c d e f n k = ring_z (a ∷ b ∷ c ∷ d ∷ e ∷ f ∷ n ∷ k ∷ []) (search reading_z depth 40 fits 20000) refl

-- steps whose value isn't used
pub skipped : {A B : Type 0} (s : TermSteps A) (t : TermSteps B) (y : B) → (s then (λ x. t)).outcome ≡ Ok y → t.outcome ≡ Ok y
skipped s t y e = (then_gave s (λ x. t) y e).second

-- what a binomial coefficient multiplies by, once its arguments are found
abbrev pub three_factorials : LinearForm → LinearForm → LinearForm → ℤ → ProperTerm → TermSteps ProperTerm
three_factorials l m d w f = with_factorial l w f then (λ g. with_factorial m (neg_ℤ w) g then (λ h. with_factorial d (neg_ℤ w) h))

abbrev pub limits_tested : LinearForm → LinearForm → LinearForm → ℤ → ProperTerm → TermSteps ProperTerm
limits_tested l m d w f = limited_form l then (λ l2. limited_form m then (λ m2. limited_form d then (λ d2. three_factorials l m d w f)))

abbrev pub difference_made : ℕ → LinearForm → LinearForm → ℤ → ProperTerm → TermSteps ProperTerm
difference_made at l m w f = makes at (of_number (difference_size l m)) (form_difference l m) then
    (λ d. not_negative at d then (λ d1. limits_tested l m d w f))

abbrev pub arguments_tested : ℕ → Tree → Tree → LinearForm → LinearForm → ℤ → ProperTerm → TermSteps ProperTerm
arguments_tested at upper lower l m w f =
    not_negative (place_of upper) l then (λ l1. not_negative (place_of lower) m then (λ m1. difference_made at l m w f))

three_rows : (l m d : LinearForm) (w : ℤ) (s s' : ProperTerm) → HasFractions s → (three_factorials l m d w s).outcome ≡ Ok s'
    → IsTimes s s' (λ p. fraction_product (factorial_power w (form_value l p))
    (fraction_product (factorial_power (neg_ℤ w) (form_value m p)) (factorial_power (neg_ℤ w) (form_value d p))))
three_rows l m d w s s' h e =
    let g = then_gave (with_factorial l w s) (λ g. with_factorial m (neg_ℤ w) g then (λ h. with_factorial d (neg_ℤ w) h)) s' e in
    let i = then_gave (with_factorial m (neg_ℤ w) g.value) (λ h. with_factorial d (neg_ℤ w) h) s' g.second in
    let given = factorial_row l w s g.value h g.first in
    let q = factorial_row m (neg_ℤ w) g.value i.value given.fractions i.first in
    let r = factorial_row d (neg_ℤ w) i.value s' q.fractions i.second in
    times_both s g.value s' (λ p. factorial_power w (form_value l p))
    (λ p. fraction_product (factorial_power (neg_ℤ w) (form_value m p)) (factorial_power (neg_ℤ w) (form_value d p))) given
    (times_both g.value i.value s' (λ p. factorial_power (neg_ℤ w) (form_value m p)) (λ p. factorial_power (neg_ℤ w) (form_value d p)) q r)

pub binomial_row : (at : ℕ) (upper lower : Tree) (w : ℤ) (s s' : ProperTerm) → HasFractions s → (times_binomial at upper lower w s).outcome ≡ Ok s'
    → IsTimes s s' (λ p. fraction_product (at_whole (factorial_power w) (tree_value upper (pos 1) p))
    (fraction_product (at_whole (factorial_power (neg_ℤ w)) (tree_value lower (pos 1) p))
    (at_whole (factorial_power (neg_ℤ w)) (fraction_difference (tree_value upper (pos 1) p) (tree_value lower (pos 1) p)))))
binomial_row at upper lower w s s' h e =
    let a = then_gave (find_argument upper) (λ l. find_argument lower then (λ m. arguments_tested at upper lower l m w s)) s' e in
    let l = a.value in
    let b = then_gave (find_argument lower) (λ m. arguments_tested at upper lower l m w s) s' a.second in
    let m = b.value in
    let c = skipped (not_negative (place_of upper) l) (not_negative (place_of lower) m then (λ m1. difference_made at l m w s)) s' b.second in
    let d = skipped (not_negative (place_of lower) m) (difference_made at l m w s) s' c in
    let g = skipped (not_negative at (form_difference l m)) (limits_tested l m (form_difference l m) w s) s' d in
    let i = skipped (limited_form l) (limited_form m then
    (λ m2. limited_form (form_difference l m) then (λ d2. three_factorials l m (form_difference l m) w s))) s' g in
    let j = skipped (limited_form m) (limited_form (form_difference l m) then (λ d2. three_factorials l m (form_difference l m) w s)) s' i in
    let o = skipped (limited_form (form_difference l m)) (three_factorials l m (form_difference l m) w s) s' j in
    let given = argument_found upper l a.first in
    let q = argument_found lower m b.first in
    times_same s s'
    (λ p. fraction_product (factorial_power w (form_value l p))
    (fraction_product (factorial_power (neg_ℤ w) (form_value m p)) (factorial_power (neg_ℤ w) (form_value (form_difference l m) p))))
    (λ p. fraction_product (at_whole (factorial_power w) (tree_value upper (pos 1) p))
    (fraction_product (at_whole (factorial_power (neg_ℤ w)) (tree_value lower (pos 1) p))
    (at_whole (factorial_power (neg_ℤ w)) (fraction_difference (tree_value upper (pos 1) p) (tree_value lower (pos 1) p)))))
    (three_rows l m (form_difference l m) w s s' h o)
    (λ p. same_products (same (sym (at_whole_value (factorial_power w) (tree_value upper (pos 1) p) (form_value l p) (given p))))
    (same_products (same (sym (at_whole_value (factorial_power (neg_ℤ w)) (tree_value lower (pos 1) p) (form_value m p) (q p))))
    (same (sym (at_whole_value (factorial_power (neg_ℤ w)) (fraction_difference (tree_value upper (pos 1) p) (tree_value lower (pos 1) p))
    (form_value (form_difference l m) p) (difference_value upper lower l m given q p))))))
