-- How far the row of a binomial coefficient has come, from what its first steps gave.
use Rattle.std.proofs.Common.{◌≡◌, ℕ, ap, subst}
use Rattle.std.specs.Prelude.{ℤ, neg_ℤ, Ok}
use Rattle.steps.specs.Leads.{Leads}
use Rattle.steps.specs.Operations.{of_number}
use Rattle.steps.specs.Steps.{makes, ◌then◌}
use Rattle.steps.specs.TermFaults.{Improper, TermSteps}
use Rattle.steps.proofs.Leading.{leads, leads_on}
use Rattle.hypergeometric.specs.LinearForm.{LinearForm}
use Rattle.hypergeometric.specs.ProperTerm.{ProperTerm}
use Rattle.hypergeometric.specs.Forms.{form_difference, difference_size}
use Rattle.grammar.specs.Tree.{Tree}
use Rattle.term_classes.specs.Forms.{limited_form}
use Rattle.term_classes.specs.Walk.{place_of, find_argument, not_negative, with_factorial, times_binomial}
use Rattle.term_text.specs.View.{tree_of}
use Rattle.term_text.specs.declared.ast.Ast.{Ast}
use Rattle.term_text.proofs.Views.{tree_of-at}
use Rattle.term_walk.specs.WalkRows.{factorials_left, limits_left, difference_left}
use Rattle.term_walk.proofs.RowLeads.{limited_leads}

-- the steps from the test of the second form on, and from that of the first on
abbrev pub lower_left : ℕ → ℕ → LinearForm → LinearForm → ℤ → ProperTerm → TermSteps ProperTerm
lower_left at lower_at l m w f = not_negative lower_at m then (λ m1. difference_left at l m w f)

abbrev pub forms_left : ℕ → ℕ → ℕ → LinearForm → LinearForm → ℤ → ProperTerm → TermSteps ProperTerm
forms_left at upper_at lower_at l m w f = not_negative upper_at l then (λ l1. lower_left at lower_at l m w f)

abbrev pub find_lower : ℕ → Tree → Tree → LinearForm → ℤ → ProperTerm → TermSteps ProperTerm
find_lower at upper lower l w f = find_argument lower then (λ m. forms_left at (place_of upper) (place_of lower) l m w f)

pub upper_leads : (at : ℕ) (upper lower : Tree) (w : ℤ) (f : ProperTerm) (l : LinearForm) → (find_argument upper).outcome ≡ Ok l
    → Leads (times_binomial at upper lower w f) (find_lower at upper lower l w f)
upper_leads at upper lower w f l e = leads (find_argument upper) (λ l. find_lower at upper lower l w f) l e

-- both forms, at the places of their trees
pub record AreFound (upper lower : Tree) (upper_at lower_at : ℕ) (l m : LinearForm) : Type 0 where
  pub upper_place : place_of upper ≡ upper_at
  pub lower_place : place_of lower ≡ lower_at
  pub upper_found : (find_argument upper).outcome ≡ Ok l
  pub lower_found : (find_argument lower).outcome ≡ Ok m

pub are_found : (a b : Ast) (l m : LinearForm) → (find_argument (tree_of a)).outcome ≡ Ok l → (find_argument (tree_of b)).outcome ≡ Ok m
    → AreFound (tree_of a) (tree_of b) a.at b.at l m
are_found a b l m e h = record {
  upper_place = ap place_of (tree_of-at a);
  lower_place = ap place_of (tree_of-at b);
  upper_found = e;
  lower_found = h;
}

pub found_leads : (at : ℕ) (upper lower : Tree) (w : ℤ) (f : ProperTerm) (upper_at lower_at : ℕ) (l m : LinearForm)
    → AreFound upper lower upper_at lower_at l m → Leads (times_binomial at upper lower w f) (forms_left at upper_at lower_at l m w f)
found_leads at upper lower w f upper_at lower_at l m h =
    subst (λ a. Leads (times_binomial at upper lower w f) (forms_left at a lower_at l m w f)) h.upper_place
    (subst (λ a. Leads (times_binomial at upper lower w f) (forms_left at (place_of upper) a l m w f)) h.lower_place
    (leads_on (upper_leads at upper lower w f l h.upper_found)
    (leads (find_argument lower) (λ m. forms_left at (place_of upper) (place_of lower) l m w f) m h.lower_found)))

pub upper_kept : (at upper_at lower_at : ℕ) (w : ℤ) (f : ProperTerm) (l m l1 : LinearForm) → (not_negative upper_at l).outcome ≡ Ok l1
    → Leads (forms_left at upper_at lower_at l m w f) (lower_left at lower_at l m w f)
upper_kept at upper_at lower_at w f l m l1 e = leads (not_negative upper_at l) (λ l1. lower_left at lower_at l m w f) l1 e

pub lower_kept : (at lower_at : ℕ) (w : ℤ) (f : ProperTerm) (l m m1 : LinearForm) → (not_negative lower_at m).outcome ≡ Ok m1
    → Leads (lower_left at lower_at l m w f) (difference_left at l m w f)
lower_kept at lower_at w f l m m1 e = leads (not_negative lower_at m) (λ m1. difference_left at l m w f) m1 e

-- from the difference on
pub difference_leads : (at : ℕ) (w : ℤ) (f : ProperTerm) (l m d : LinearForm)
    → (makes {R = Improper} at (of_number (difference_size l m)) (form_difference l m)).outcome ≡ Ok d
    → Leads (difference_left at l m w f) (not_negative at d then (λ d1. limits_left l m d w f))
difference_leads at w f l m d e =
    leads (makes at (of_number (difference_size l m)) (form_difference l m)) (λ d. not_negative at d then (λ d1. limits_left l m d w f)) d e

pub difference_kept : (at : ℕ) (w : ℤ) (f : ProperTerm) (l m d d1 : LinearForm) → (not_negative at d).outcome ≡ Ok d1
    → Leads (not_negative at d then (λ d1. limits_left l m d w f)) (limits_left l m d w f)
difference_kept at w f l m d d1 e = leads (not_negative at d) (λ d1. limits_left l m d w f) d1 e

-- and the limits of the three forms
pub first_limited : (w : ℤ) (f : ProperTerm) (l m d l2 : LinearForm) → (limited_form l).outcome ≡ Ok l2
    → Leads (limits_left l m d w f) (limited_form m then (λ m2. limited_form d then (λ d2. factorials_left l2 m d w f)))
first_limited w f l m d l2 e = limited_leads l l2 (λ l. limited_form m then (λ m2. limited_form d then (λ d2. factorials_left l m d w f))) e

pub second_limited : (w : ℤ) (f : ProperTerm) (l m d m2 : LinearForm) → (limited_form m).outcome ≡ Ok m2
    → Leads (limited_form m then (λ m2. limited_form d then (λ d2. factorials_left l m d w f)))
    (limited_form d then (λ d2. factorials_left l m2 d w f))
second_limited w f l m d m2 e = limited_leads m m2 (λ m. limited_form d then (λ d2. factorials_left l m d w f)) e

pub third_limited : (w : ℤ) (f : ProperTerm) (l m d d2 : LinearForm) → (limited_form d).outcome ≡ Ok d2
    → Leads (limited_form d then (λ d2. factorials_left l m d w f)) (factorials_left l m d2 w f)
third_limited w f l m d d2 e = limited_leads d d2 (λ d. factorials_left l m d w f) e

-- the factorials of the first form, and of the second
abbrev pub below_left : LinearForm → LinearForm → ℤ → ProperTerm → TermSteps ProperTerm
below_left m d w g = with_factorial m (neg_ℤ w) g then (λ h. with_factorial d (neg_ℤ w) h)

pub above_leads : (w : ℤ) (f g : ProperTerm) (l m d : LinearForm) → (with_factorial l w f).outcome ≡ Ok g
    → Leads (factorials_left l m d w f) (below_left m d w g)
above_leads w f g l m d e = leads (with_factorial l w f) (below_left m d w) g e

pub below_leads : (w : ℤ) (g h : ProperTerm) (m d : LinearForm) → (with_factorial m (neg_ℤ w) g).outcome ≡ Ok h
    → Leads (below_left m d w g) (with_factorial d (neg_ℤ w) h)
below_leads w g h m d e = leads (with_factorial m (neg_ℤ w) g) (λ h. with_factorial d (neg_ℤ w) h) h e
