-- The class of a tree is a plain term, where its numbers are in bounds.
use Rattle.std.proofs.Common.{◌≡◌, ◌≢◌, ◌+◌, ◌-◌, ◌*◌, ◌≤◌, List, arith, subst}
use Rattle.std.proofs.lemmas.Int.{ints}
use Rattle.std.proofs.lemmas.Nat.Gcd.{dvd_antisymm}
use Rattle.std.proofs.Math.Nat.{one-dvd}
use Rattle.std.specs.Prelude.{ℤ, pos, negsuc, Ok}
use Rattle.std.specs.List.{AllByRecursion}
use Rattle.steps.specs.Steps.{gives, ◌then◌}
use Rattle.steps.proofs.StepLaws.{then_gave, same_Ok}
use Rattle.hypergeometric.specs.Fraction.{of_whole}
use Rattle.hypergeometric.specs.LinearForm.{LinearForm, Factor}
use Rattle.hypergeometric.specs.FormOrder.{NoFormTwice}
use Rattle.hypergeometric.specs.ProperTerm.{ProperTerm}
use Rattle.hypergeometric.specs.TermFacts.{IsWithinLimits, IsProper, IsPlain, total_power}
use Rattle.hypergeometric.specs.FactorLists.{power_of, in_both, without}
use Rattle.hypergeometric.proofs.FractionLaws.{one_not_zero}
use Rattle.hypergeometric.proofs.ReducedFractions.{IsReduced, reduced_lowest}
use Rattle.hypergeometric.proofs.SharedForms.{own_powers, both_forms, both_distinct, both_in_first, both_in_second, both_below_first, both_below_second, without_forms, without_distinct}
use Rattle.hypergeometric.proofs.SharedTotals.{total_parts}
use Rattle.hypergeometric.proofs.LeftLists.{without_each, both_each, both_power, left_powers, each_pair}
use Rattle.grammar.specs.Tree.{Tree}
use Rattle.term_classes.specs.Walk.{unit_term, cancelled, walk, class_of, class_of_quotient}
use Rattle.term_classes.specs.ClassBounds.{IsTermInBounds}
use Rattle.term_classes.proofs.PassingPolynomials.{unit_belongs, unit_not_nought}
use Rattle.term_classes.proofs.CancelledValues.{at_most_own}
use Rattle.term_classes.proofs.WalkKeeps.{walk_keeps}
use Rattle.term_classes.proofs.WalkValues.{minus_one_not_zero}
use Rattle.term_classes.proofs.GatheredLists.{HasLists, lists_keep, list_some}
use Rattle.term_classes.proofs.ReducedFractions.{HasReduced, fractions_keep}
use Rattle.term_classes.proofs.NonzeroPolynomials.{HasPolynomial, polynomials_keep}
use Rattle.term_classes.proofs.PrimitiveDenominators.{HasPrimitive, denominators_keep}
use Rattle.term_classes.proofs.ClassesHaveValues.{unit_lists}

-- what a term gathers in a walk
pub record IsGathered (s : ProperTerm) : Type 0 where
  pub lists : HasLists s
  pub fractions : HasReduced s
  pub polynomial : HasPolynomial s
  pub denominators : HasPrimitive s

module _ (s : ProperTerm) (h : IsGathered s) where
  abbrev shared : List Factor
  shared = in_both s.up s.down

  up_distinct : NoFormTwice s.up
  up_distinct = h.lists.up.factors.distinct

  down_distinct : NoFormTwice s.down
  down_distinct = h.lists.down.factors.distinct

  -- no form is left in both lists
  none_shared : AllByRecursion (λ x. AllByRecursion (λ y. y.form ≢ x.form) (without s.down shared)) (without s.up shared)
  none_shared = each_pair (λ x. 1 ≤ power_of x.form s.up - power_of x.form shared) (λ y. 1 ≤ power_of y.form s.down - power_of y.form shared)
      (λ x y. y.form ≢ x.form)
      (λ x y p q e. both x.form p (subst (λ f. 1 ≤ power_of f s.down - power_of f shared) e q)) (without s.up shared) (without s.down shared)
      (left_powers s.up s.up shared (own_powers s.up up_distinct)) (left_powers s.down s.down shared (own_powers s.down down_distinct))
    where
      both : (f : LinearForm) → 1 ≤ power_of f s.up - power_of f shared → 1 ≤ power_of f s.down - power_of f shared → ⊥
      both f p q = omega (arith, p, q, both_power f s.up s.down up_distinct)

  few_left : total_power (without s.up shared) + total_power (without s.down shared) + total_power s.over + 2 * total_power shared ≤ 24
  few_left =
      let distinct : NoFormTwice shared = both_distinct s.up s.down up_distinct in
      let up = total_parts s.up shared up_distinct distinct (both_in_first s.up s.down (list_some s.up h.lists.up))
      (at_most_own s.up shared up_distinct (λ f. both_below_first f s.up s.down up_distinct)) in
      let down = total_parts s.down shared down_distinct distinct (both_in_second s.up s.down)
      (at_most_own s.down shared down_distinct (λ f. both_below_second f s.up s.down)) in
      omega (arith, up, down, h.lists.few)

  cancelled_proper : IsTermInBounds s → IsProper (cancelled s)
  cancelled_proper bounds = record {
    poly = record { passes = h.polynomial.belongs; fits = bounds.poly };
    poly_not_zero = h.polynomial.not_zero;
    scale = reduced_lowest s.scale h.fractions.scale bounds.scale.top bounds.scale.bottom;
    n_base = reduced_lowest s.n_base h.fractions.n_base bounds.n_base.top bounds.n_base.bottom;
    k_base = reduced_lowest s.k_base h.fractions.k_base bounds.k_base.top bounds.k_base.bottom;
    up = record { each = without_each s.up shared h.lists.up.factors.each; distinct = without_distinct s.up shared up_distinct };
    down = record { each = without_each s.down shared h.lists.down.factors.each; distinct = without_distinct s.down shared down_distinct };
    over = h.lists.over.factors;
    over_primitive = h.denominators.over;
    guard = record { each = both_each s.up s.down h.lists.up.factors.each; distinct = both_distinct s.up s.down up_distinct };
  }

  pub cancelled_plain : IsTermInBounds s → IsPlain (cancelled s)
  cancelled_plain bounds = record {
    proper = cancelled_proper bounds;
    cancelled = none_shared;
    up = without_forms IsWithinLimits s.up shared h.lists.up.limits;
    down = without_forms IsWithinLimits s.down shared h.lists.down.limits;
    over = h.lists.over.limits;
    guard = both_forms IsWithinLimits s.up s.down h.lists.up.limits;
    few = few_left;
  }

pub gathered_keeps : (t : Tree) (w : ℤ) (s s' : ProperTerm) → w ≢ pos 0 → IsGathered s → (walk t w s).outcome ≡ Ok s' → IsGathered s'
gathered_keeps t w s s' n h e = record {
  lists = walk_keeps HasLists lists_keep t w s s' n h.lists e;
  fractions = walk_keeps HasReduced fractions_keep t w s s' n h.fractions e;
  polynomial = walk_keeps HasPolynomial polynomials_keep t w s s' n h.polynomial e;
  denominators = walk_keeps HasPrimitive denominators_keep t w s s' n h.denominators e;
}

one_reduced : IsReduced (of_whole (pos 1))
one_reduced = record { not_zero = one_not_zero; positive = omega (arith, ints); coprime = λ d p q. dvd_antisymm p (one-dvd d) }

pub unit_gathered : IsGathered unit_term
unit_gathered = record {
  lists = unit_lists;
  fractions = record { scale = one_reduced; n_base = one_reduced; k_base = one_reduced };
  polynomial = record { belongs = unit_belongs; not_zero = unit_not_nought };
  denominators = record { over = tt };
}

-- the gathered term is in bounds where the cancelled one is
plain_in_bounds : (s f : ProperTerm) → IsGathered s → cancelled s ≡ f → IsTermInBounds f → IsPlain f
plain_in_bounds s f h e = subst (λ f. IsTermInBounds f → IsPlain f) e
    (λ bounds. cancelled_plain s h (record { poly = bounds.poly; scale = bounds.scale; n_base = bounds.n_base; k_base = bounds.k_base }))

pub class_is_plain : (t : Tree) (f : ProperTerm) → (class_of t).outcome ≡ Ok f → IsTermInBounds f → IsPlain f
class_is_plain t f e =
    let g = then_gave (walk t (pos 1) unit_term) (λ f. gives (cancelled f)) f e in
    plain_in_bounds g.value f (gathered_keeps t (pos 1) unit_term g.value one_not_zero unit_gathered g.first) (same_Ok (cancelled g.value) f g.second)

pub class_of_quotient_is_plain : (a b : Tree) (f : ProperTerm) → (class_of_quotient a b).outcome ≡ Ok f → IsTermInBounds f → IsPlain f
class_of_quotient_is_plain a b f e =
    let g = then_gave (walk a (pos 1) unit_term) (λ f. walk b (negsuc 0) f then (λ g. gives (cancelled g))) f e in
    let h = then_gave (walk b (negsuc 0) g.value) (λ g. gives (cancelled g)) f g.second in
    plain_in_bounds h.value f (gathered_keeps b (negsuc 0) g.value h.value minus_one_not_zero
    (gathered_keeps a (pos 1) unit_term g.value one_not_zero unit_gathered g.first) h.first) (same_Ok (cancelled h.value) f h.second)
