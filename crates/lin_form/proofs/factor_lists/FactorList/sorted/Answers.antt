use Rattle.std.specs.Prelude.{◌≡◌}
use Rattle.std.specs.List.Sorted.{IsPermutation}
use Rattle.std.proofs.Common.{refl, subst, sym, ◌∙◌}
use Rattle.lin_form.proofs.SortedLists.{sorted_factors, factors_keep, same_factors, cloned, on_success}
use Rattle.lin_form.proofs.factor_lists.FactorList.sorted.Goals as goal

-- the clone has the same entries, and the sort only moves them
pub returns-clause-same : goal.returns-clause-same
returns-clause-same c =
    let entries : c.in-Ok.powers.entries ≡ c.args.self.now.powers.entries = cloned _ _ c.in-Ok.ensures.cases in
    same_factors _ _ (subst (λ es. IsPermutation es c.sort_keys.new.self.entries) entries c.sort_keys.ensures.reordered.0)

-- no key stands twice, and no key is less than the one before it
pub returns-clause-sorted : goal.returns-clause-sorted
returns-clause-sorted c =
    sorted_factors _ (λ x y. refl) _ (λ x y. refl) c.sort_keys.new.self.entries
    (on_success c.sort_keys.result (sym c.is_err.ensures.value ∙ c.if-is_err.false) c.sort_keys.ensures.sorted) c.sort_keys.ensures.unique

pub invariant_of-result : goal.invariant_of-result
invariant_of-result c =
    let entries : c.in-Ok.powers.entries ≡ c.args.self.now.powers.entries = cloned _ _ c.in-Ok.ensures.cases in
    record {
      factors = factors_keep _ (λ x y. refl) c.args.self.now.powers.entries c.sort_keys.new.self.entries
          (subst (λ es. IsPermutation es c.sort_keys.new.self.entries) entries c.sort_keys.ensures.reordered.0) c.sort_keys.ensures.unique
          c.args.self.now.factors;
    }
