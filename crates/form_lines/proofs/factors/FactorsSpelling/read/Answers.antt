use Rattle.std.specs.Option.{MatchOption}
use Rattle.std.proofs.Common.{◌≡◌, ◌∙◌, map, ap, subst}
use Rattle.lin_form.specs.FactorLists.{factors_of}
use Rattle.lin_form.specs.ListOf.{list_of}
use Rattle.form_lines.specs.Factors.{parts_of_factor}
use Rattle.form_lines.specs.FactorLaws.{each_has}
use Rattle.form_lines.specs.FormLaws.{forms_spaceless}
use Rattle.form_lines.proofs.FactorSteps.{item_parts, factors_read, found_list}
use Rattle.form_lines.proofs.factors.FactorsSpelling.read.Goals as goal

pub invariant_of-read : goal.invariant_of-read
invariant_of-read c = record { spaceless = forms_spaceless }

-- no items
pub returns-in_default-clause-read : goal.returns-in_default-clause-read
returns-in_default-clause-read c = λ v has e.
    subst (λ found. MatchOption found ⊥ (λ x. map item_parts x.items ≡ map parts_of_factor v.factors)) c.in_default.is
    (c.in_ok-items.ensures.read (map parts_of_factor v.factors) (each_has v.factors has.1.each) e)

-- the list of the items
pub returns-clause-read : goal.returns-clause-read
returns-clause-read c = λ v has e.
    let told : map item_parts c.in-Some.items.items ≡ map parts_of_factor v.factors =
    subst (λ found. MatchOption found ⊥ (λ x. map item_parts x.items ≡ map parts_of_factor v.factors)) c.in-Some.is
    (c.in_ok-items.ensures.read (map parts_of_factor v.factors) (each_has v.factors has.1.each) e) in
    found_list list_of c.collect_factors.result (factors_of c.deref.result.now) v
    (ap factors_of c.deref.ensures.value ∙ factors_read c.in-Some.items.items v.factors told) has.0 has.1 c.collect_factors.ensures
