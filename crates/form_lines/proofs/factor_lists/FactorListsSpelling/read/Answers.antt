use Rattle.std.specs.Prelude.{IfSome}
use Rattle.std.specs.Option.{MatchOption}
use Rattle.std.proofs.Common.{◌≡◌, subst}
use Rattle.exact_texts.proofs.Numerals.{wholes_are_items}
use Rattle.lin_form.specs.ListOf.{list_of}
use Rattle.form_lines.specs.Factors.{scaled_parts, parts_of_list}
use Rattle.form_lines.specs.FactorLaws.{list_has}
use Rattle.form_lines.proofs.ListSteps.{found_scaled, scaled_has}
use Rattle.form_lines.proofs.factor_lists.FactorListsSpelling.read.Goals as goal

pub invariant_of-read : goal.invariant_of-read
invariant_of-read c = record { without = wholes_are_items.semicolons }

-- no scale and list
pub returns-in_default-clause-read : goal.returns-in_default-clause-read
returns-in_default-clause-read c = λ v has e.
    subst (λ found. MatchOption found ⊥ (λ x. (x.0.value, list_of x.1) ≡ parts_of_list v)) c.in_default.is
    (c.in_ok-scale.ensures.read (parts_of_list v) (list_has v has) e)

-- those of the list
pub returns-clause-read : goal.returns-clause-read
returns-clause-read c = λ v has e.
    let told : (c.in-Some.scale.value, list_of c.in-Some.list) ≡ parts_of_list v =
    subst (λ found. MatchOption found ⊥ (λ x. (x.0.value, list_of x.1) ≡ parts_of_list v)) c.in-Some.is
    (c.in_ok-scale.ensures.read (parts_of_list v) (list_has v has) e) in
    found_scaled list_of c.in-Some.scale.value (list_of c.in-Some.list) c.with_scale.result v told has.not_zero c.with_scale.ensures

-- they have a text
pub returns-clause-has : goal.returns-clause-has
returns-clause-has c =
    scaled_has list_of c.in-Some.scale.value (list_of c.in-Some.list) c.with_scale.result
    (subst (λ found. IfSome found (λ x. scaled_parts.Has (x.0.value, list_of x.1))) c.in-Some.is c.in_ok-scale.ensures.has) c.with_scale.ensures
