use Rattle.std.specs.Prelude.{string_bytes}
use Rattle.std.specs.Result.{OnOk}
use Rattle.std.proofs.Common.{◌≡◌, ◌++◌, ◌∙◌, map, ap, sym, subst, append-nil}
use Rattle.lin_form.specs.FactorLists.{factors_of}
use Rattle.lin_form.specs.ListOf.{list_of}
use Rattle.form_lines.specs.Factors.{parts_of_factor, factor_items}
use Rattle.form_lines.specs.FactorLaws.{each_has}
use Rattle.form_lines.specs.FormLaws.{forms_spaceless}
use Rattle.form_lines.proofs.FactorSteps.{items_parts}
use Rattle.form_lines.proofs.factors.write_factors.Goals as goal

pub invariant_of-write : goal.invariant_of-write
invariant_of-write c = record { spaceless = forms_spaceless }

-- the items are those of the list
pub write-requires : goal.write-requires
write-requires c =
    let es = c.loop-item.items.items in
    let whole : factors_of es ≡ (list_of c.args.list.now).factors =
    sym (append-nil (factors_of es)) ∙ ap (λ t. factors_of es ++ t) (sym c.in-None.ensures.steps.0) ∙ c.loop-item.invariant in
    subst factor_items.Has (sym (items_parts es ∙ ap (map parts_of_factor) whole)) (each_has (list_of c.args.list.now).factors c.args.list.now.factors.each)

pub returns : goal.returns
returns c =
    let es = c.loop-item.items.items in
    let whole : factors_of es ≡ (list_of c.args.list.now).factors =
    sym (append-nil (factors_of es)) ∙ ap (λ t. factors_of es ++ t) (sym c.in-None.ensures.steps.0) ∙ c.loop-item.invariant in
    subst (λ ps. OnOk c.write.result (string_bytes c.write.new.text ≡ string_bytes c.args.text.now ++ factor_items.text ps))
    (items_parts es ∙ ap (map parts_of_factor) whole) c.write.ensures
