-- Loops over the items of a factor list: the items so far, and those that are left.
use Rattle.std.specs.Prelude.{◌≡◌, ℕ, List, [], ◌∷◌, ◌++◌}
use Rattle.std.specs.List.{AllByRecursion}
use Rattle.std.specs.Iterator.{Yields, YieldsFirstBy}
use Rattle.std.proofs.Common.{ap, refl, sym, ◌∙◌, subst}
use Rattle.hypergeometric.specs.LinearForm.{Factor}
use Rattle.hypergeometric.specs.FactorLists.{factor_with}
use Rattle.lin_form.specs.Forms.{form_of}
use Rattle.lin_form.specs.FactorLists.{factors_of}
use Rattle.lin_form.specs.declared.forms.LinForm.{LinForm}

-- from a list on, an iterator gave these items and has the rest left
abbrev pub HasGiven : List Factor → List (LinForm × ℕ) → List Factor → Type 0
HasGiven = Yields (YieldsFirstBy (λ item. factor_with (form_of item.0) item.1) (λ rest. rest))

-- the items so far, followed by those that are left, are the list
pub given_and_left : (all : List Factor) (given : List (LinForm × ℕ)) (left : List Factor) → HasGiven all given left → all ≡ factors_of given ++ left
given_and_left all [] left h = h
given_and_left all (item ∷ given) left h =
    let next : all ≡ factor_with (form_of item.0) item.1 ∷ h.0 = h.1 in
    next ∙ ap (λ xs. factor_with (form_of item.0) item.1 ∷ xs) (given_and_left h.0 given left h.2)

-- what holds of each item of the list holds of the next one
pub next_item : (P : Factor → Type 0) (xs all : List Factor) (given : List (LinForm × ℕ)) (left : List Factor) (x : Factor) (rest : List Factor)
    → all ≡ xs → HasGiven all given left → left ≡ x ∷ rest → AllByRecursion P xs → P x
next_item P xs all [] left x rest e h here each = (subst (AllByRecursion P) (sym e ∙ h ∙ here) each).0
next_item P xs all (item ∷ given) left x rest e h here each =
    let next : all ≡ factor_with (form_of item.0) item.1 ∷ h.0 = h.1 in
    next_item P h.0 h.0 given left x rest refl h.2 here (subst (AllByRecursion P) (sym e ∙ next) each).1
