-- The text of a list of factors tells the list.
-- These are lemmas: they stand here, and not in proofs/, since the spellings of lists name them.
use Rattle.std.specs.Prelude.{◌≡◌, pos, unsigned_abs, codes, List, [], ◌∷◌, map}
use Rattle.std.specs.List.{AllByRecursion}
use Rattle.std.proofs.Common.{refl, ap, sym, ◌∙◌, arith, lit<}
use Rattle.hypergeometric.specs.LinearForm.{Factor, FactorList}
use Rattle.hypergeometric.specs.FormOrder.{IsFactor}
use Rattle.document_text.specs.WellFormed.{IsFactorList}
use Rattle.exact_texts.specs.Lines.{AreWithinLine}
use Rattle.exact_texts.specs.Numbers.{whole_numbers}
use Rattle.exact_texts.specs.Powered.{powered}
use Rattle.exact_texts.proofs.Besides.{beside_within_line}
use Rattle.exact_texts.proofs.Numerals.{wholes_within_line, wholes_are_items}
use Rattle.exact_texts.proofs.Joined.{items_within_line}
use Rattle.exact_texts.proofs.PoweredItems.{powered_within_line, powered_are_items}
use Rattle.exact_texts.proofs.Seen.{seen_within_line}
use Rattle.form_lines.specs.Forms.{forms}
use Rattle.form_lines.specs.FormLaws.{forms_within_line, forms_are_items, forms_spaceless}
use Rattle.form_lines.specs.Factors.{parts_of_factor, factor_items, factors, primitive_factors, scaled_parts, parts_of_list, factor_lists}

-- the text of forms with powers stands in one line and tells the forms and their powers
pub factor_items_within_line : AreWithinLine factor_items
factor_items_within_line = items_within_line (powered forms) (powered_within_line forms forms_spaceless forms_within_line)
    (powered_are_items forms forms_spaceless forms_within_line forms_are_items)

-- factors, each within bounds, have a text as forms with powers
pub each_has : (xs : List Factor) → AllByRecursion IsFactor xs → factor_items.Has (map parts_of_factor xs)
each_has [] p = tt
each_has (x ∷ xs) p = ((p.0.form, (p.0.some, p.0.few)), each_has xs p.1)

-- the forms and powers of a list of factors tell the factors
pub factors_told : (xs ys : List Factor) → map parts_of_factor xs ≡ map parts_of_factor ys → xs ≡ ys
factors_told [] [] e = refl
factors_told [] (y ∷ ys) e = cc
factors_told (x ∷ xs) [] e = cc
factors_told (x ∷ xs) (y ∷ ys) e =
    let head : parts_of_factor x ≡ parts_of_factor y = cc in
    let tail : map parts_of_factor xs ≡ map parts_of_factor ys = cc in
    let rest = factors_told xs ys tail in
    λ i. record { form = (head i).0; power = (head i).1 } ∷ rest i

-- lists of one scale and one text
one_list : (l m : FactorList) → l.scale ≡ m.scale → map parts_of_factor l.factors ≡ map parts_of_factor m.factors → l ≡ m
one_list l m s e =
    let same = factors_told l.factors m.factors e in
    λ i. record { scale = s i; factors = same i }

-- the text of a list of scale 1 in any order stands in one line and tells the list
pub factors_within_line : AreWithinLine factors
factors_within_line = seen_within_line factor_items factors (λ l. map parts_of_factor l.factors) (λ l p. each_has l.factors p.1.each) (λ l. refl)
    (record { scale = pos 1; factors = [] }) (refl, record { each = tt; distinct = tt })
    (λ l m p q e. one_list l m (p.0 ∙ sym q.0) e) factor_items_within_line

-- the text of a list of primitive forms in their order, of scale 1, stands in one line and tells the list
pub primitive_within_line : AreWithinLine primitive_factors
primitive_within_line = seen_within_line factor_items primitive_factors (λ l. map parts_of_factor l.factors) (λ l p. each_has l.factors p.1.each)
    (λ l. refl) (record { scale = pos 1; factors = [] }) (refl, record { each = tt; primitive = tt; sorted = tt })
    (λ l m p q e. one_list l m (p.0 ∙ sym q.0) e) factor_items_within_line

scaled_within_line : AreWithinLine scaled_parts
scaled_within_line = beside_within_line whole_numbers 59 (codes " ") primitive_factors wholes_are_items.semicolons refl wholes_within_line
    primitive_within_line

-- a list with a scale within bounds has a text as a scale and a list of scale 1
pub list_has : (l : FactorList) → IsFactorList l → scaled_parts.Has (parts_of_list l)
list_has l p = (p.scale, (refl, p.factors))

list_told : (l m : FactorList) → parts_of_list l ≡ parts_of_list m → l ≡ m
list_told l m e = λ i. record { scale = (e i).0; factors = (e i).1.factors }

-- the text of a list with a scale stands in one line and tells the list
pub lists_within_line : AreWithinLine factor_lists
lists_within_line = seen_within_line scaled_parts factor_lists parts_of_list list_has (λ l. refl) (record { scale = pos 1; factors = [] })
    (record { scale = lit< tt; not_zero = λ e. omega (arith, ap unsigned_abs e); factors = record { each = tt; primitive = tt; sorted = tt } })
    (λ l m p q. list_told l m) scaled_within_line
