-- A line of a document determines what it spells.
use Rattle.std.specs.Prelude.{◌≡◌, ℕ, ◌^◌, ◌<◌, List, [], ◌∷◌, ◌++◌, drop}
use Rattle.std.specs.List.{AllByRecursion}
use Rattle.std.specs.Fmt.{decimal}
use Rattle.std.proofs.Common.{refl, ap, sym, ◌∙◌, append_assoc}
use Rattle.hypergeometric.specs.FormOrder.{IsFactor}
use Rattle.hypergeometric.specs.TermFacts.{IsProper, IsPolynomial}
use Rattle.exact_texts.specs.Texts.{line}
use Rattle.document_text.specs.Spelling.{polynomial_text}
use Rattle.document_text.specs.TermText.{factors_text, factor_list_text, proper_term_text}
use Rattle.document_text.specs.Document.{range_text}
use Rattle.document_text.specs.WellFormed.{IsFactorList, IsMatch, IsRange}
use Rattle.exact_texts.proofs.Cuts.{among}
use Rattle.exact_texts.proofs.Numerals.{digit_bytes, only_decimal, decimal_determines}
use Rattle.document_text.proofs.MonomialBytes.{polynomial_bytes}
use Rattle.document_text.proofs.Spells.{Spells, spells_more, spelled_behind}
use Rattle.document_text.proofs.Factors.{field_bytes, list_bytes, factors_spell, factor_list_spells}
use Rattle.document_text.proofs.Terms.{line_bytes, polynomial_spells, proper_term_spells}
use Rattle.document_text.proofs.ClaimParts.{matches_text, matches_spell, range_bytes, range_spells, AreMultipliers, multipliers_text, multipliers_spell}

abbrev pub IsOrder : ℕ → Type 0
IsOrder n = n < 2 ^ 127

order_spells : Spells (among digit_bytes) IsOrder decimal
order_spells = record { only = only_decimal; determines = decimal_determines }

-- a line in front of others is its word, its text, and a newline in front of them
line_more : (word xs r : List ℕ) → line word xs ++ r ≡ word ++ (xs ++ (10 ∷ r))
line_more word xs r = append_assoc word (xs ++ 10 ∷ []) r ∙ ap (λ t. word ++ t) (append_assoc xs (10 ∷ []) r)

-- A line determines what it spells, and what follows it.
abbrev pub DeterminesLine : {A : Type 0} → (A → Type 0) → (A → List ℕ) → Type 0
DeterminesLine {A} W text = (word : List ℕ) (x y : A) (r s : List ℕ) → W x → W y
    → line word (text x) ++ r ≡ line word (text y) ++ s → (x ≡ y) × (r ≡ s)

pub spelled_line : {A : Type 0} {W : A → Type 0} {text : A → List ℕ} → Spells line_bytes W text → DeterminesLine W text
spelled_line {text = text} spells word x y r s p q e =
    let parts = spelled_behind spells word x y (10 ∷ r) (10 ∷ s) p q refl refl (sym (line_more word (text x) r) ∙ e ∙ line_more word (text y) s) in
    (parts.0, ap (drop 1) parts.1)

-- the lines of a document, by what they spell
pub order_line : DeterminesLine IsOrder decimal
order_line = spelled_line (spells_more digit_bytes line_bytes refl order_spells)

pub matches_line : DeterminesLine (AllByRecursion IsMatch) matches_text
matches_line = spelled_line (spells_more field_bytes line_bytes refl matches_spell)

pub list_line : DeterminesLine IsFactorList factor_list_text
list_line = spelled_line (spells_more list_bytes line_bytes refl factor_list_spells)

pub multipliers_line : DeterminesLine AreMultipliers multipliers_text
multipliers_line = spelled_line (spells_more list_bytes line_bytes refl multipliers_spell)

pub term_line : DeterminesLine IsProper proper_term_text
term_line = spelled_line proper_term_spells

pub polynomial_line : DeterminesLine (IsPolynomial 2) polynomial_text
polynomial_line = spelled_line (spells_more polynomial_bytes line_bytes refl polynomial_spells)

pub factors_line : DeterminesLine (AllByRecursion IsFactor) factors_text
factors_line = spelled_line (spells_more field_bytes line_bytes refl factors_spell)

pub range_line : DeterminesLine IsRange range_text
range_line = spelled_line (spells_more range_bytes line_bytes refl range_spells)
