-- The text of a list of factors determines it.
use Rattle.std.specs.Prelude.{◌≡◌, ℕ, codes, List, [], drop}
use Rattle.std.specs.List.{AllByRecursion}
use Rattle.std.specs.Fmt.{signed_decimal}
use Rattle.std.proofs.Common.{refl, ap}
use Rattle.hypergeometric.specs.LinearForm.{FactorList}
use Rattle.exact_texts.specs.Texts.{◌⧺◌, Only}
use Rattle.document_text.specs.TermText.{factor_text, factors_text, factor_list_text}
use Rattle.hypergeometric.specs.FormOrder.{IsFactor}
use Rattle.hypergeometric.specs.TermFacts.{IsNumber}
use Rattle.document_text.specs.WellFormed.{IsFactorList}
use Rattle.exact_texts.proofs.Cuts.{among, only_append, only_more}
use Rattle.exact_texts.proofs.Numerals.{signed_bytes, only_signed_decimal, signed_decimal_determines}
use Rattle.document_text.proofs.Forms.{item_bytes, only_factor, factor_determines, factor_no_minus}
use Rattle.document_text.proofs.Spells.{Spells, spells_more, spelled_behind}
use Rattle.document_text.proofs.Items.{items_determine, only_items}

-- a factor, and a list of factors
pub factor_spells : Spells (among item_bytes) IsFactor factor_text
factor_spells = record { only = only_factor; determines = factor_determines }

-- the bytes of lists of factors, of fractions and of polynomials
abbrev pub field_bytes : List ℕ
field_bytes = codes "0123456789*^nk+-/ xby,"

pub factors_spell : Spells (among field_bytes) (AllByRecursion IsFactor) factors_text
factors_spell = record {
  only = λ xs p. only_items (spells_more item_bytes (among field_bytes) refl factor_spells) xs refl refl p;
  determines = items_determine factor_spells refl refl factor_no_minus;
}

signed_spells : Spells (among signed_bytes) IsNumber signed_decimal
signed_spells = record { only = only_signed_decimal; determines = signed_decimal_determines }

-- the bytes of lists with a scale, of terms and of lists of polynomials
abbrev pub list_bytes : List ℕ
list_bytes = codes "0123456789*^nk+-/ xby,;"

-- a scale with a list of factors
only_factor_list : (l : FactorList) → IsFactorList l → Only (among list_bytes) (factor_list_text l)
only_factor_list l p = only_append (among list_bytes) (signed_decimal l.scale) (codes "; " ⧺ factors_text l.factors)
    (only_more signed_bytes (among list_bytes) (signed_decimal l.scale) refl (only_signed_decimal l.scale p.scale))
    (only_more field_bytes (among list_bytes) (factors_text l.factors) refl (factors_spell.only l.factors p.factors.each))

factor_list_determines : (l m : FactorList) → IsFactorList l → IsFactorList m → factor_list_text l ≡ factor_list_text m → l ≡ m
factor_list_determines l m p q e =
    let parts = spelled_behind signed_spells [] l.scale m.scale
    (codes "; " ⧺ factors_text l.factors) (codes "; " ⧺ factors_text m.factors) p.scale q.scale refl refl e in
    let scale = parts.0 in
    let factors = factors_spell.determines l.factors m.factors p.factors.each q.factors.each (ap (drop 2) parts.1) in
    λ i. record { scale = scale i; factors = factors i }

pub factor_list_spells : Spells (among list_bytes) IsFactorList factor_list_text
factor_list_spells = record { only = only_factor_list; determines = factor_list_determines }
