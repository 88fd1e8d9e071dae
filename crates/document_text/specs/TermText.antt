-- How linear forms, lists of factors and proper terms are spelled.
use Rattle.std.specs.Prelude.{ℕ, if◌then◌else◌, nat_eq, codes, List, [], map}
use Rattle.std.specs.Fmt.{decimal, signed_decimal}
use Rattle.hypergeometric.specs.LinearForm.{LinearForm, Factor, FactorList}
use Rattle.hypergeometric.specs.ProperTerm.{ProperTerm}
use Rattle.exact_texts.specs.Texts.{◌⧺◌, items_text}
use Rattle.document_text.specs.Spelling.{fraction_text, monomial_before, monomials_text, polynomial_text}

-- a form is spelled as the polynomial that it is
unfoldable pub form_text : LinearForm → List ℕ
form_text f = monomials_text (monomial_before f.k_slope 0 1 (monomial_before f.n_slope 1 0 (monomial_before f.offset 0 0 [])))

-- ` x` and the power where it isn't 1
abbrev pub times_text : ℕ → List ℕ
times_text power = if nat_eq power 1 then [] else codes " x" ⧺ decimal power

-- a form, and ` x` and the power where it isn't 1
abbrev pub factor_text : Factor → List ℕ
factor_text x = form_text x.form ⧺ times_text x.power

-- the factors with commas between them, and `-` where there are none
abbrev pub factors_text : List Factor → List ℕ
factors_text xs = items_text (map factor_text xs)

-- the scale and the factors
abbrev pub factor_list_text : FactorList → List ℕ
factor_list_text l = signed_decimal l.scale ⧺ codes "; " ⧺ factors_text l.factors

-- a proper term by its eight fields, each behind its word
abbrev pub proper_term_text : ProperTerm → List ℕ
proper_term_text t = codes "poly " ⧺ polynomial_text t.poly ⧺ codes "; scale " ⧺ fraction_text t.scale
    ⧺ codes "; nbase " ⧺ fraction_text t.n_base ⧺ codes "; kbase " ⧺ fraction_text t.k_base
    ⧺ codes "; up " ⧺ factors_text t.up ⧺ codes "; down " ⧺ factors_text t.down
    ⧺ codes "; over " ⧺ factors_text t.over ⧺ codes "; guard " ⧺ factors_text t.guard
