-- The formats of terms: `poly P; scale F; nbase F; kbase F; up ITEMS; down ITEMS; over ITEMS; guard ITEMS`.
use Rattle.std.specs.Prelude.{codes, List, ℕ}
use Rattle.hypergeometric.specs.ProperTerm.{ProperTerm}
use Rattle.hypergeometric.specs.TermFacts.{IsProper, IsPlain}
use Rattle.exact_texts.specs.Formats.{Format}
use Rattle.exact_texts.specs.Beside.{beside, worded}
use Rattle.polynomial_sums.specs.PolynomialSums.{polynomials, in_n_k}
use Rattle.number_lines.specs.Fractions.{nonzero_fractions}
use Rattle.form_lines.specs.Factors.{factors}
use Rattle.documents.specs.WellFormed.{IsCarrierIn}
use Rattle.documents.specs.declared.documents.Version.{Version}
use Rattle.documents.specs.declared.documents.Version.TheVariants.{One}
use Rattle.term_lines.specs.Fields.{FormLists, ListParts, parts_of_lists, TermParts, parts_of_term}

-- the four lists behind their words
abbrev pub list_fields : Format ListParts
list_fields = beside (worded (codes "up ") factors) (codes "; ") (beside (worded (codes "down ") factors) (codes "; ")
    (beside (worded (codes "over ") factors) (codes "; ") (worded (codes "guard ") factors)))

-- the lists of a term, of scale 1, in any order and with no form twice
abbrev pub term_lists : Format FormLists
term_lists = record { Has = λ l. list_fields.Has (parts_of_lists l); text = λ l. list_fields.text (parts_of_lists l) }

-- the polynomial, the scale and the bases behind their words, and the lists
abbrev pub term_fields : Format TermParts
term_fields = beside (worded (codes "poly ") (polynomials in_n_k)) (codes "; ") (beside (worded (codes "scale ") nonzero_fractions) (codes "; ")
    (beside (worded (codes "nbase ") nonzero_fractions) (codes "; ") (beside (worded (codes "kbase ") nonzero_fractions) (codes "; ") term_lists)))

-- what every proper term keeps, by its fields
abbrev pub proper_terms : Format ProperTerm
proper_terms = record { Has = IsProper; text = λ t. term_fields.text (parts_of_term t) }

-- the text of a term in a version
abbrev pub term_text : Version → ProperTerm → List ℕ
term_text One t = proper_terms.text t

-- plain terms, of which a document may speak
abbrev pub terms : Version → Format ProperTerm
terms version = record { Has = IsPlain; text = term_text version }

-- carriers, which needn't be plain
abbrev pub carriers : Version → Format ProperTerm
carriers version = record { Has = IsCarrierIn version; text = term_text version }
