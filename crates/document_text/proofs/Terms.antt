-- The text of a proper term determines it.
use Rattle.std.specs.Prelude.{◌≡◌, ℕ, Bool, codes, List, drop}
use Rattle.std.specs.List.{AllByRecursion}
use Rattle.std.proofs.Common.{refl, ap}
use Rattle.hypergeometric.specs.ProperTerm.{ProperTerm}
use Rattle.exact_texts.specs.Texts.{◌⧺◌, other_than, Only}
use Rattle.document_text.specs.Spelling.{fraction_text, polynomial_text}
use Rattle.document_text.specs.TermText.{factors_text, proper_term_text}
use Rattle.hypergeometric.specs.FormOrder.{IsFactor}
use Rattle.hypergeometric.specs.TermFacts.{IsProper, IsLowest, IsPolynomial}
use Rattle.exact_texts.proofs.Cuts.{among, only_append}
use Rattle.document_text.proofs.Numerals.{fraction_bytes, only_fraction, fraction_determines}
use Rattle.document_text.proofs.MonomialBytes.{polynomial_bytes}
use Rattle.document_text.proofs.Polynomials.{only_polynomial, polynomial_determines}
use Rattle.document_text.proofs.Spells.{Spells, DeterminesBehind, spells_more, spelled_behind}
use Rattle.document_text.proofs.Factors.{field_bytes, factors_spell}

-- the fields of a term, each determined by its text
pub polynomial_spells : Spells (among polynomial_bytes) (IsPolynomial 2) polynomial_text
polynomial_spells = record { only = only_polynomial; determines = polynomial_determines }

pub fraction_spells : Spells (among fraction_bytes) IsLowest fraction_text
fraction_spells = record { only = only_fraction; determines = fraction_determines }

-- the fields of a term from one on
abbrev from_guard : ProperTerm → List ℕ
from_guard t = codes "; guard " ⧺ factors_text t.guard

abbrev from_over : ProperTerm → List ℕ
from_over t = codes "; over " ⧺ factors_text t.over ⧺ from_guard t

abbrev from_down : ProperTerm → List ℕ
from_down t = codes "; down " ⧺ factors_text t.down ⧺ from_over t

abbrev from_up : ProperTerm → List ℕ
from_up t = codes "; up " ⧺ factors_text t.up ⧺ from_down t

abbrev from_k_base : ProperTerm → List ℕ
from_k_base t = codes "; kbase " ⧺ fraction_text t.k_base ⧺ from_up t

abbrev from_n_base : ProperTerm → List ℕ
from_n_base t = codes "; nbase " ⧺ fraction_text t.n_base ⧺ from_k_base t

abbrev from_scale : ProperTerm → List ℕ
from_scale t = codes "; scale " ⧺ fraction_text t.scale ⧺ from_n_base t

-- a polynomial, a fraction or a list of factors between a word and what begins with a semicolon
polynomial_field : DeterminesBehind (among field_bytes) (IsPolynomial 2) polynomial_text
polynomial_field = spelled_behind (spells_more polynomial_bytes (among field_bytes) refl polynomial_spells)

fraction_field : DeterminesBehind (among field_bytes) IsLowest fraction_text
fraction_field = spelled_behind (spells_more fraction_bytes (among field_bytes) refl fraction_spells)

factors_field : DeterminesBehind (among field_bytes) (AllByRecursion IsFactor) factors_text
factors_field = spelled_behind factors_spell

-- so the text of the whole term determines it
proper_term_determines : (t u : ProperTerm) → IsProper t → IsProper u → proper_term_text t ≡ proper_term_text u → t ≡ u
proper_term_determines t u p q e =
    let a = polynomial_field (codes "poly ") t.poly u.poly (from_scale t) (from_scale u) p.poly q.poly refl refl e in
    let b = fraction_field (codes "; scale ") t.scale u.scale (from_n_base t) (from_n_base u) p.scale q.scale refl refl a.1 in
    let c = fraction_field (codes "; nbase ") t.n_base u.n_base (from_k_base t) (from_k_base u) p.n_base q.n_base refl refl b.1 in
    let d = fraction_field (codes "; kbase ") t.k_base u.k_base (from_up t) (from_up u) p.k_base q.k_base refl refl c.1 in
    let f = factors_field (codes "; up ") t.up u.up (from_down t) (from_down u) p.up.each q.up.each refl refl d.1 in
    let g = factors_field (codes "; down ") t.down u.down (from_over t) (from_over u) p.down.each q.down.each refl refl f.1 in
    let h = factors_field (codes "; over ") t.over u.over (from_guard t) (from_guard u) p.over.each q.over.each refl refl g.1 in
    let guard = factors_spell.determines t.guard u.guard p.guard.each q.guard.each (ap (drop 8) h.1) in
    λ i. record { poly = a.0 i; scale = b.0 i; n_base = c.0 i; k_base = d.0 i; up = f.0 i; down = g.0 i; over = h.0 i; guard = guard i }

-- every byte but the newline
abbrev pub line_bytes : ℕ → Bool
line_bytes = other_than 10

-- a term stands in one line
only_proper_term : (t : ProperTerm) → IsProper t → Only line_bytes (proper_term_text t)
only_proper_term t p =
    let polynomial = (spells_more polynomial_bytes line_bytes refl polynomial_spells).only in
    let fraction = (spells_more fraction_bytes line_bytes refl fraction_spells).only in
    let factors = (spells_more field_bytes line_bytes refl factors_spell).only in
    only_append line_bytes (polynomial_text t.poly) (from_scale t) (polynomial t.poly p.poly)
    (only_append line_bytes (fraction_text t.scale) (from_n_base t) (fraction t.scale p.scale)
    (only_append line_bytes (fraction_text t.n_base) (from_k_base t) (fraction t.n_base p.n_base)
    (only_append line_bytes (fraction_text t.k_base) (from_up t) (fraction t.k_base p.k_base)
    (only_append line_bytes (factors_text t.up) (from_down t) (factors t.up p.up.each)
    (only_append line_bytes (factors_text t.down) (from_over t) (factors t.down p.down.each)
    (only_append line_bytes (factors_text t.over) (from_guard t) (factors t.over p.over.each)
    (factors t.guard p.guard.each)))))))

pub proper_term_spells : Spells line_bytes IsProper proper_term_text
proper_term_spells = record { only = only_proper_term; determines = proper_term_determines }
