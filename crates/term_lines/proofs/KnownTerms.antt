-- Texts of terms as known, and what has none.
use Rattle.std.specs.Prelude.{◌≡◌, pos, negsuc, codes, [], ◌∷◌}
use Rattle.std.specs.Fmt.{digits}
use Rattle.std.proofs.Common.{refl, arith}
use Rattle.ring_laws.specs.Meaning.{number, listed}
use Rattle.hypergeometric.specs.Forms.{form_with}
use Rattle.hypergeometric.specs.FactorLists.{factor_with}
use Rattle.hypergeometric.specs.ProperTerm.{ProperTerm}
use Rattle.hypergeometric.specs.TermFacts.{total_power}
use Rattle.document_text.specs.Spelling.{polynomial_text}
use Rattle.document_text.specs.TermText.{form_text, proper_term_text}
use Rattle.documents.proofs.OneTerm.{one_term}
use Rattle.documents.specs.declared.documents.Version.TheVariants.{One}
use Rattle.term_lines.specs.TermTexts.{term_text, terms, carriers}

abbrev known : ProperTerm
known = record {
  poly = listed (listed (number (pos 1) ∷ []) ∷ listed (number (pos 0) ∷ number (negsuc 2) ∷ []) ∷ listed (number (pos 2) ∷ []) ∷ []);
  scale = record { top = negsuc 2; bottom = pos 2 };
  n_base = record { top = pos 1; bottom = pos 4 };
  k_base = record { top = negsuc 0; bottom = pos 1 };
  up = factor_with (form_with (pos 1) (pos 0) (pos 0)) 1 ∷ factor_with (form_with (pos 0) (pos 1) (pos 1)) 2 ∷ [];
  down = factor_with (form_with (pos 1) (negsuc 0) (pos 0)) 1 ∷ [];
  over = factor_with (form_with (pos 0) (pos 2) (negsuc 0)) 3 ∷ [];
  guard = [];
}

known_term : term_text One known
    ≡ codes "poly 2*k^2-3*n*k+1; scale -3/2; nbase 1/4; kbase -1; up n, k+1 x2; down -k+n; over 2*k-1 x3; guard -"
unfolding digits
known_term = refl

one_text : term_text One one_term ≡ codes "poly 1; scale 1; nbase 1; kbase 1; up -; down -; over -; guard -"
unfolding digits
one_text = refl

-- the text of the term in documents
same_text : term_text One known ≡ proper_term_text known
unfolding polynomial_text form_text digits
same_text = refl

-- no term whose polynomial is 0 has a text, and no carrier of 169 factorials has one
no_zero : (t : ProperTerm) → t.poly ≡ listed [] → ¬ ((terms One).Has t)
no_zero t e h = h.proper.poly_not_zero e

too_many : (t : ProperTerm) → total_power t.up ≡ 169 → ¬ ((carriers One).Has t)
too_many t e h = omega (arith, e, h.few)
