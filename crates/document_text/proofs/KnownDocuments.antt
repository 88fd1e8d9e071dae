-- Texts of documents that are known, so that a wrong rule of spelling does not check.
use Rattle.std.proofs.Common.{◌≡◌, refl}
use Rattle.std.specs.Prelude.{codes, ℤ, pos, negsuc, [], ◌∷◌, None}
use Rattle.std.specs.Fmt.{digits}
use Rattle.ring_laws.specs.Meaning.{Meaning, number, listed}
use Rattle.hypergeometric.specs.Fraction.{of_whole}
use Rattle.hypergeometric.specs.LinearForm.{LinearForm, Factor, FactorList}
use Rattle.hypergeometric.specs.ProperTerm.{ProperTerm}
use Rattle.document_text.specs.Spelling.{fraction_text, polynomial_text, polynomial_in_n_text}
use Rattle.document_text.specs.TermText.{form_text, factor_list_text, proper_term_text}
use Rattle.document_text.specs.Document.{Document, match_text, document_text}

-- a number as a coefficient
abbrev pub c : ℤ → Meaning
c z = listed (number z ∷ [])

abbrev pub nought : Meaning
nought = listed []

abbrev pub plain : Meaning → ProperTerm
plain p = record { poly = p; scale = of_whole (pos 1); n_base = of_whole (pos 1); k_base = of_whole (pos 1); up = []; down = []; over = []; guard = [] }

abbrev pub unit_list : FactorList
unit_list = record { scale = pos 1; factors = [] }

abbrev pub squares : Document
squares = record {
  term = plain (listed (nought ∷ nought ∷ c (pos 1) ∷ []));
  found = record {
    order = 0;
    matches = [];
    q = unit_list;
    r = unit_list;
    claim = record {
      multipliers = c (pos 6) ∷ [];
      carrier = plain (listed (c (pos 1) ∷ []));
      y = listed (nought ∷ c (pos 1) ∷ c (negsuc 2) ∷ c (pos 2) ∷ []);
      poles = [];
      ratio_top = unit_list;
      ratio_bottom = unit_list;
    };
    range = None;
  };
}

squares_text : document_text squares ≡ codes "ekhad 1\ncommand gosper\nterm poly k^2; scale 1; nbase 1; kbase 1; up -; down -; over -; guard -\nfound 0\nmatch -\nq 1; -\nr 1; -\na 6\nK poly 1; scale 1; nbase 1; kbase 1; up -; down -; over -; guard -\nY 2*k^3-3*k^2+k\nD -\nRtop 1; -\nRbot 1; -\nrange -\nend\n"
unfolding document_text polynomial_text polynomial_in_n_text digits
squares_text = refl

abbrev form : ℤ → ℤ → ℤ → LinearForm
form n k offset = record { n_slope = n; k_slope = k; offset = offset }

abbrev factor : LinearForm → Factor
factor f = record { form = f; power = 1 }

known_forms : form_text (form (negsuc 0) (pos 1) (negsuc 0)) ≡ codes "k-n-1"
unfolding form_text digits
known_forms = refl

-- n^2*k^3 by the power of k first, then of n
known_polynomial : polynomial_text (listed (listed (number (negsuc 2) ∷ []) ∷ listed (number (pos 8) ∷ number (negsuc 0) ∷ number (pos 4) ∷ []) ∷ nought ∷ listed (nought ∷ number (pos 1) ∷ []) ∷ []))
    ≡ codes "n*k^3+4*n^2*k-n*k+8*k-3"
unfolding polynomial_text digits
known_polynomial = refl

-- a polynomial that isn't trimmed has the text of another one
known_untrimmed : polynomial_text (listed (c (pos 1) ∷ nought ∷ [])) ≡ polynomial_text (listed (c (pos 1) ∷ []))
unfolding polynomial_text digits
known_untrimmed = refl

known_in_n : polynomial_in_n_text (listed (number (negsuc 1) ∷ number (negsuc 3) ∷ [])) ≡ codes "-4*n-2"
unfolding polynomial_in_n_text digits
known_in_n = refl

known_fraction : fraction_text (record { top = negsuc 4; bottom = pos 16 }) ≡ codes "-5/16"
unfolding digits
known_fraction = refl

known_match : match_text (record { form = form (pos 0) (pos 1) (pos 4); shift = 3; power = 2 }) ≡ codes "k+4 by 3 x2"
unfolding form_text digits
known_match = refl

-- the term of binomial(n,k)^2
known_term : proper_term_text (record {
  poly = listed (c (pos 1) ∷ []);
  scale = of_whole (pos 1);
  n_base = of_whole (pos 1);
  k_base = of_whole (pos 1);
  up = record { form = form (pos 1) (pos 0) (pos 0); power = 2 } ∷ [];
  down = record { form = form (pos 0) (pos 1) (pos 0); power = 2 } ∷ record { form = form (pos 1) (negsuc 0) (pos 0); power = 2 } ∷ [];
  over = [];
  guard = [];
}) ≡ codes "poly 1; scale 1; nbase 1; kbase 1; up n x2; down k x2, -k+n x2; over -; guard -"
unfolding polynomial_text form_text digits
known_term = refl

known_list : factor_list_text (record { scale = negsuc 0; factors = factor (form (negsuc 0) (pos 1) (pos 0)) ∷ [] }) ≡ codes "-1; k-n"
unfolding form_text digits
known_list = refl
