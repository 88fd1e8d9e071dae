-- Which bytes the text of a list of monomials has, and that it is no single minus.
use Rattle.std.specs.Prelude.{◌≡◌, ◌≢◌, ℕ, ℤ, pos, negsuc, codes, List, [], ◌∷◌, ◌++◌, drop, get_or, flat_map}
use Rattle.std.specs.List.{AllByRecursion}
use Rattle.std.specs.Str.{byte}
use Rattle.std.proofs.Common.{refl, ap, arith}
use Rattle.document_text.specs.Spelling.{Monomial, unsigned_text, sign_text, first_text, later_text, monomials_text}
use Rattle.exact_texts.proofs.Cuts.{among, Stops, only_append, only_more, cut}
use Rattle.exact_texts.specs.Texts.{Only}
use Rattle.document_text.proofs.Powers.{unsigned_bytes}
use Rattle.document_text.proofs.Monomials.{IsMonomial, unsigned_not_empty, only_unsigned}
use Rattle.document_text.proofs.MonomialLists.{laters_stop}

abbrev pub polynomial_bytes : List ℕ
polynomial_bytes = codes "0123456789*^nk+-"

-- a sign, a monomial with its sign, and later monomials have only bytes of polynomials
only_sign : (plus : List ℕ) (c : ℤ) → Only (among polynomial_bytes) plus → Only (among polynomial_bytes) (sign_text plus c)
only_sign plus (pos n) h = h
only_sign plus (negsuc n) h = refl

only_signed : (plus : List ℕ) (m : Monomial) → Only (among polynomial_bytes) plus → IsMonomial m
    → Only (among polynomial_bytes) (sign_text plus m.coefficient ++ unsigned_text m)
only_signed plus m h p = only_append (among polynomial_bytes) (sign_text plus m.coefficient) (unsigned_text m)
    (only_sign plus m.coefficient h) (only_more unsigned_bytes (among polynomial_bytes) (unsigned_text m) refl (only_unsigned m p))

only_laters : (ms : List Monomial) → AllByRecursion IsMonomial ms → Only (among polynomial_bytes) (flat_map later_text ms)
only_laters [] p = refl
only_laters (m ∷ ms) p =
    only_append (among polynomial_bytes) (later_text m) (flat_map later_text ms) (only_signed (byte "+" ∷ []) m refl p.0) (only_laters ms p.1)

-- so has the whole list
pub only_monomials : (ms : List Monomial) → AllByRecursion IsMonomial ms → Only (among polynomial_bytes) (monomials_text ms)
only_monomials [] p = refl
only_monomials (m ∷ ms) p =
    only_append (among polynomial_bytes) (first_text m) (flat_map later_text ms) (only_signed [] m refl p.0) (only_laters ms p.1)

-- the zero polynomial is no single minus
zero_no_minus : byte "0" ∷ [] ≢ byte "-" ∷ []
zero_no_minus e = let first : byte "0" ≡ byte "-" = ap (λ t. get_or t 0 0) e in omega arith

-- a first monomial is no single minus
signed_no_minus : (c : ℤ) (xs r : List ℕ) → Only (among unsigned_bytes) xs → xs ≢ [] → Stops (among unsigned_bytes) r
    → (sign_text [] c ++ xs) ++ r ≢ byte "-" ∷ []
signed_no_minus (pos n) xs r p some u e = some (cut (among unsigned_bytes) xs [] r (byte "-" ∷ []) p refl u refl e).0
signed_no_minus (negsuc n) xs r p some u e = some (cut (among unsigned_bytes) xs [] r [] p refl u tt (ap (drop 1) e)).0

-- no list of monomials is spelled by a single minus
pub monomials_no_minus : (ms : List Monomial) → AllByRecursion IsMonomial ms → monomials_text ms ≢ byte "-" ∷ []
monomials_no_minus [] p e = zero_no_minus e
monomials_no_minus (m ∷ ms) p e =
    signed_no_minus m.coefficient (unsigned_text m) (flat_map later_text ms) (only_unsigned m p.0) (unsigned_not_empty m p.0) (laters_stop ms) e
