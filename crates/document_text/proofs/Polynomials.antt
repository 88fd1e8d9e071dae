-- The text of a polynomial determines it.
use Rattle.std.specs.Prelude.{◌≡◌, ℕ, zero, suc, ◌+◌, ◌^◌, ◌≤◌, ◌<◌, ℤ, pos, negsuc, List, [], ◌∷◌, get_or, length}
use Rattle.std.specs.List.{AllByRecursion}
use Rattle.std.proofs.Common.{ap, sym, ◌∙◌, arith}
use Rattle.ring_laws.specs.Meaning.{Meaning, listed, items}
use Rattle.ring_laws.specs.Wholes.{number_of}
use Rattle.hypergeometric.specs.TermFacts.{IsNumber, IsPolynomial}
use Rattle.document_text.specs.Spelling.{Monomial, monomial_before, monomials_in_n, monomials_in_k, monomials_text, polynomial_text, polynomial_in_n_text}
use Rattle.exact_texts.proofs.Cuts.{among}
use Rattle.exact_texts.specs.Texts.{Only}
use Rattle.document_text.proofs.Monomials.{IsMonomial, HasCoefficient}
use Rattle.document_text.proofs.MonomialLists.{monomials_determine}
use Rattle.document_text.proofs.MonomialBytes.{polynomial_bytes, only_monomials}
use Rattle.document_text.proofs.Totals.{total_at, total_of_n, total_of_k, number_at, number_in}
use Rattle.document_text.proofs.Coefficients.{equal_in_n, equal_in_k}

-- monomials within bounds, none with the coefficient 0
pub record AreMonomials (ms : List Monomial) : Type 0 where
  pub small : AllByRecursion IsMonomial ms
  pub some : AllByRecursion HasCoefficient ms

pub none : AreMonomials []
none = record { small = tt; some = tt }

-- such is a list with a number in front, which is left out where it is 0
pub before : (c : ℤ) (i j : ℕ) (rest : List Monomial) → IsNumber c → i < 2 ^ 127 → j < 2 ^ 127
    → AreMonomials rest → AreMonomials (monomial_before c i j rest)
before (pos zero) i j rest h hi hj r = r
before (pos (suc n)) i j rest h hi hj r =
    record { small = (record { coefficient = h; n_power = hi; k_power = hj }, r.small); some = (λ e. cc, r.some) }
before (negsuc n) i j rest h hi hj r =
    record { small = (record { coefficient = h; n_power = hi; k_power = hj }, r.small); some = (λ e. cc, r.some) }

-- such are the monomials of a polynomial in n, and of one in n and k
in_n : (cs : List Meaning) (i j : ℕ) (rest : List Monomial) → ((a : ℕ) → IsNumber (number_at cs a)) → i + length cs < 2 ^ 127 → j < 2 ^ 127
    → AreMonomials rest → AreMonomials (monomials_in_n cs i j rest)
in_n [] i j rest h hi hj r = r
in_n (c ∷ cs) i j rest h hi hj r =
    in_n cs (suc i) j (monomial_before (number_of c) i j rest) (λ a. h (suc a)) (omega arith) hj
    (before (number_of c) i j rest (h zero) (omega arith) hj r)

in_k : (ps : List Meaning) (j : ℕ) (rest : List Monomial) → ((b a : ℕ) → IsNumber (number_in ps b a))
    → ((b : ℕ) → length (items (get_or ps b (listed []))) ≤ 256)
    → j + length ps < 2 ^ 127 → AreMonomials rest → AreMonomials (monomials_in_k ps j rest)
in_k [] j rest h short hj r = r
in_k (p ∷ ps) j rest h short hj r =
    in_k ps (suc j) (monomials_in_n (items p) 0 j rest) (λ b. h (suc b)) (λ b. short (suc b)) (omega arith)
    (in_n (items p) 0 j rest (h zero) (omega (arith, short zero)) (omega arith) r)

of_polynomial : (p : Meaning) → IsPolynomial 2 p → AreMonomials (monomials_in_k (items p) 0 [])
of_polynomial p h = in_k (items p) 0 [] (λ b. (h.fits.1 b).1) (λ b. (h.fits.1 b).0) (omega (arith, h.fits.0)) none

of_polynomial_in_n : (p : Meaning) → IsPolynomial 1 p → AreMonomials (monomials_in_n (items p) 0 0 [])
of_polynomial_in_n p h = in_n (items p) 0 0 [] h.fits.1 (omega (arith, h.fits.0)) (omega arith) none

-- lists of monomials of one text have one total at all powers
pub same_totals : (ms ns : List Monomial) → AreMonomials ms → AreMonomials ns → monomials_text ms ≡ monomials_text ns
    → (a b : ℕ) → total_at a b ms ≡ total_at a b ns
same_totals ms ns p q e a b = ap (total_at a b) (monomials_determine ms ns p.small q.small p.some q.some e)

-- the text of a polynomial in n and k determines it
pub polynomial_determines : (p q : Meaning) → IsPolynomial 2 p → IsPolynomial 2 q → polynomial_text p ≡ polynomial_text q → p ≡ q
unfolding polynomial_text
polynomial_determines p q h k e = equal_in_k p q h.passes k.passes
    (λ b a. sym (total_of_k (items p) a b)
    ∙ same_totals (monomials_in_k (items p) 0 []) (monomials_in_k (items q) 0 []) (of_polynomial p h) (of_polynomial q k) e a b
    ∙ total_of_k (items q) a b)

-- the text of a polynomial in n determines it
pub polynomial_in_n_determines : (p q : Meaning) → IsPolynomial 1 p → IsPolynomial 1 q → polynomial_in_n_text p ≡ polynomial_in_n_text q → p ≡ q
unfolding polynomial_in_n_text
polynomial_in_n_determines p q h k e = equal_in_n p q h.passes k.passes
    (λ a. sym (total_of_n (items p) a)
    ∙ same_totals (monomials_in_n (items p) 0 0 []) (monomials_in_n (items q) 0 0 []) (of_polynomial_in_n p h) (of_polynomial_in_n q k) e a 0
    ∙ total_of_n (items q) a)

-- polynomials have only their bytes
pub only_polynomial : (p : Meaning) → IsPolynomial 2 p → Only (among polynomial_bytes) (polynomial_text p)
unfolding polynomial_text
only_polynomial p h = only_monomials (monomials_in_k (items p) 0 []) (of_polynomial p h).small

pub only_polynomial_in_n : (p : Meaning) → IsPolynomial 1 p → Only (among polynomial_bytes) (polynomial_in_n_text p)
unfolding polynomial_in_n_text
only_polynomial_in_n p h = only_monomials (monomials_in_n (items p) 0 0 []) (of_polynomial_in_n p h).small
