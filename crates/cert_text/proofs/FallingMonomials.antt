-- The monomials of a polynomial in k have falling powers, and its coefficients are theirs.
use Rattle.std.specs.Prelude.{◌≡◌, ◌≢◌, ℕ, zero, suc, ◌+◌, ◌<◌, ◌≤◌, Bool, true, false, if◌then◌else◌, nat_eq, ℤ, pos, negsuc, List, [], ◌∷◌, length, map}
use Rattle.std.specs.Fmt.{digits}
use Rattle.std.proofs.Common.{refl, ap, ◌∙◌, arith, lit<}
use Rattle.ring_laws.specs.Meaning.{Meaning, items, parted-joined}
use Rattle.ring_laws.specs.Wholes.{number_of}
use Rattle.poly_laws.specs.Values.{level}
use Rattle.hypergeometric.specs.TermFacts.{IsNumber, IsPolynomial}
use Rattle.document_text.specs.Spelling.{Monomial, monomial_before, monomials_in_n, monomials_in_k, monomials_text, polynomial_text}
use Rattle.document_text.proofs.Totals.{number_at}
use Rattle.cert_text.specs.PolynomialDocument.{as_constant_in_n, in_k}
use Rattle.cert_text.specs.Printing.{monomial_in_k}
use Rattle.cert_text.specs.Reading.{AreFalling, rest_text, coefficient_of}
use Rattle.cert_text.proofs.CoefficientsAt.{none_from, coefficient_first, coefficient_other}

-- the monomials of coefficients from the power j on, in front of others
abbrev monomials : List Meaning → ℕ → List Monomial → List Monomial
monomials [] j rest = rest
monomials (c ∷ cs) j rest = monomials cs (suc j) (monomial_before (number_of c) 0 j rest)

of_constant : (z : ℤ) (j : ℕ) (rest : List Monomial) → monomials_in_n (items ((level 1).ops.whole z)) 0 j rest ≡ monomial_before z 0 j rest
of_constant (pos zero) j rest = refl
of_constant (pos (suc n)) j rest = refl
of_constant (negsuc n) j rest = refl

lifted : (cs : List Meaning) (j : ℕ) (rest : List Monomial) → monomials_in_k (map as_constant_in_n cs) j rest ≡ monomials cs j rest
lifted [] j rest = refl
lifted (c ∷ cs) j rest =
    ap (λ ms. monomials_in_k (map as_constant_in_n cs) (suc j) ms) (of_constant (number_of c) j rest)
    ∙ lifted cs (suc j) (monomial_before (number_of c) 0 j rest)

-- what falls below a bound falls below a greater one
falling_more : (a b : ℕ) (ms : List Monomial) → a ≤ b → AreFalling a ms → AreFalling b ms
falling_more a b [] h falling = tt
falling_more a b (m ∷ ms) h falling = (falling.0, falling.1, omega (arith, falling.2, h), falling.3)

-- a monomial in front of smaller powers
before_falling : (z : ℤ) (j : ℕ) (rest : List Monomial) → IsNumber z → AreFalling j rest → AreFalling (suc j) (monomial_before z 0 j rest)
before_falling (pos zero) j rest h falling = falling_more j (suc j) rest (omega arith) falling
before_falling (pos (suc n)) j rest h falling = (refl, h, omega arith, falling)
before_falling (negsuc n) j rest h falling = (refl, h, omega arith, falling)

before_here : (z : ℤ) (j : ℕ) (rest : List Monomial) → AreFalling j rest → coefficient_of (monomial_before z 0 j rest) j ≡ z
before_here (pos zero) j rest falling = none_from j rest j falling (omega arith)
before_here (pos (suc n)) j rest falling = coefficient_first (monomial_in_k (pos (suc n)) j) rest j refl
before_here (negsuc n) j rest falling = coefficient_first (monomial_in_k (negsuc n) j) rest j refl

before_other : (z : ℤ) (j : ℕ) (rest : List Monomial) (k : ℕ) → k ≢ j → coefficient_of (monomial_before z 0 j rest) k ≡ coefficient_of rest k
before_other (pos zero) j rest k h = refl
before_other (pos (suc n)) j rest k h = coefficient_other (monomial_in_k (pos (suc n)) j) rest k h
before_other (negsuc n) j rest k h = coefficient_other (monomial_in_k (negsuc n) j) rest k h

-- so all of them fall
falling : (cs : List Meaning) (j : ℕ) (rest : List Monomial) → ((k : ℕ) → IsNumber (number_at cs k)) → AreFalling j rest
    → AreFalling (j + length cs) (monomials cs j rest)
falling [] j rest small h = falling_more j (j + 0) rest (omega arith) h
falling (c ∷ cs) j rest small h =
    falling_more (suc j + length cs) (j + suc (length cs)) (monomials cs (suc j) (monomial_before (number_of c) 0 j rest)) (omega arith)
    (falling cs (suc j) (monomial_before (number_of c) 0 j rest) (λ k. small (suc k)) (before_falling (number_of c) j rest (small 0) h))

-- the coefficients below the power j are those of the others, and from it on those of the list
below : (cs : List Meaning) (j : ℕ) (rest : List Monomial) (k : ℕ) → k < j → coefficient_of (monomials cs j rest) k ≡ coefficient_of rest k
below [] j rest k h = refl
below (c ∷ cs) j rest k h =
    below cs (suc j) (monomial_before (number_of c) 0 j rest) k (omega arith) ∙ before_other (number_of c) j rest k (λ e. omega (arith, e, h))

above : (cs : List Meaning) (j : ℕ) (rest : List Monomial) (i k : ℕ) → k ≡ j + i → ((k : ℕ) → IsNumber (number_at cs k)) → AreFalling j rest
    → coefficient_of (monomials cs j rest) k ≡ number_at cs i
above [] j rest i k e small h = none_from j rest k h (omega (arith, e))
above (c ∷ cs) j rest zero k e small h =
    let same : k ≡ j = omega (arith, e) in
    ap (coefficient_of (monomials (c ∷ cs) j rest)) same
    ∙ below cs (suc j) (monomial_before (number_of c) 0 j rest) j (omega arith) ∙ before_here (number_of c) j rest h
above (c ∷ cs) j rest (suc i) k e small h =
    above cs (suc j) (monomial_before (number_of c) 0 j rest) i k (omega (arith, e)) (λ k. small (suc k)) (before_falling (number_of c) j rest (small 0) h)

-- monomials in falling powers that spell the polynomial and have its coefficients
pub record Spelled (p : Meaning) : Type 0 where
  pub monomials : List Monomial
  pub falling : AreFalling 256 monomials
  pub text : polynomial_text (in_k p) ≡ rest_text true monomials
  pub coefficients : (k : ℕ) → coefficient_of monomials k ≡ number_at (items p) k

-- the zero polynomial is spelled as the number 0
of_none : (p : Meaning) → polynomial_text (in_k p) ≡ 48 ∷ [] → ((k : ℕ) → pos 0 ≡ number_at (items p) k) → Spelled p
unfolding digits
of_none p e zeros = record {
  monomials = monomial_in_k (pos 0) 0 ∷ [];
  falling = (refl, lit< tt, lit< tt, tt);
  text = e;
  coefficients = λ k. no_coefficient (nat_eq 0 k) ∙ zeros k;
}
  where
    no_coefficient : (b : Bool) → (if b then pos 0 else pos 0) ≡ pos 0
    no_coefficient true = refl
    no_coefficient false = refl

of_monomials : (p : Meaning) (ms : List Monomial) → polynomial_text (in_k p) ≡ monomials_text ms → AreFalling 256 ms
    → ((k : ℕ) → coefficient_of ms k ≡ number_at (items p) k) → Spelled p
of_monomials p [] e falling each = of_none p e each
of_monomials p (m ∷ ms) e falling each = record { monomials = m ∷ ms; falling = falling; text = e; coefficients = each }

whole_text : (p : Meaning) → polynomial_text (in_k p) ≡ monomials_text (monomials (items p) 0 [])
unfolding polynomial_text
whole_text p =
    ap (λ ps. monomials_text (monomials_in_k ps 0 [])) (parted-joined (map as_constant_in_n (items p))) ∙ ap monomials_text (lifted (items p) 0 [])

pub spelled : (p : Meaning) → IsPolynomial 1 p → Spelled p
spelled p h =
    of_monomials p (monomials (items p) 0 []) (whole_text p)
    (falling_more (0 + length (items p)) 256 (monomials (items p) 0 []) (omega (arith, h.fits.0)) (falling (items p) 0 [] h.fits.1 tt))
    (λ k. above (items p) 0 [] k k (omega arith) h.fits.1 tt)
