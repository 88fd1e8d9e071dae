-- How numbers, fractions and polynomials are spelled.
use Rattle.std.specs.Prelude.{ℕ, zero, suc, if◌then◌else◌, nat_eq, ℤ, pos, negsuc, unsigned_abs, List, [], ◌∷◌, flat_map}
use Rattle.std.specs.Fmt.{decimal, signed_decimal}
use Rattle.std.specs.Str.{byte}
use Rattle.ring_laws.specs.Meaning.{Meaning, items}
use Rattle.ring_laws.specs.Wholes.{number_of}
use Rattle.hypergeometric.specs.Fraction.{Fraction}
use Rattle.exact_texts.specs.Texts.{◌⧺◌}

-- `u`, or `u/v` where v isn't 1
abbrev pub fraction_text : Fraction → List ℕ
fraction_text f = signed_decimal f.top ⧺ (if nat_eq (unsigned_abs f.bottom) 1 then [] else byte "/" ∷ signed_decimal f.bottom)

-- coefficient * n^n_power * k^k_power
pub record Monomial : Type 0 where
  pub coefficient : ℤ
  pub n_power : ℕ
  pub k_power : ℕ

-- a monomial in front of others, left out where its coefficient is 0
abbrev pub monomial_before : ℤ → ℕ → ℕ → List Monomial → List Monomial
monomial_before (pos zero) i j rest = rest
monomial_before c i j rest = record { coefficient = c; n_power = i; k_power = j } ∷ rest

-- the monomials of the coefficients from n^i on at k^j, by falling power of n, in front of others
abbrev pub monomials_in_n : List Meaning → ℕ → ℕ → List Monomial → List Monomial
monomials_in_n [] i j rest = rest
monomials_in_n (c ∷ cs) i j rest = monomials_in_n cs (suc i) j (monomial_before (number_of c) i j rest)

-- the monomials of the coefficients from k^j on, by falling power of k, then of n, in front of others
abbrev pub monomials_in_k : List Meaning → ℕ → List Monomial → List Monomial
monomials_in_k [] j rest = rest
monomials_in_k (p ∷ ps) j rest = monomials_in_k ps (suc j) (monomials_in_n (items p) 0 j rest)

-- nothing at the power 0, else the name, and from the power 2 on the caret and the power
abbrev pub power_text : ℕ → ℕ → List ℕ
power_text name zero = []
power_text name (suc zero) = name ∷ []
power_text name (suc (suc p)) = name ∷ byte "^" ∷ decimal (suc (suc p))

-- two texts, with a star between them where both stand there
abbrev pub starred : List ℕ → List ℕ → List ℕ
starred [] ys = ys
starred (x ∷ xs) [] = x ∷ xs
starred (x ∷ xs) (y ∷ ys) = (x ∷ xs) ⧺ byte "*" ∷ y ∷ ys

-- the powers of n and k in a monomial, n first
abbrev pub powers_text : Monomial → List ℕ
powers_text m = starred (power_text (byte "n") m.n_power) (power_text (byte "k") m.k_power)

-- a magnitude of 1 is left out where a power follows
abbrev pub magnitude_text : ℕ → List ℕ → List ℕ
magnitude_text c [] = decimal c
magnitude_text c (p ∷ ps) = if nat_eq c 1 then p ∷ ps else decimal c ⧺ byte "*" ∷ p ∷ ps

-- a monomial without its sign; a magnitude of 1 is left out where n or k follows
abbrev pub unsigned_text : Monomial → List ℕ
unsigned_text m = magnitude_text (unsigned_abs m.coefficient) (powers_text m)

-- a minus before what is negative, and else the given sign
abbrev pub sign_text : List ℕ → ℤ → List ℕ
sign_text plus (pos c) = plus
sign_text plus (negsuc c) = byte "-" ∷ []

-- a monomial at the front has no plus
abbrev pub first_text : Monomial → List ℕ
first_text m = sign_text [] m.coefficient ⧺ unsigned_text m

-- a monomial behind others has a plus or a minus
abbrev pub later_text : Monomial → List ℕ
later_text m = sign_text (byte "+" ∷ []) m.coefficient ⧺ unsigned_text m

-- the zero polynomial is `0`
abbrev pub monomials_text : List Monomial → List ℕ
monomials_text [] = byte "0" ∷ []
monomials_text (m ∷ ms) = first_text m ⧺ flat_map later_text ms

-- a polynomial in n and k
unfoldable pub polynomial_text : Meaning → List ℕ
polynomial_text p = monomials_text (monomials_in_k (items p) 0 [])

-- a polynomial in n
unfoldable pub polynomial_in_n_text : Meaning → List ℕ
polynomial_in_n_text p = monomials_text (monomials_in_n (items p) 0 0 [])
