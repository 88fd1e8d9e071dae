-- The monomials of a polynomial, by falling powers of its letters, and its text.
use Rattle.std.specs.Prelude.{◌≡◌, ◌≢◌, ℕ, zero, suc, ◌+◌, ℤ, pos, negsuc, List, [], ◌∷◌, ◌++◌, map, length}
use Rattle.ring_laws.specs.Meaning.{Meaning, items}
use Rattle.ring_laws.specs.Algebra.{Algebra}
use Rattle.ring_laws.specs.Wholes.{number_of}
use Rattle.poly_laws.specs.Values.{level}
use Rattle.hypergeometric.specs.TermFacts.{IsPolynomial}
use Rattle.exact_texts.specs.Formats.{Format}
use Rattle.exact_texts.specs.Sums.{Monomial, sum_text}

-- a letter of a polynomial
pub data Letter : Type 0 where
  letter_n : Letter
  letter_k : Letter
  letter_x : Letter

-- the power of a letter in a monomial
abbrev pub power_in : Letter → Monomial → ℕ
power_in letter_n m = m.n_power
power_in letter_k m = m.k_power
power_in letter_x m = m.x_power

-- the monomial with another power of a letter
abbrev pub with_power : Letter → ℕ → Monomial → Monomial
with_power letter_n p m = record m { n_power = p }
with_power letter_k p m = record m { k_power = p }
with_power letter_x p m = record m { x_power = p }

-- the monomials of a number, which has none where it is 0
abbrev pub constant : ℤ → List Monomial
constant (pos zero) = []
constant (pos (suc n)) = record { coefficient = pos (suc n); n_power = 0; k_power = 0; x_power = 0 } ∷ []
constant (negsuc n) = record { coefficient = negsuc n; n_power = 0; k_power = 0; x_power = 0 } ∷ []

-- the monomials of coefficients from a power of a letter on, the greatest power first
abbrev pub falling : Letter → (Meaning → List Monomial) → List Meaning → ℕ → List Monomial
falling l inner [] i = []
falling l inner (c ∷ cs) i = falling l inner cs (suc i) ++ map (with_power l i) (inner c)

-- the monomials of a polynomial in these letters, the outermost first
abbrev pub monomials_of : List Letter → Meaning → List Monomial
monomials_of [] m = constant (number_of m)
monomials_of (l ∷ ls) m = falling l (monomials_of ls) (items m) 0

-- polynomials in these letters, with at most 256 coefficients at each level and numbers below 2^127 in magnitude, spelled as the sums of
-- their monomials
abbrev pub polynomials : List Letter → Format Meaning
polynomials ls = record { Has = IsPolynomial (length ls); text = λ p. sum_text (monomials_of ls p) }

-- in n, by falling power
abbrev pub in_n : List Letter
in_n = letter_n ∷ []

-- in n and k: by falling power of k, then of n
abbrev pub in_n_k : List Letter
in_n_k = letter_k ∷ letter_n ∷ []

-- in n, k and x: by falling power of k, then of n, then of x
abbrev pub in_n_k_x : List Letter
in_n_k_x = letter_k ∷ letter_n ∷ letter_x ∷ []

-- the letter is none of these
abbrev pub IsFresh : Letter → List Letter → Type 0
IsFresh l [] = Unit {0}
IsFresh l (j ∷ ls) = (l ≢ j) × IsFresh l ls

-- no letter stands twice
abbrev pub AreDistinct : List Letter → Type 0
AreDistinct [] = Unit {0}
AreDistinct (l ∷ ls) = IsFresh l ls × AreDistinct ls

-- the monomial has none of these letters
abbrev pub IsFree : List Letter → Monomial → Type 0
IsFree [] m = Unit {0}
IsFree (l ∷ ls) m = (power_in l m ≡ 0) × IsFree ls m

-- a monomial times the powers of another
abbrev pub times : Monomial → Monomial → Monomial
times powers m = record {
  coefficient = m.coefficient;
  n_power = powers.n_power + m.n_power;
  k_power = powers.k_power + m.k_power;
  x_power = powers.x_power + m.x_power;
}

-- a ring whose members are the polynomials in so many letters, with the same test for zero, and where what fits is within bounds
pub record HasLetters (letters : ℕ) (a : Algebra) : Type 0 where
  pub nought : a.ops.nought ≡ (level letters).ops.nought
  pub is_nought : (m : Meaning) → a.ops.is_nought m ≡ (level letters).ops.is_nought m
  pub passes : (m : Meaning) → a.passes m ≡ (level letters).passes m
  pub fits : (m : Meaning) → a.ops.Fits m → (level letters).ops.Fits m
