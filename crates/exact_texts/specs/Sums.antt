-- How sums of monomials in n, k and x are spelled.
use Rattle.std.specs.Prelude.{◌≢◌, ℕ, zero, suc, ◌^◌, ◌<◌, if◌then◌else◌, nat_eq, ℤ, pos, negsuc, unsigned_abs, List, [], ◌∷◌, ◌++◌, codes}
use Rattle.std.specs.List.{AllByRecursion, flat_map}
use Rattle.std.specs.Fmt.{decimal}
use Rattle.std.specs.Str.{byte}
use Rattle.exact_texts.specs.Texts.{joined}
use Rattle.exact_texts.specs.Formats.{Format}

-- coefficient * n^n_power * k^k_power * x^x_power
pub record Monomial : Type 0 where
  pub coefficient : ℤ
  pub n_power : ℕ
  pub k_power : ℕ
  pub x_power : ℕ

-- nothing at the power 0, else the name, and from the power 2 on the caret and the power
abbrev pub power_factor : ℕ → ℕ → List (List ℕ)
power_factor name zero = []
power_factor name (suc zero) = (name ∷ []) ∷ []
power_factor name (suc (suc p)) = (name ∷ byte "^" ∷ decimal (suc (suc p))) ∷ []

-- the powers of a monomial, n before k before x
abbrev pub power_factors : Monomial → List (List ℕ)
power_factors m = power_factor (byte "n") m.n_power ++ (power_factor (byte "k") m.k_power ++ power_factor (byte "x") m.x_power)

-- the magnitude of a coefficient in front of powers; 1 is left out where a power follows
abbrev pub with_magnitude : ℕ → List (List ℕ) → List (List ℕ)
with_magnitude c [] = decimal c ∷ []
with_magnitude c (f ∷ fs) = if nat_eq c 1 then f ∷ fs else (decimal c ∷ f ∷ fs)

-- a monomial without its sign: the magnitude and the powers, with stars between them
abbrev pub body_text : Monomial → List ℕ
body_text m = joined (codes "*") (with_magnitude (unsigned_abs m.coefficient) (power_factors m))

-- the sign of a number, which is plus for 0
abbrev pub sign_of : ℤ → ℕ
sign_of (pos c) = byte "+"
sign_of (negsuc c) = byte "-"

-- a monomial behind its sign
abbrev pub signed_text : Monomial → List ℕ
signed_text m = sign_of m.coefficient ∷ body_text m

-- a text without a plus at its front
abbrev pub without_plus : List ℕ → List ℕ
without_plus [] = []
without_plus (b ∷ rest) = if nat_eq b (byte "+") then rest else (b ∷ rest)

-- the monomials behind their signs, without a plus at the front; the sum of no monomials is `0`
abbrev pub sum_text : List Monomial → List ℕ
sum_text [] = codes "0"
sum_text (m ∷ ms) = without_plus (flat_map signed_text (m ∷ ms))

-- a monomial that has a text: a coefficient other than 0 and below 2^127 in magnitude, and powers below 256
pub record IsMonomial (m : Monomial) : Type 0 where
  pub not_zero : m.coefficient ≢ pos 0
  pub number : unsigned_abs m.coefficient < 2 ^ 127
  pub n_power : m.n_power < 256
  pub k_power : m.k_power < 256
  pub x_power : m.x_power < 256

-- sums of monomials, in any order
abbrev pub sums : Format (List Monomial)
sums = record { Has = AllByRecursion IsMonomial; text = sum_text }
