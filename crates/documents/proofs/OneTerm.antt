-- The term 1, which is plain: so terms have texts, and documents have subjects.
use Rattle.std.specs.Prelude.{ℕ, zero, suc, ◌^◌, ◌<◌, pos, unsigned_abs, List, [], ◌∷◌, get_or}
use Rattle.std.specs.List.{AllByRecursion}
use Rattle.std.proofs.Common.{refl, arith}
use Rattle.std.proofs.Math.Nat.{eq-one_of_dvd-one}
use Rattle.std.proofs.lemmas.Int.{ints}
use Rattle.ring_laws.specs.Meaning.{Meaning, number, listed}
use Rattle.ring_laws.specs.Wholes.{number_of}
use Rattle.poly_laws.specs.Values.{level}
use Rattle.hypergeometric.specs.Fraction.{of_whole}
use Rattle.hypergeometric.specs.FormOrder.{AreFactors}
use Rattle.hypergeometric.specs.PlainTerm.{plain_term}
use Rattle.hypergeometric.specs.ProperTerm.{ProperTerm}
use Rattle.hypergeometric.specs.TermFacts.{IsPolynomial, IsLowest, IsProper, IsPlain}

-- what each item and the default keep, each coefficient keeps
all_coefficients : (P : Meaning → Type 0) (d : Meaning) → P d → (xs : List Meaning) → AllByRecursion P xs → (k : ℕ) → P (get_or xs k d)
all_coefficients P d h [] all k = h
all_coefficients P d h (x ∷ xs) all zero = all.0
all_coefficients P d h (x ∷ xs) all (suc k) = all_coefficients P d h xs all.1 k

-- the polynomial 1, in n, and in n and k
abbrev pub one_in_n : Meaning
one_in_n = listed (number (pos 1) ∷ [])

abbrev pub one_in_n_k : Meaning
one_in_n_k = listed (one_in_n ∷ [])

pub one_fits : (level 1).ops.Fits one_in_n
one_fits = (omega arith, all_coefficients (λ m. unsigned_abs (number_of m) < 2 ^ 127) (number (pos 0)) (omega arith) (number (pos 1) ∷ []) (omega arith, tt))

zero_fits : (level 1).ops.Fits (listed [])
zero_fits = (omega arith, λ k. omega arith)

pub one_is_polynomial : IsPolynomial 2 one_in_n_k
one_is_polynomial = record {
  passes = refl;
  fits = (omega arith, all_coefficients (level 1).ops.Fits (listed []) zero_fits (one_in_n ∷ []) (one_fits, tt));
}

-- the term 1, the list 1, and their bounds
abbrev pub one_term : ProperTerm
one_term = plain_term (pos 1) one_in_n_k

one_is_lowest : IsLowest (of_whole (pos 1))
one_is_lowest = record {
  top = omega arith;
  bottom = omega arith;
  not_zero = λ e. cc;
  positive = omega (arith, ints);
  coprime = λ d top bottom. eq-one_of_dvd-one top;
}

no_factors : AreFactors []
no_factors = record { each = tt; distinct = tt }

pub one_is_proper : IsProper one_term
one_is_proper = record {
  poly = one_is_polynomial;
  poly_not_zero = λ e. cc;
  scale = one_is_lowest;
  n_base = one_is_lowest;
  k_base = one_is_lowest;
  up = no_factors;
  down = no_factors;
  over = no_factors;
  over_primitive = tt;
  guard = no_factors;
}

pub one_is_plain : IsPlain one_term
one_is_plain = record { proper = one_is_proper; cancelled = tt; up = tt; down = tt; over = tt; guard = tt; few = omega arith }
