-- A document that is known to be well formed: that of the sum of k^2. So the law on well-formed documents speaks of something. And parts of
-- documents that are not, each by one past its bound.
use Rattle.std.specs.Prelude.{◌≡◌, ℕ, zero, suc, ◌^◌, ◌<◌, ℤ, pos, negsuc, unsigned_abs, List, [], ◌∷◌, get_or}
use Rattle.std.specs.List.{AllByRecursion}
use Rattle.std.proofs.Common.{refl, ap, arith}
use Rattle.std.proofs.Math.Nat.{eq-one_of_dvd-one}
use Rattle.std.proofs.lemmas.Int.{ints}
use Rattle.ring_laws.specs.Meaning.{Meaning, number, listed}
use Rattle.ring_laws.specs.Wholes.{number_of}
use Rattle.poly_laws.specs.Values.{level}
use Rattle.hypergeometric.specs.Fraction.{of_whole}
use Rattle.hypergeometric.specs.FormOrder.{AreFactors}
use Rattle.hypergeometric.specs.LinearForm.{FactorList}
use Rattle.hypergeometric.specs.Match.{Match}
use Rattle.hypergeometric.specs.ProperTerm.{ProperTerm}
use Rattle.hypergeometric.specs.TermFacts.{IsPolynomial, IsLowest, IsProper, total_power}
use Rattle.document_text.specs.WellFormed.{ArePrimitiveFactors, IsFactorList, IsCarrier, IsMatch, IsWellFormed}
use Rattle.document_text.proofs.KnownDocuments.{squares, plain, unit_list, c, nought}

-- what each item and the default keep, each coefficient keeps
all_at : (P : Meaning → Type 0) (d : Meaning) → P d → (xs : List Meaning) → AllByRecursion P xs → (k : ℕ) → P (get_or xs k d)
all_at P d h [] all k = h
all_at P d h (x ∷ xs) all zero = all.0
all_at P d h (x ∷ xs) all (suc k) = all_at P d h xs all.1 k

abbrev FitsInN : Meaning → Type 0
FitsInN p = (level 1).ops.Fits p

-- the polynomials 0, 1 and k^2
nought_fits : FitsInN nought
nought_fits = (omega arith, λ k. omega arith)

constant_fits : (z : ℤ) → unsigned_abs z < 2 ^ 127 → FitsInN (c z)
constant_fits z h = (omega arith, all_at (λ m. unsigned_abs (number_of m) < 2 ^ 127) (number (pos 0)) (omega arith) (number z ∷ []) (h, tt))

unit_is_polynomial : IsPolynomial 2 (listed (c (pos 1) ∷ []))
unit_is_polynomial = record {
  passes = refl;
  fits = (omega arith, all_at FitsInN nought nought_fits (c (pos 1) ∷ []) (constant_fits (pos 1) (omega arith), tt));
}

square_is_polynomial : IsPolynomial 2 (listed (nought ∷ nought ∷ c (pos 1) ∷ []))
square_is_polynomial = record {
  passes = refl;
  fits = (
    omega arith,
    all_at FitsInN nought nought_fits (nought ∷ nought ∷ c (pos 1) ∷ [])
        (nought_fits, (nought_fits, (constant_fits (pos 1) (omega arith), tt))),
  );
}

-- 2*k^3-3*k^2+k
cube_is_polynomial : IsPolynomial 2 (listed (nought ∷ c (pos 1) ∷ c (negsuc 2) ∷ c (pos 2) ∷ []))
cube_is_polynomial = record {
  passes = refl;
  fits = (
    omega arith,
    all_at FitsInN nought nought_fits (nought ∷ c (pos 1) ∷ c (negsuc 2) ∷ c (pos 2) ∷ [])
        (nought_fits, (constant_fits (pos 1) (omega arith), (constant_fits (negsuc 2) (omega arith), (constant_fits (pos 2) (omega arith), tt)))),
  );
}

-- the fraction 1, no factors, and the list of factors 1
one_is_lowest : IsLowest (of_whole (pos 1))
one_is_lowest = record {
  top = omega arith;
  bottom = omega arith;
  not_zero = λ e. cc;
  positive = omega (arith, ints);
  coprime = λ d top bottom. eq-one_of_dvd-one top;
}

no_factors : AreFactors []
no_factors = record { each = tt; distinct = tt }

no_primitive_factors : ArePrimitiveFactors []
no_primitive_factors = record { each = tt; primitive = tt; sorted = tt }

unit_is_list : IsFactorList unit_list
unit_is_list = record { scale = omega arith; not_zero = λ e. cc; factors = no_primitive_factors }

-- a polynomial as a term
plain_is_proper : (p : Meaning) → IsPolynomial 2 p → ¬ (p ≡ nought) → IsProper (plain p)
plain_is_proper p h some = record {
  poly = h;
  poly_not_zero = some;
  scale = one_is_lowest;
  n_base = one_is_lowest;
  k_base = one_is_lowest;
  up = no_factors;
  down = no_factors;
  over = no_factors;
  over_primitive = tt;
  guard = no_factors;
}

squares_is_well_formed : IsWellFormed squares
squares_is_well_formed = record {
  term = record {
    proper = plain_is_proper _ square_is_polynomial (λ e. cc);
    cancelled = tt;
    up = tt;
    down = tt;
    over = tt;
    guard = tt;
    few = omega arith;
  };
  order = refl;
  found = record {
    matches = tt;
    q = unit_is_list;
    r = unit_is_list;
    some_multiplier = λ e. cc;
    multipliers = (record { passes = refl; fits = constant_fits (pos 6) (omega arith) }, tt);
    carrier = record { proper = plain_is_proper _ unit_is_polynomial (λ e. cc); few = omega arith };
    y = cube_is_polynomial;
    poles = no_primitive_factors;
    ratio_top = unit_is_list;
    ratio_bottom = unit_is_list;
    range = tt;
  };
}

-- a list whose scale is 2^127, a carrier with 169 factorials, a match by the shift 2^64
scale_out : (l : FactorList) → l.scale ≡ pos (2 ^ 127) → ¬ IsFactorList l
scale_out l e h = omega (arith, ap unsigned_abs e, h.scale)

carrier_out : (f : ProperTerm) → total_power f.up ≡ 169 → ¬ IsCarrier f
carrier_out f e h = omega (arith, e, h.few)

match_out : (m : Match) → m.shift ≡ 2 ^ 64 → ¬ IsMatch m
match_out m e h = omega (arith, e, h.shift)
