-- For each relation that says that a step of reducing a row of polynomials is in bounds, a known value at which it holds or one at which it doesn't.
use Rattle.std.specs.Prelude.{◌≡◌, ℕ, zero, suc, ◌≤◌, ◌<◌, ◌^◌, pos, [], ◌∷◌, refl}
use Rattle.std.proofs.Common.{arith, lit<}
use Rattle.std.proofs.Math.Nat.{one-dvd}
use Rattle.std.proofs.lemmas.Nat.Gcd.{dvd_refl}
use Rattle.ring_laws.specs.Meaning.{number, listed}
use Rattle.ring_laws.specs.Algebra.{Passing}
use Rattle.ring_laws.specs.Wholes.{whole_algebra}
use Rattle.poly_laws.specs.Lists.{coefficient_at}
use Rattle.poly_laws.specs.LongDivision.{Divided, begin, step}
use Rattle.poly_divide.specs.Forms.{linear}
use Rattle.whole_roots.specs.Differences.{polynomials}
use Rattle.whole_roots.specs.FactorBounds.{stretched_list, FactorsInBounds}
use Rattle.whole_roots.specs.LinearFactors.{AreLinearFactors}
use Rattle.reducing.specs.TakenOut.{TakingOutInBounds, AllTakingOutInBounds}
use Rattle.reducing.specs.PolynomialRows.{Row, meant, IsLeast, IsNonzeroAt, degree_at, WithoutContent, DivisionOfPolynomials, PolynomialsInBounds, CoreInBounds, SplittingInBounds}
use Rattle.reducing.specs.PolynomialAnswers.{FactorInBounds, FactorsOfRowInBounds}
use Rattle.reducing.proofs.Constants.{no_form_divides}
use Rattle.reducing.proofs.RowsInBounds.{row_in_bounds}

too_large : ¬ (2 ^ 127 < 2 ^ 127)
too_large h = omega (arith, h)

-- ---- 2^126*n by n + 2 isn't: the second step has the product 2^126*2
abbrev steep : Row
steep = (linear (pos (2 ^ 126)) (pos 0), refl) ∷ []

division_out : ¬ (DivisionOfPolynomials (linear (pos (2 ^ 126)) (pos 0)) (linear (pos 1) (pos 2)))
division_out h = too_large ((h (number (pos 2) ∷ []) (number (pos 1)) refl (number (pos 0)) (number (pos (2 ^ 126)) ∷ []) (number (pos 0) ∷ [])
    (number (pos (2 ^ 126)) ∷ []) 0 refl run).reduction part refl 0 (omega arith)).0
  where
    none : Passing whole_algebra
    none = (number (pos 0), refl)

    part : Passing whole_algebra
    part = (number (pos (2 ^ 126)), refl)

    run : Divided whole_algebra (number (pos 2) ∷ []) (number (pos 1)) (number (pos (2 ^ 126)) ∷ []) (number (pos 0) ∷ [])
        (number (pos (2 ^ 126)) ∷ [])
    run = step (number (pos (2 ^ 126))) none begin refl

taking_out : ¬ (TakingOutInBounds DivisionOfPolynomials polynomials (linear (pos 1) (pos 2)) steep)
taking_out h = division_out (h 0 steep refl 0 (omega arith) (λ i b. absurd (omega (arith, b))))

all_taking_out : ¬ (AllTakingOutInBounds DivisionOfPolynomials polynomials (linear (pos 1) (pos 2) ∷ []) steep)
all_taking_out h = taking_out h.0

factor_out : ¬ (FactorInBounds (linear (pos 1) (pos 2)) (meant steep))
factor_out h = taking_out (h steep refl)

factors_of_row_out : ¬ (FactorsOfRowInBounds (((1, pos 2), 1) ∷ []) (meant steep))
factors_of_row_out h = all_taking_out (h steep refl)

-- ---- nor is reducing n + 2^126: stretched by 4 its constant passes 127 bits
abbrev far : Row
far = (linear (pos 1) (pos (2 ^ 126)), refl) ∷ []

far_least : IsLeast (meant far) 0
far_least = record { within = omega arith; nonzero = refl; least = least_of; first = λ k b. absurd (omega (arith, b)) }
  where
    least_of : (k : ℕ) → k < 1 → IsNonzeroAt (meant far) k → degree_at (meant far) 0 ≤ degree_at (meant far) k
    least_of zero b h = omega arith
    least_of (suc k) b h = absurd (omega (arith, b))

far_content : WithoutContent far far
far_content = record {
  content = 1;
  is_content = record { divides = (one-dvd (2 ^ 126), (one-dvd 1, tt)); greatest = λ d h. h.1.0 };
  not_zero = λ e. cc;
  times = refl;
}

factors_out : ¬ (FactorsInBounds (linear (pos 1) (pos (2 ^ 126))))
factors_out h = let passed : 2 ^ 128 < 2 ^ 127 = h.numbers 4 (omega arith) (omega arith) 0 in omega (arith, passed)

row_out : ¬ (PolynomialsInBounds (meant far))
row_out h = factors_out (h.factoring far far 0 refl far_content far_least)

core_out : ¬ (CoreInBounds (linear (pos 1) (pos (2 ^ 126))))
core_out h = row_out h

splitting_out : ¬ (SplittingInBounds (linear (pos 1) (pos (2 ^ 126))))
splitting_out h = core_out h.core

-- ---- reducing the row 7 is: over its content it is 1, which has no linear factors
abbrev seven : Row
seven = (listed (number (pos 7) ∷ []), refl) ∷ []

abbrev one : Row
one = (listed (number (pos 1) ∷ []), refl) ∷ []

seven_content : WithoutContent seven one
seven_content = record {
  content = 7;
  is_content = record { divides = (dvd_refl 7, tt); greatest = λ d h. h.0 };
  not_zero = λ e. cc;
  times = refl;
}

one_isnt_zero : ¬ (pos 1 ≡ pos 0)
one_isnt_zero e = cc

no_factors : AreLinearFactors (listed (number (pos 1) ∷ [])) []
no_factors = record { rising = tt; each = tt; all = λ u v profile d. no_form_divides (pos 1) one_isnt_zero refl u v profile.from_one d }

one_stays : (u : ℕ) → 1 ≤ u → u ≤ 4 → (k : ℕ) → whole_algebra.ops.Fits (coefficient_at whole_algebra.ops (stretched_list u (number (pos 1) ∷ [])) k)
one_stays zero from to k = absurd (omega (arith, from))
one_stays (suc zero) from to zero = lit< tt
one_stays (suc zero) from to (suc k) = lit< tt
one_stays (suc (suc zero)) from to zero = lit< tt
one_stays (suc (suc zero)) from to (suc k) = lit< tt
one_stays (suc (suc (suc zero))) from to zero = lit< tt
one_stays (suc (suc (suc zero))) from to (suc k) = lit< tt
one_stays (suc (suc (suc (suc zero)))) from to zero = lit< tt
one_stays (suc (suc (suc (suc zero)))) from to (suc k) = lit< tt
one_stays (suc (suc (suc (suc (suc u))))) from to k = absurd (omega (arith, to))

factors_in : FactorsInBounds (listed (number (pos 1) ∷ []))
factors_in = record {
  numbers = one_stays;
  differences = λ u from to j below. absurd (omega (arith, below));
  divisions = λ u v form divides. absurd (no_form_divides (pos 1) one_isnt_zero refl u v form.from_one divides);
}

one_least : IsLeast (meant one) 0
one_least = record { within = omega arith; nonzero = refl; least = least_of; first = λ k b. absurd (omega (arith, b)) }
  where
    least_of : (k : ℕ) → k < 1 → IsNonzeroAt (meant one) k → degree_at (meant one) 0 ≤ degree_at (meant one) k
    least_of k b h = omega arith

row_in : PolynomialsInBounds (meant seven)
row_in = row_in_bounds seven one [] seven_content (record { place = 0; least = one_least; factors = no_factors }) factors_in tt

core_in : CoreInBounds (listed (number (pos 7) ∷ []))
core_in = row_in
