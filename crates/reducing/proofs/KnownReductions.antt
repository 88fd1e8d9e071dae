-- Reducing 2*n + 2, which is 2 times its one linear factor, and finding its parts, is in bounds.
use Rattle.std.specs.Prelude.{◌≡◌, ℕ, zero, suc, ◌≤◌, ◌<◌, ℤ, pos, [], ◌∷◌, refl}
use Rattle.std.proofs.Common.{ap, sym, ◌∙◌, subst, arith, lit<}
use Rattle.std.proofs.lemmas.Nat.Gcd.{dvd_refl}
use Rattle.ring_laws.specs.Meaning.{Meaning, items}
use Rattle.ring_laws.specs.Wholes.{whole_algebra}
use Rattle.poly_laws.specs.Lists.{coefficient_at}
use Rattle.poly_laws.proofs.Coefficients.{meanings_same}
use Rattle.poly_divide.specs.Content.{row_sizes, IsContent}
use Rattle.poly_divide.specs.Forms.{linear}
use Rattle.whole_roots.specs.Differences.{polynomials, DifferencesInBounds}
use Rattle.whole_roots.specs.FactorBounds.{stretched, stretched_list, DivisionsInBounds, FactorsInBounds}
use Rattle.whole_roots.specs.LinearFactors.{IsProfileForm, PowerDivides, form_power}
use Rattle.kernel_laws.specs.RowSteps.{QuotientsInBounds}
use Rattle.reducing.specs.TakenOut.{TakingOutInBounds, AllTakingOutInBounds}
use Rattle.reducing.specs.PolynomialRows.{Row, meant, IsLeast, IsNonzeroAt, degree_at, WithoutContent, DivisionOfPolynomials, PolynomialsInBounds, CoreInBounds}
use Rattle.reducing.specs.PolynomialAnswers.{FactorInBounds, FactorsOfRowInBounds}
use Rattle.reducing.specs.Laws.FactorLists.{laws, form_power_is}
use Rattle.reducing.proofs.RowsInBounds.{row_in_bounds}
use Rattle.reducing.proofs.KnownForms.{form, only, left_in, factors_of_form}

abbrev pub row : Row
row = form ∷ []

-- n + 1 is taken out in bounds
taking_in : TakingOutInBounds DivisionOfPolynomials polynomials (linear (pos 1) (pos 1)) row
taking_in power [] e = cc
taking_in power (q ∷ []) e = at
  where
    head : {x y : Meaning} → x ∷ [] ≡ y ∷ [] → x ≡ y
    head h = cc

    times : polynomials.ops.product q.0 (form_power 1 (pos 1) power) ≡ linear (pos 1) (pos 1)
    times = ap (polynomials.ops.product q.0) (form_power_is 1 (pos 1) power) ∙ sym (head e)

    at : QuotientsInBounds DivisionOfPolynomials polynomials (linear (pos 1) (pos 1)) (q.0 ∷ [])
    at zero b h = left_in power q times
    at (suc k) b h = absurd (omega (arith, b))
taking_in power (q ∷ r ∷ rs) e = cc

all_taking_in : AllTakingOutInBounds DivisionOfPolynomials polynomials (linear (pos 1) (pos 1) ∷ []) row
all_taking_in = (taking_in, λ between h. tt)

factor_in : FactorInBounds (linear (pos 1) (pos 1)) (meant row)
factor_in other e = subst (TakingOutInBounds DivisionOfPolynomials polynomials (linear (pos 1) (pos 1)))
    (meanings_same polynomials laws.closed row other e) taking_in

factors_of_row_in : FactorsOfRowInBounds (((1, pos 1), 1) ∷ []) (meant row)
factors_of_row_in other e = subst (AllTakingOutInBounds DivisionOfPolynomials polynomials (linear (pos 1) (pos 1) ∷ []))
    (meanings_same polynomials laws.closed row other e) all_taking_in

-- stretched by u it is n + u, with the difference 1
numbers_in : (u : ℕ) → 1 ≤ u → u ≤ 4 → (k : ℕ)
    → whole_algebra.ops.Fits (coefficient_at whole_algebra.ops (stretched_list u (items (linear (pos 1) (pos 1)))) k)
numbers_in zero from to k = absurd (omega (arith, from))
numbers_in (suc zero) from to zero = lit< tt
numbers_in (suc zero) from to (suc zero) = lit< tt
numbers_in (suc zero) from to (suc (suc k)) = lit< tt
numbers_in (suc (suc zero)) from to zero = lit< tt
numbers_in (suc (suc zero)) from to (suc zero) = lit< tt
numbers_in (suc (suc zero)) from to (suc (suc k)) = lit< tt
numbers_in (suc (suc (suc zero))) from to zero = lit< tt
numbers_in (suc (suc (suc zero))) from to (suc zero) = lit< tt
numbers_in (suc (suc (suc zero))) from to (suc (suc k)) = lit< tt
numbers_in (suc (suc (suc (suc zero)))) from to zero = lit< tt
numbers_in (suc (suc (suc (suc zero)))) from to (suc zero) = lit< tt
numbers_in (suc (suc (suc (suc zero)))) from to (suc (suc k)) = lit< tt
numbers_in (suc (suc (suc (suc (suc u))))) from to k = absurd (omega (arith, to))

differences_in : (u : ℕ) → 1 ≤ u → u ≤ 4 → DifferencesInBounds (stretched u (linear (pos 1) (pos 1)))
differences_in u from to (suc j) below k = absurd (omega (arith, below))
differences_in zero from to zero below k = absurd (omega (arith, from))
differences_in (suc zero) from to zero below zero = lit< tt
differences_in (suc zero) from to zero below (suc zero) = lit< tt
differences_in (suc zero) from to zero below (suc (suc k)) = lit< tt
differences_in (suc (suc zero)) from to zero below zero = lit< tt
differences_in (suc (suc zero)) from to zero below (suc zero) = lit< tt
differences_in (suc (suc zero)) from to zero below (suc (suc k)) = lit< tt
differences_in (suc (suc (suc zero))) from to zero below zero = lit< tt
differences_in (suc (suc (suc zero))) from to zero below (suc zero) = lit< tt
differences_in (suc (suc (suc zero))) from to zero below (suc (suc k)) = lit< tt
differences_in (suc (suc (suc (suc zero)))) from to zero below zero = lit< tt
differences_in (suc (suc (suc (suc zero)))) from to zero below (suc zero) = lit< tt
differences_in (suc (suc (suc (suc zero)))) from to zero below (suc (suc k)) = lit< tt
differences_in (suc (suc (suc (suc (suc u))))) from to zero below k = absurd (omega (arith, to))

divisions_in : (u : ℕ) (v : ℤ) → IsProfileForm u v → PowerDivides u v 1 (linear (pos 1) (pos 1)) → DivisionsInBounds u v (linear (pos 1) (pos 1))
divisions_in u v profile d =
    let e = only u v profile d in
    subst (λ s. DivisionsInBounds s v (linear (pos 1) (pos 1))) (sym e.0)
    (subst (λ s. DivisionsInBounds 1 s (linear (pos 1) (pos 1))) (sym e.1) left_in)

factors_in : FactorsInBounds (linear (pos 1) (pos 1))
factors_in = record { numbers = numbers_in; differences = differences_in; divisions = divisions_in }

-- 2*n + 2 over its content 2 is n + 1
abbrev pub twice : Row
twice = (linear (pos 2) (pos 2), refl) ∷ []

pub two_is_content : IsContent (row_sizes (meant twice)) 2
two_is_content = record { divides = (dvd_refl 2, (dvd_refl 2, tt)); greatest = λ d h. h.0 }

pub twice_content : WithoutContent twice row
twice_content = record { content = 2; is_content = two_is_content; not_zero = λ e. cc; times = refl }

pub least : IsLeast (meant row) 0
least = record { within = omega arith; nonzero = refl; least = least_of; first = λ k b. absurd (omega (arith, b)) }
  where
    least_of : (k : ℕ) → k < 1 → IsNonzeroAt (meant row) k → degree_at (meant row) 0 ≤ degree_at (meant row) k
    least_of zero b h = omega arith
    least_of (suc k) b h = absurd (omega (arith, b))

row_in : PolynomialsInBounds (meant twice)
row_in = row_in_bounds twice row (((1, pos 1), 1) ∷ []) twice_content (record { place = 0; least = least; factors = factors_of_form })
    factors_in all_taking_in

pub core_in : CoreInBounds (linear (pos 2) (pos 2))
core_in = row_in
