-- Pairs and claims that are known from elsewhere, so that a wrong rule in specs/ does not check: the recurrence
-- 2n(n+1) y(n) - (n^2 + 3n - 2) y(n+1) + (n-1) y(n+2) = 0, which 2^n and n! solve (A=B 8.4).
use Rattle.std.proofs.Common.{◌≡◌, ℕ, List, [], ◌∷◌, refl, sym, ◌∙◌, inl, inr, arith}
use Rattle.std.proofs.lemmas.Int.{ints}
use Rattle.std.proofs.lemmas.Nat.Gcd.{dvd_refl}
use Rattle.std.proofs.Math.Nat.{dvd-mul_right}
use Rattle.std.specs.Prelude.{ℤ, pos, negsuc, ◌+ℤ◌, ◌*ℤ◌}
use Rattle.ring_solver.proofs.Read.{ring_z, reading_z}
use Rattle.ring_laws.specs.Meaning.{Meaning, number, listed}
use Rattle.hypergeometric.specs.Fraction.{of_whole}
use Rattle.hypergeometric.specs.LinearForm.{LinearForm, Factor}
use Rattle.whole_roots.specs.LinearFactors.{Entry}
use Rattle.hyper_laws.specs.Solutions.{IsFirstPlace}
use Rattle.hyper_laws.specs.FactorProducts.{product_of_factors}
use Rattle.hyper_claims.specs.Roots.{IsLess, HaveNoCommonDivisor}
use Rattle.hyper_claims.specs.Pairs.{chosen, IsChoice, IsEarlier, ComesBefore, IsShiftOf}
use Rattle.hyper_claims.specs.Claims.{HyperClaim, no_root, solution, again, case_of}
use Rattle.hyper_claims.specs.HyperAnswer.{Gives, IsSameSolution, shifted_last}

-- the linear factors of 2n(n+1), and the one of n - 2, which is n - 1 at n - 1
abbrev factors_of_a : List Entry
factors_of_a = ((1, pos 0), 1) ∷ ((1, pos 1), 1) ∷ []

abbrev line : ℤ → LinearForm
line v = record { n_slope = pos 1; k_slope = pos 0; offset = v }

next_only : chosen factors_of_a (0 ∷ 1 ∷ []) ≡ record { form = line (pos 1); power = 1 } ∷ []
next_only = refl

both_chosen : IsChoice factors_of_a (1 ∷ 1 ∷ [])
both_chosen = (omega arith, (omega arith, tt))

-- n + 1 alone comes before n alone, since the first power is less
order : IsEarlier (0 ∷ 1 ∷ []) (1 ∷ 0 ∷ [])
order = inl (omega arith)

-- and for one a the choices of b run
inner_order : ComesBefore (record { a = 0 ∷ 0 ∷ []; b = 0 ∷ [] }) (record { a = 0 ∷ 0 ∷ []; b = 1 ∷ [] })
inner_order = inr (refl, inl (omega arith))

-- n is n - 2 at n + 2, so the pair of n with n - 2 isn't normal
shifted : IsShiftOf (line (pos 0)) (line (negsuc 1))
shifted = (2, λ p. same p.n p.k)
  where
    same : (n k : ℤ) → (pos 1 *ℤ n +ℤ pos 0 *ℤ k) +ℤ pos 0 ≡ (pos 1 *ℤ (n +ℤ pos 2) +ℤ pos 0 *ℤ k) +ℤ negsuc 1
    same n k = ring_z (n ∷ k ∷ []) (search reading_z depth 40 fits 20000) refl

abbrev one : Meaning
one = listed (number (pos 1) ∷ [])

abbrev next_factor : List Factor
next_factor = record { form = line (pos 1); power = 1 } ∷ []

abbrev first_factor : List Factor
first_factor = record { form = line (pos 0); power = 1 } ∷ []

abbrev line_in_n : Meaning
line_in_n = listed (number (pos 0) ∷ number (pos 1) ∷ [])

-- the claims up to the fourth: 2^n; none for b = n - 2; n!; and n! again, with a = n and c = n
abbrev claims : List HyperClaim
claims =
    solution [] [] (of_whole (pos 2)) 0 one
    ∷ no_root [] (record { form = line (negsuc 1); power = 1 } ∷ [])
    ∷ solution next_factor [] (of_whole (pos 1)) 0 one
    ∷ again 2 first_factor [] (of_whole (pos 1)) (listed (number (pos 0) ∷ number (pos 1) ∷ [])) ∷ []

factorials_again : IsSameSolution claims (case_of first_factor [] (of_whole (pos 1))) (listed (number (pos 0) ∷ number (pos 1) ∷ [])) 2
factorials_again = record {
  a = next_factor;
  b = [];
  z = of_whole (pos 1);
  from = 0;
  polynomial = one;
  is = refl;
  same = refl;
}

-- the last coefficient n - 1 of order 2 gives b the factor n - 2
last_factor : shifted_last (one ∷ one ∷ listed (number (negsuc 0) ∷ number (pos 1) ∷ []) ∷ []) 2 ≡ listed (number (negsuc 1) ∷ number (pos 1) ∷ [])
last_factor = refl

-- both claims are of the case a = n, b = 1, z = 1 with c = n; and a solution without factors in b begins at 0
first_given : Gives first_factor [] (of_whole (pos 1)) (again 2 first_factor [] (of_whole (pos 1)) line_in_n) line_in_n
first_given = (refl, refl, refl, refl)

second_given : Gives first_factor [] (of_whole (pos 1)) (solution first_factor [] (of_whole (pos 1)) 0 line_in_n) line_in_n
second_given = (refl, refl, refl, refl, from_none)
  where
    single : (m : ℤ) → pos 1 +ℤ m *ℤ pos 0 ≡ pos 1
    single m = ring_z (m ∷ []) (search reading_z depth 40 fits 20000) refl

    from_none : IsFirstPlace (product_of_factors []) 0
    from_none = record { above = λ m e. absurd (omega (arith, ints, sym (single m) ∙ e)); least = λ place h. omega arith }

-- 1/2 is in lowest terms and less than 1, and 2/4 isn't in lowest terms
halves : IsLess (record { top = pos 1; bottom = pos 2 }) (of_whole (pos 1)) × ¬ (HaveNoCommonDivisor (record { top = pos 2; bottom = pos 4 }))
halves = (omega (arith, ints), λ h. two 2 refl (h 2 (dvd_refl 2) (dvd-mul_right 2 2)))
  where
    two : (d : ℕ) → d ≡ 2 → d ≡ 1 → ⊥
    two d e f = omega (arith, e, f)
