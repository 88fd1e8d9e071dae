-- Whole witnesses: a solution, a first place, bounds of degrees, and a barren case whose z is a root.
use Rattle.std.proofs.Common.{◌≡◌, ℕ, zero, suc, ◌<◌, List, [], ◌∷◌, refl, sym, ◌∙◌, subst, arith, ⊎_elim, inl}
use Rattle.std.proofs.Math.IntN.{pow}
use Rattle.std.proofs.lemmas.Int.{ints}
use Rattle.std.specs.Prelude.{ℤ, pos, negsuc, ◌+ℤ◌, ◌-ℤ◌, ◌*ℤ◌, ◌<ℤ◌, ◌≤ℤ◌, Some, None}
use Rattle.ring_solver.proofs.Read.{ring_z, reading_z}
use Rattle.ring_laws.specs.Meaning.{Meaning, number, listed}
use Rattle.hypergeometric.specs.Fraction.{of_whole}
use Rattle.hyper_laws.specs.PolynomialSolutions.{Solves}
use Rattle.hyper_laws.specs.Cases.{Case, case_polynomials, case_equation, IsBarren, lead_sum}
use Rattle.hyper_laws.specs.Solutions.{IsFreeOfZeros, IsSolution, IsFirstPlace}
use Rattle.hyper_laws.specs.DegreeBounds.{HasDegree, difference_part, IsExcess, IsDegreeBound}
use Rattle.hyper_laws.proofs.Solving.{equation_gives_solution}
use Rattle.hyper_laws.proofs.Complete.{none_is_complete}
use Rattle.hyper_laws.proofs.Barren.{none_is_barren}
use Rattle.hyper_laws.proofs.KnownCases.{one, line, next_line, recurrence, case_with, factorials_solve, small}

-- ---- n! is a solution from 0 on
one_is_free : IsFreeOfZeros one (pos 0)
one_is_free m b e = let none : pos 1 +ℤ m *ℤ pos 0 ≡ pos 1 = single m in omega (arith, ints, sym none ∙ e)
  where
    single : (m : ℤ) → pos 1 +ℤ m *ℤ pos 0 ≡ pos 1
    single m = ring_z (m ∷ []) (search reading_z depth 40 fits 20000) refl

factorials : IsSolution recurrence (case_with next_line one (of_whole (pos 1))) one (pos 0)
factorials = record {
  not_zero = λ e. cc;
  free = one_is_free;
  satisfies = equation_gives_solution (case_with next_line one (of_whole (pos 1))) one (pos 0) (λ e. omega (arith, ints, e)) one_is_free recurrence
      factorials_solve;
}

-- ---- 3 is the first place for n - 2
root_two : (m : ℤ) → negsuc 1 +ℤ m *ℤ (pos 1 +ℤ m *ℤ pos 0) ≡ m -ℤ pos 2
root_two m = ring_z (m ∷ []) (search reading_z depth 40 fits 20000) refl

first_place : IsFirstPlace (listed (number (negsuc 1) ∷ number (pos 1) ∷ [])) 3
first_place = record {
  above = λ m e. omega (arith, ints, sym (root_two m) ∙ e);
  least = λ place h. let below : pos 2 <ℤ pos place = h (pos 2) refl in omega (arith, ints, below);
}

-- ---- (n+1) c(n) - n c(n+1) = 0: the bound is 1, since 1 - x is 0 at 1
small_excess : IsExcess small (pos 0)
small_excess = record {
  each = each;
  place = 1;
  within = omega arith;
  degree = 1;
  has = refl;
  reached = refl;
}
  where
    each : (j degree : ℕ) → j < 2 → HasDegree (difference_part small j) degree → pos degree ≤ℤ (pos j +ℤ pos 0)
    each zero degree b h = omega (arith, ints, h)
    each (suc zero) degree b h = omega (arith, ints, h)
    each (suc (suc j)) degree b h = absurd (omega (arith, b))

one_minus : (m : ℤ) → pos 1 +ℤ m *ℤ (negsuc 0 +ℤ m *ℤ pos 0) ≡ pos 1 -ℤ m
one_minus m = ring_z (m ∷ []) (search reading_z depth 40 fits 20000) refl

small_bound : IsDegreeBound small (Some 1)
small_bound = record {
  excess = pos 0;
  is_excess = small_excess;
  greatest = (
    inl refl,
    λ degree h. ⊎_elim (λ e. omega (arith, ints, sym (one_minus (pos degree)) ∙ e)) (λ e. omega (arith, ints, e)) h,
  );
}

-- ---- n c(n) - (n+1) c(n+1) = 0 has no polynomial solution, though z = 1 is a root: y(n) = 1/n
abbrev reciprocals : List Meaning
reciprocals = line ∷ listed (number (negsuc 0) ∷ number (negsuc 0) ∷ []) ∷ []

abbrev at_one : Case
at_one = case_with one one (of_whole (pos 1))

-- the case a = b = 1, z = 1: z is a root, and the equation is the recurrence
their_root : lead_sum 1 (of_whole (pos 1)) 0 (case_polynomials one one 0 reciprocals) ≡ pos 0
unfolding pow lib.IntN.one
their_root = refl

their_equation : case_equation reciprocals at_one ≡ reciprocals
unfolding pow lib.IntN.one
their_equation = refl

minus_one_minus : (m : ℤ) → negsuc 0 +ℤ m *ℤ (negsuc 0 +ℤ m *ℤ pos 0) ≡ negsuc 0 -ℤ m
minus_one_minus m = ring_z (m ∷ []) (search reading_z depth 40 fits 20000) refl

no_bound : IsDegreeBound reciprocals None
no_bound = record {
  excess = pos 0;
  is_excess = record { each = each; place = 1; within = omega arith; degree = 1; has = refl; reached = refl };
  greatest = λ degree h. ⊎_elim (λ e. omega (arith, ints, sym (minus_one_minus (pos degree)) ∙ e)) (λ e. omega (arith, ints, e)) h;
}
  where
    each : (j degree : ℕ) → j < 2 → HasDegree (difference_part reciprocals j) degree → pos degree ≤ℤ (pos j +ℤ pos 0)
    each zero degree b h = omega (arith, ints, h)
    each (suc zero) degree b h = omega (arith, ints, h)
    each (suc (suc j)) degree b h = absurd (omega (arith, b))

barren_case : IsBarren reciprocals at_one
barren_case c h = none_is_barren reciprocals (none_is_complete reciprocals no_bound) c (subst (λ fs. Solves fs c.0) their_equation h)
