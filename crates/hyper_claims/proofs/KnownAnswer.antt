-- The right answer for y(n+2) = y(n+1) + y(n), the numbers of Fibonacci: the one pair is that of no factors, and it has no root.
use Rattle.std.proofs.Common.{◌≡◌, ℕ, zero, suc, List, [], ◌∷◌, refl, ap, sym, ◌∙◌, arith, inl}
use Rattle.std.proofs.Math.IntN.{pow}
use Rattle.std.specs.Prelude.{ℤ, pos, negsuc, ◌+ℤ◌, ◌*ℤ◌, slice_get, Some}
use Rattle.ring_solver.proofs.Read.{ring_z, reading_z}
use Rattle.ring_laws.specs.Meaning.{Meaning}
use Rattle.hypergeometric.specs.Fraction.{Fraction}
use Rattle.hyper_laws.specs.Cases.{case_polynomials, lead_sum, HasNoRoot}
use Rattle.hyper_laws.proofs.Sums.{power_none, power_more}
use Rattle.hyper_claims.specs.Pairs.{IsChoice, Choice, AreNormalChoices}
use Rattle.hyper_claims.specs.Claims.{HyperClaim, no_root, barren, solution, again}
use Rattle.hyper_claims.specs.HyperAnswer.{no_pairs, rootless, IsRightlyNamed, IsHyperAnswer}
use Rattle.hyper_claims.proofs.KnownFactors.{one, minus_one, none_of_first, none_of_last}
use Rattle.hyper_claims.proofs.Golden.{golden, no_golden}

-- -y(n) - y(n+1) + y(n+2) = 0
abbrev fibonacci : List Meaning
fibonacci = minus_one ∷ minus_one ∷ one ∷ []

-- ---- the leading coefficients -1, -1, 1 have no root
power_one : (z : ℤ) → pow z 1 ≡ z
power_one z = power_more z 0 ∙ ap (λ t. z *ℤ t) (power_none z) ∙ by_one z
  where
    by_one : (x : ℤ) → x *ℤ pos 1 ≡ x
    by_one x = ring_z (x ∷ []) (search reading_z depth 40 fits 20000) refl

power_two : (z : ℤ) → pow z 2 ≡ z *ℤ z
power_two z = power_more z 1 ∙ ap (λ t. z *ℤ t) (power_one z)

abbrev weighed : ℤ → ℤ → ℤ → ℤ → ℤ → ℤ → ℤ
weighed a b c d e f = negsuc 0 *ℤ (a *ℤ b) +ℤ (negsuc 0 *ℤ (c *ℤ d) +ℤ (pos 1 *ℤ (e *ℤ f) +ℤ pos 0))

weighed_powers : (u v : ℤ) → weighed (pow u 0) (pow v 2) (pow u 1) (pow v 1) (pow u 2) (pow v 0) ≡ golden u v
weighed_powers u v =
    ap (λ a. weighed a (pow v 2) (pow u 1) (pow v 1) (pow u 2) (pow v 0)) (power_none u)
    ∙ ap (λ b. weighed (pos 1) b (pow u 1) (pow v 1) (pow u 2) (pow v 0)) (power_two v)
    ∙ ap (λ c. weighed (pos 1) (v *ℤ v) c (pow v 1) (pow u 2) (pow v 0)) (power_one u)
    ∙ ap (λ d. weighed (pos 1) (v *ℤ v) u d (pow u 2) (pow v 0)) (power_one v)
    ∙ ap (λ e. weighed (pos 1) (v *ℤ v) u v e (pow v 0)) (power_two u)
    ∙ ap (λ f. weighed (pos 1) (v *ℤ v) u v (u *ℤ u) f) (power_none v) ∙ sums u v
  where
    sums : (u v : ℤ) → weighed (pos 1) (v *ℤ v) u v (u *ℤ u) (pos 1) ≡ golden u v
    sums u v = ring_z (u ∷ v ∷ []) (search reading_z depth 40 fits 20000) refl

lead_is_golden : (z : Fraction) → lead_sum 0 z 0 (case_polynomials one one 0 fibonacci) ≡ golden z.top z.bottom
lead_is_golden z = weighed_powers z.top z.bottom

no_root_at_all : HasNoRoot fibonacci one one
no_root_at_all = record {
  degree = 0;
  greatest = record {
    each = (omega arith, (omega arith, (omega arith, tt)));
    place = 0;
    within = omega arith;
    reached = refl;
  };
  none = λ z p root.
      no_golden p.bottom p.bottom z.top (omega arith) p.from_one
      (ap (golden z.top) (sym p.bottom_is) ∙ sym (lead_is_golden z) ∙ root);
}

-- ---- the whole answer
no_powers : (ps : List ℕ) → IsChoice [] ps → ps ≡ []
no_powers [] h = refl
no_powers (p ∷ ps) h = absurd h

abbrev nothing : Choice
nothing = record { a = []; b = [] }

one_pair : AreNormalChoices [] [] (nothing ∷ [])
one_pair = record {
  in_order = (tt, tt);
  each = (record { a = tt; b = tt; normal = tt }, tt);
  all = λ x k. inl (λ i. record { a = no_powers x.a k.a i; b = no_powers x.b k.b i });
}

abbrev answer : List HyperClaim
answer = no_root [] [] ∷ []

fibonacci_has_none : IsHyperAnswer fibonacci answer
fibonacci_has_none = record {
  order = 2;
  size = refl;
  a_factors = [];
  of_first = none_of_first;
  b_factors = [];
  of_last = none_of_last;
  choices = nothing ∷ [];
  are_choices = one_pair;
  of_pairs = rootless no_root_at_all no_pairs;
  named = named;
}
  where
    named : (place : ℕ) (claim : HyperClaim) → slice_get answer place ≡ Some claim → IsRightlyNamed answer place claim
    named place (no_root a b) e = tt
    named place (barren a b z) e = tt
    named zero (solution a b z from c) e = absurd cc
    named (suc place) (solution a b z from c) e = absurd cc
    named zero (again earlier a b z c) e = absurd cc
    named (suc place) (again earlier a b z c) e = absurd cc
