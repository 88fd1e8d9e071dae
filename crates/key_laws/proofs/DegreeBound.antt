-- Every solution of the key equation, whatever its multipliers are, is within the degree bound.
use Rattle.std.specs.Prelude.{◌≡◌, ℕ, zero, suc, ◌+◌, ◌≤◌, Option, List, [], ◌∷◌, length, refl}
use Rattle.std.proofs.Common.{◌∙◌, ⊎_elim, arith}
use Rattle.ring_laws.specs.Meaning.{Meaning}
use Rattle.ring_laws.specs.Algebra.{Ops, Algebra, Passing, within, Laws}
use Rattle.ring_laws.specs.Division.{DomainLaws}
use Rattle.poly_laws.specs.PolyAlgebra.{poly_algebra}
use Rattle.poly_laws.proofs.PolyDomain.{no_divisors_within}
use Rattle.poly_laws.proofs.Trimming.{beyond, zero_or_not}
use Rattle.kernel_laws.specs.Answers.{Vector, meant}
use Rattle.kernel_laws.specs.Reduction.{bare}
use Rattle.key_laws.specs.KeyEquation.{SolvesWith}
use Rattle.key_laws.specs.DegreeBounds.{HaveZeros, IsGreatestDegree, IsBoundAt, IsDegreeBound, coefficient_count, IsWithin}
use Rattle.key_laws.proofs.Candidates.{below_bound, none_before, agree_or_not, ends_q, ends_b, CandidateFrom, differ_up, agree_above, lead_above}
use Rattle.poly_laws.proofs.ShiftedTops.{EndsBy}
use Rattle.key_laws.proofs.Differences.{difference_at, stays_at_top, stays_below_top}
use Rattle.division_laws.proofs.Polynomials.{list_of, part, nought_part}
use Rattle.key_laws.proofs.Polynomials.{solves_at}
use Rattle.key_laws.proofs.GreatestDegrees.{no_mix}

module _ (a : Algebra) (l : Laws a) (d : DomainLaws a) where
  abbrev base : Ops (Passing a)
  base = within a l.closed

  module _ (q b : Passing (poly_algebra a)) (sides : List (Passing (poly_algebra a))) (m : ℕ)
      (is_degree : IsGreatestDegree a.ops (q.0 ∷ b.0 ∷ []) m) where
    abbrev meanings : List Meaning
    meanings = bare (poly_algebra a) sides

    abbrev Candidate : ℕ → Type 0
    Candidate i = CandidateFrom a l d q b sides m is_degree i

    module _ (y : Passing (poly_algebra a)) (v : Vector a) (solves : SolvesWith a.ops q.0 b.0 (bare (poly_algebra a) sides) y.0 (meant a v)) where
      -- a coefficient that isn't zero on the left is one of some side
      on_a_side : (k : ℕ) → ¬ (difference_at base l.ring (list_of a l q) (list_of a l b) (list_of a l y) k ≡ base.nought)
          → ¬ HaveZeros a.ops meanings k
      on_a_side k some h = some (solves_at a l q b sides y v solves k ∙ no_mix a l v sides k h)

      -- the degree of a solution is at most a candidate
      degree_from : (e : ℕ) → EndsBy base l.ring (list_of a l y) e → ¬ (part a l y e ≡ base.nought) → Candidate e
      degree_from e ends some = ⊎_elim agreeing differing (agree_or_not a l d (part a l q m) (part a l b m))
        where
          differing : ¬ (part a l q m ≡ part a l b m) → Candidate e
          differing n =
              differ_up a l d q b sides m is_degree e n (on_a_side (m + e)
              (stays_at_top base l.ring (no_divisors_within a l.closed d) (list_of a l q) (list_of a l b) (list_of a l y) m e (m + e) (ends_q a l d q b sides m is_degree) (ends_b a l d q b sides m is_degree) ends refl n some))

          lowest : part a l q m ≡ part a l b m → m ≡ 0 → e ≡ 0 → Candidate e
          lowest same f g = lead_above a l d q b sides m is_degree e same (none_before a l d m e f g (part a l q m) (list_of a l b) (list_of a l q))

          one_below : part a l q m ≡ part a l b m → (n : ℕ) → suc n ≡ m + e → Candidate e
          one_below same n p =
              ⊎_elim
              (λ z. lead_above a l d q b sides m is_degree e same (stays_below_top base l.ring (no_divisors_within a l.closed d) (list_of a l q) (list_of a l b) (list_of a l y)
              m e n (ends_q a l d q b sides m is_degree) (ends_b a l d q b sides m is_degree) ends p same some z))
              (λ z. agree_above a l d q b sides m is_degree e n same p (on_a_side n z))
              (zero_or_not base l.ring (difference_at base l.ring (list_of a l q) (list_of a l b) (list_of a l y) n))

          by_sum : (n : ℕ) → n ≡ m + e → part a l q m ≡ part a l b m → Candidate e
          by_sum zero p same = lowest same (omega arith) (omega arith)
          by_sum (suc n) p same = one_below same n p

          agreeing : part a l q m ≡ part a l b m → Candidate e
          agreeing same = by_sum (m + e) refl same

      module _ (bound : Option ℕ) (bounds : IsBoundAt a.ops q.0 b.0 (bare (poly_algebra a) sides) m bound) where
        zero_above : (fuel i : ℕ) → coefficient_count bound ≤ i → length (list_of a l y) ≤ i + fuel → part a l y i ≡ base.nought
        zero_above zero i c h = beyond base (list_of a l y) i (omega (arith, h))
        zero_above (suc fuel) i c h =
            let later : EndsBy base l.ring (list_of a l y) i = λ k p. zero_above fuel k (omega (arith, c, p)) (omega (arith, h, p)) in
            ⊎_elim (λ z. z) (λ some. absurd (too_high (degree_from i later some))) (zero_or_not base l.ring (part a l y i))
          where
            too_high : Candidate i → ⊥
            too_high f = omega (arith, c, f.from, below_bound a.ops q.0 b.0 meanings m bound bounds f.place f.candidate)

        is_within : IsWithin a.ops bound y.0
        is_within i c = nought_part a l y i (zero_above (length (list_of a l y)) i c (omega arith))

  -- every solution is within the bound
  pub solutions_are_within : (q b : Passing (poly_algebra a)) (sides : List (Passing (poly_algebra a))) (bound : Option ℕ)
      → IsDegreeBound a.ops q.0 b.0 (bare (poly_algebra a) sides) bound → (y : Passing (poly_algebra a)) (v : Vector a)
      → SolvesWith a.ops q.0 b.0 (bare (poly_algebra a) sides) y.0 (meant a v) → IsWithin a.ops bound y.0
  solutions_are_within q b sides bound h y v solves = is_within q b sides h.degree h.is_degree y v solves bound h.bounds
