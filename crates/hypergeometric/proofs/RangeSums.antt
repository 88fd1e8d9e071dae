-- What telescopes at each point telescopes over every finite range.
use Rattle.std.proofs.Common.{◌≡◌, ap, ◌≢◌, ℕ, zero, suc, ◌<◌, ◌≤◌, sym, arith, subst}
use Rattle.std.proofs.lemmas.Int.{ints}
use Rattle.std.specs.Prelude.{pos}
use Rattle.hypergeometric.proofs.FractionLaws.{one_not_zero, product_not_zero, equal_to_itself, equal_chain, equal_sums, differences_join, zero_added}
use Rattle.hypergeometric.proofs.Definedness.{proper_value_defined}
use Rattle.hypergeometric.specs.Point.{Point, later_k}
use Rattle.hypergeometric.specs.Fraction.{Fraction, IsDefined, ◌≈◌, of_whole, fraction_difference}
use Rattle.hypergeometric.specs.ProperTerm.{HasFractions, proper_value}
use Rattle.hypergeometric.specs.Claim.{Claim, poles_value, certificate, left_side}
use Rattle.hypergeometric.specs.Telescopes.{TelescopesAt, TelescopesAtPoints, TelescopesOverRanges, sum_over_range}

no_step : (p : Point) → later_k p (pos 0) ≡ p
no_step p = ap (λ k. record p { k = k }) (omega (arith, ints))

next_step : (p : Point) (count : ℕ) → later_k (later_k p (pos count)) (pos 1) ≡ later_k p (pos (suc count))
next_step p count = ap (λ k. record p { k = k }) (omega (arith, ints))

-- a summand is the difference of g at the next place and at its own
abbrev IsDifference : (Point → Fraction) → (Point → Fraction) → Point → Type 0
IsDifference f g p = f p ≈ fraction_difference (g (later_k p (pos 1))) (g p)

-- the sum of differences of neighbours leaves the two ends
differences_over_range : (f g : Point → Fraction) (p : Point) (count : ℕ)
    → ((i : ℕ) → i < suc count → IsDifference f g (later_k p (pos i)))
    → ((i : ℕ) → i ≤ suc count → IsDefined (g (later_k p (pos i))))
    → sum_over_range f p (suc count) ≈ fraction_difference (g (later_k p (pos (suc count)))) (g p)
differences_over_range f g p zero each defined =
    let first : f (later_k p (pos 0)) ≈ fraction_difference (g (later_k p (pos 1))) (g p) =
    subst (λ (q : Point). f (later_k p (pos 0)) ≈ fraction_difference (g (later_k q (pos 1))) (g q)) (no_step p) (each 0 (omega arith)) in
    equal_chain (zero_added (f (later_k p (pos 0))) first.left_defined) first
differences_over_range f g p (suc count) each defined =
    let here : IsDefined (g (later_k p (pos (suc count)))) = defined (suc count) (omega arith) in
    let start : IsDefined (g p) = subst (λ (q : Point). IsDefined (g q)) (no_step p) (defined 0 (omega arith)) in
    let next : IsDefined (g (later_k p (pos (suc (suc count))))) = defined (suc (suc count)) (omega arith) in
    let last : f (later_k p (pos (suc count))) ≈ fraction_difference (g (later_k p (pos (suc (suc count))))) (g (later_k p (pos (suc count)))) =
    subst (λ (q : Point). f (later_k p (pos (suc count))) ≈ fraction_difference (g q) (g (later_k p (pos (suc count))))) (next_step p (suc count))
    (each (suc count) (omega arith)) in
    equal_chain
    (equal_sums (differences_over_range f g p count (λ i h. each i (omega arith)) (λ i h. defined i (omega arith))) last)
    (differences_join (g p) (g (later_k p (pos (suc count)))) (g (later_k p (pos (suc (suc count))))) start here next)

-- for every term and every claim, of any order
pub ranges_from_points : (f : Point → Fraction) (c : Claim) → HasFractions c.carrier → TelescopesAtPoints f c → TelescopesOverRanges f c
ranges_from_points f c t points p zero defined off_poles = equal_to_itself (of_whole (pos 0)) one_not_zero
ranges_from_points f c t points p (suc count) defined off_poles =
    differences_over_range (left_side f c) (certificate c) p count
    (λ i h. (at_place i h).equal)
    (λ i h. product_not_zero _ _ (carrier_defined i h) (off_poles i h))
  where
    at_place : (i : ℕ) → i < suc count → TelescopesAt f c (later_k p (pos i))
    at_place i h = points (later_k p (pos i)) (defined i h) (off_poles i (omega arith))
        (subst (λ (q : Point). poles_value c q ≢ pos 0) (sym (next_step p i)) (off_poles (suc i) (omega arith)))

    carrier_defined : (i : ℕ) → i ≤ suc count → IsDefined (proper_value c.carrier (later_k p (pos i)))
    carrier_defined zero h = proper_value_defined c.carrier (later_k p (pos 0)) t (at_place 0 (omega arith)).carrier_here
    carrier_defined (suc j) h =
        subst (λ (q : Point). IsDefined (proper_value c.carrier q)) (next_step p j)
        (proper_value_defined c.carrier (later_k (later_k p (pos j)) (pos 1)) t (at_place j (omega arith)).carrier_next)
