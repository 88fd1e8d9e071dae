-- A claim that telescopes a term telescopes whatever has the term's values.
use Rattle.std.proofs.Common.{ℕ, zero, suc, List, [], ◌∷◌}
use Rattle.std.specs.Prelude.{pos, ◌*ℤ◌}
use Rattle.ring_laws.specs.Meaning.{Meaning}
use Rattle.hypergeometric.specs.Point.{Point, later_n, later_k}
use Rattle.hypergeometric.specs.Fraction.{Fraction, ◌≈◌, of_whole}
use Rattle.hypergeometric.specs.LinearForm.{factor_list_value}
use Rattle.hypergeometric.specs.ProperTerm.{poly_value, value_in_n}
use Rattle.hypergeometric.specs.Claim.{Claim, left_side, shifted_sum, AllDefined}
use Rattle.hypergeometric.specs.Telescopes.{Telescopes, TelescopesAtPoints, TelescopesOverRanges, HasRatio, sum_over_range}
use Rattle.hypergeometric.proofs.FractionLaws.{one_not_zero, equal_to_itself, equal_symmetric, equal_chain, equal_sums, equal_products}

equal_ranges : (f g : Point → Fraction) → ((p : Point) → f p ≈ g p) → (p : Point) (count : ℕ) → sum_over_range f p count ≈ sum_over_range g p count
equal_ranges f g same p zero = equal_to_itself (of_whole (pos 0)) one_not_zero
equal_ranges f g same p (suc count) = equal_sums (equal_ranges f g same p count) (same (later_k p (pos count)))

-- f and g are defined everywhere, and equal
module _ (f g : Point → Fraction) (same : (p : Point) → f p ≈ g p) where
  all_defined : (multipliers : List Meaning) (p : Point) → AllDefined f multipliers p
  all_defined [] p = tt
  all_defined (a ∷ more) p = ((same p).left_defined, all_defined more (later_n p (pos 1)))

  equal_shifted : (multipliers : List Meaning) (p q : Point) → shifted_sum g multipliers p q ≈ shifted_sum f multipliers p q
  equal_shifted [] p q = equal_to_itself (of_whole (pos 0)) one_not_zero
  equal_shifted (a ∷ more) p q =
      equal_sums (equal_products (equal_to_itself (of_whole (value_in_n a p)) one_not_zero) (equal_symmetric (same q)))
      (equal_shifted more p (later_n q (pos 1)))

  points : (c : Claim) → TelescopesAtPoints f c → TelescopesAtPoints g c
  points c t p defined here next =
      let at = t p (all_defined c.multipliers p) here next in record {
        carrier_here = at.carrier_here;
        carrier_next = at.carrier_next;
        equal = equal_chain (equal_shifted c.multipliers p p) at.equal;
      }

  ranges : (c : Claim) → TelescopesOverRanges f c → TelescopesOverRanges g c
  ranges c t p count defined off_poles =
      equal_chain (equal_ranges (left_side g c) (left_side f c) (λ q. equal_shifted c.multipliers q q) p count)
      (t p count (λ i h. all_defined c.multipliers (later_k p (pos i))) off_poles)

  ratio : (poly : Meaning) (c : Claim) → HasRatio f poly c → HasRatio g poly c
  ratio poly c t p defined carrier off_poles =
      equal_chain (t p (all_defined c.multipliers p) carrier off_poles)
      (equal_products (same p) (equal_to_itself (of_whole (factor_list_value c.ratio_top p *ℤ poly_value c.y p)) one_not_zero))

  pub telescopes_too : (poly : Meaning) (c : Claim) → Telescopes f poly c → Telescopes g poly c
  telescopes_too poly c t = record { points = points c t.points; ranges = ranges c t.ranges; ratio = ratio poly c t.ratio }
