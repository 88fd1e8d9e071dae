-- What it means that a claim telescopes a term F (A=B 6.1): at all whole points, over all finite ranges, and by its ratio R = G / F.
use Rattle.std.specs.Prelude.{◌≢◌, ℕ, zero, suc, ◌<◌, ◌≤◌, pos, ◌*ℤ◌}
use Rattle.ring_laws.specs.Meaning.{Meaning}
use Rattle.hypergeometric.specs.Point.{Point, later_k}
use Rattle.hypergeometric.specs.Fraction.{Fraction, ◌≈◌, of_whole, fraction_difference, fraction_product, fraction_sum}
use Rattle.hypergeometric.specs.LinearForm.{factor_list_value}
use Rattle.hypergeometric.specs.ProperTerm.{IsDefinedAt, poly_value}
use Rattle.hypergeometric.specs.Claim.{Claim, poles_value, certificate, left_side, AllDefined}

-- at one point: K is defined there and at k + 1, and the left side is G(n, k + 1) - G(n, k)
pub record TelescopesAt (f : Point → Fraction) (c : Claim) (p : Point) : Type 0 where
  pub carrier_here : IsDefinedAt c.carrier p
  pub carrier_next : IsDefinedAt c.carrier (later_k p (pos 1))
  pub equal : left_side f c p ≈ fraction_difference (certificate c (later_k p (pos 1))) (certificate c p)

-- at all points where F(n, k), .., F(n + J, k) are defined, off the poles
abbrev pub TelescopesAtPoints : (Point → Fraction) → Claim → Type 0
TelescopesAtPoints f c = (p : Point) → AllDefined f c.multipliers p → poles_value c p ≢ pos 0 → poles_value c (later_k p (pos 1)) ≢ pos 0
    → TelescopesAt f c p

-- f at p, at the next k, .., `count` summands
abbrev pub sum_over_range : (Point → Fraction) → Point → ℕ → Fraction
sum_over_range f p zero = of_whole (pos 0)
sum_over_range f p (suc count) = fraction_sum (sum_over_range f p count) (f (later_k p (pos count)))

-- G at the end of a range less G at its start, and 0 for the empty range
abbrev pub between_ends : (Point → Fraction) → Point → ℕ → Fraction
between_ends g p zero = of_whole (pos 0)
between_ends g p (suc count) = fraction_difference (g (later_k p (pos (suc count)))) (g p)

-- Over `count` places from a point on, where the terms are defined at each place, and no pole lies at these places or at the next one:
-- the sum of the left sides is what lies between the two ends.
abbrev pub TelescopesOverRanges : (Point → Fraction) → Claim → Type 0
TelescopesOverRanges f c = (p : Point) (count : ℕ)
    → ((i : ℕ) → i < count → AllDefined f c.multipliers (later_k p (pos i)))
    → ((i : ℕ) → i ≤ count → poles_value c (later_k p (pos i)) ≢ pos 0)
    → sum_over_range (left_side f c) p count ≈ between_ends (certificate c) p count

-- R = G / F without division: G * R_bottom * P * D = F * R_top * Y wherever F(n, k), .., F(n + J, k) and K are defined and D isn't 0
abbrev pub HasRatio : (Point → Fraction) → Meaning → Claim → Type 0
HasRatio f poly c = (p : Point) → AllDefined f c.multipliers p → IsDefinedAt c.carrier p → poles_value c p ≢ pos 0
    → fraction_product (certificate c p)
    (of_whole (factor_list_value c.ratio_bottom p *ℤ poly_value poly p *ℤ poles_value c p))
    ≈ fraction_product (f p) (of_whole (factor_list_value c.ratio_top p *ℤ poly_value c.y p))

-- The claim telescopes the term f, whose polynomial is poly.
pub record Telescopes (f : Point → Fraction) (poly : Meaning) (c : Claim) : Type 0 where
  pub points : TelescopesAtPoints f c
  pub ranges : TelescopesOverRanges f c
  pub ratio : HasRatio f poly c
