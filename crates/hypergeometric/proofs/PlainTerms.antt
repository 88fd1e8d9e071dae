-- The claim of a term without factorials telescopes it where the multiplier times its polynomial is the difference of Y.
use Rattle.std.proofs.Common.{◌≡◌, ◌≢◌, ℕ, zero, suc, refl, ap, ◌∙◌, [], ◌∷◌}
use Rattle.std.specs.Prelude.{ℤ, pos, negsuc, ◌-ℤ◌, ◌*ℤ◌}
use Rattle.ring_solver.proofs.Integers.{integers}
use Rattle.ring_solver.proofs.Linear.{from1}
use Rattle.ring_solver.proofs.Read.{ring_z, reading_z}
use Rattle.ring_laws.specs.Meaning.{Meaning}
use Rattle.poly_laws.specs.Values.{level}
use Rattle.poly_laws.proofs.Keeps.{value_at_keeps}
use Rattle.hypergeometric.specs.Point.{Point, later_k, values, values_in_n}
use Rattle.hypergeometric.specs.Fraction.{Fraction, of_whole, fraction_sum, fraction_difference, fraction_product, natural_power, whole_power}
use Rattle.hypergeometric.specs.ProperTerm.{proper_value, poly_value, value_in_n, HasFractions}
use Rattle.hypergeometric.specs.Claim.{certificate, left_side}
use Rattle.hypergeometric.specs.Telescopes.{Telescopes, TelescopesAtPoints, HasRatio}
use Rattle.hypergeometric.specs.PlainTerm.{plain_term, plain_claim}
use Rattle.hypergeometric.proofs.FractionLaws.{one_not_zero, equal_wholes}
use Rattle.hypergeometric.proofs.RangeSums.{ranges_from_points}

pub natural_power_of_one : (n : ℕ) → natural_power (of_whole (pos 1)) n ≡ of_whole (pos 1)
natural_power_of_one zero = refl
natural_power_of_one (suc n) = ap (fraction_product (of_whole (pos 1))) (natural_power_of_one n)

pub whole_power_of_one : (z : ℤ) → whole_power (of_whole (pos 1)) z ≡ of_whole (pos 1)
whole_power_of_one (pos n) = natural_power_of_one n
whole_power_of_one (negsuc n) = natural_power_of_one (suc n)

pub difference_of_wholes : (a b : ℤ) → fraction_difference (of_whole a) (of_whole b) ≡ of_whole (a -ℤ b)
difference_of_wholes a b = ap of_whole (ring_z (a ∷ b ∷ []) (search reading_z depth 40 fits 20000) refl)

one_scaled : (s p : ℤ) → s *ℤ (p *ℤ pos 1) ≡ s *ℤ p
one_scaled s p = ring_z (s ∷ p ∷ []) (search reading_z depth 40 fits 20000) refl

-- the value with the powers of the bases held
bases_held : (s p : ℤ) (f g : Fraction) → f ≡ of_whole (pos 1) → g ≡ of_whole (pos 1)
    → fraction_product (of_whole s) (fraction_product (of_whole p) (fraction_product f (fraction_product g (of_whole (pos 1))))) ≡ of_whole (s *ℤ p)
bases_held s p f g e h =
    ap (λ x. fraction_product (of_whole s) (fraction_product (of_whole p) (fraction_product x (fraction_product g (of_whole (pos 1)))))) e
    ∙ ap (λ x. fraction_product (of_whole s) (fraction_product (of_whole p) (fraction_product (of_whole (pos 1)) (fraction_product x (of_whole (pos 1)))))) h
    ∙ ap of_whole (one_scaled s p)

pub plain_value : (scale : ℤ) (poly : Meaning) (p : Point) → proper_value (plain_term scale poly) p ≡ of_whole (scale *ℤ poly_value poly p)
plain_value scale poly p =
    bases_held scale (poly_value poly p) (whole_power (of_whole (pos 1)) p.n) (whole_power (of_whole (pos 1)) p.k)
    (whole_power_of_one p.n) (whole_power_of_one p.k)

-- G(n, k) is scale * Y(n, k)
plain_certificate : (a scale : ℤ) (y : Meaning) (p : Point) → certificate (plain_claim a scale y) p ≡ of_whole (scale *ℤ poly_value y p)
plain_certificate a scale y p =
    ap (λ f. fraction_product f (of_whole (poly_value y p))) (plain_value scale (level 2).ops.unit p)
    ∙ ap (λ z. of_whole (scale *ℤ z *ℤ poly_value y p)) ((value_at_keeps (values p)).unit)
    ∙ ap of_whole (ring_z (scale ∷ poly_value y p ∷ []) (search reading_z depth 40 fits 20000) refl)

-- the left side, where the term has a whole value
plain_left_side : (f : Point → Fraction) (a scale : ℤ) (y : Meaning) (v : ℤ) (p : Point) → f p ≡ of_whole v
    → left_side f (plain_claim a scale y) p ≡ of_whole (a *ℤ v)
plain_left_side f a scale y v p e =
    ap (λ g. fraction_sum (fraction_product (of_whole (value_in_n ((level 1).ops.whole a) p)) g) (of_whole (pos 0))) e
    ∙ ap (λ z. fraction_sum (fraction_product (of_whole z) (of_whole v)) (of_whole (pos 0))) ((value_at_keeps (values_in_n p)).whole a)
    ∙ ap of_whole (ring_z (a ∷ v ∷ []) (search reading_z depth 40 fits 20000) refl)

scaled_difference : (a scale p u v : ℤ) → a *ℤ p ≡ u -ℤ v → a *ℤ (scale *ℤ p) ≡ scale *ℤ u -ℤ scale *ℤ v
scaled_difference a scale p u v e = from1 integers scale e (ring_z (a ∷ scale ∷ p ∷ u ∷ v ∷ []) (search reading_z depth 40 fits 20000) refl)

scaled_ratio : (scale p y : ℤ) → scale *ℤ y *ℤ (pos 1 *ℤ p *ℤ pos 1) ≡ scale *ℤ p *ℤ (pos 1 *ℤ y)
scaled_ratio scale p y = ring_z (scale ∷ p ∷ y ∷ []) (search reading_z depth 40 fits 20000) refl

-- f has the values of scale * poly, and a * poly is the difference of y
module _ (f : Point → Fraction) (a scale : ℤ) (poly y : Meaning)
    (values : (p : Point) → f p ≡ of_whole (scale *ℤ poly_value poly p))
    (law : (p : Point) → a *ℤ poly_value poly p ≡ poly_value y (later_k p (pos 1)) -ℤ poly_value y p) where
  plain_points : TelescopesAtPoints f (plain_claim a scale y)
  plain_points p defined here next = record {
    carrier_here = record { up = tt; guard = tt; over = tt };
    carrier_next = record { up = tt; guard = tt; over = tt };
    equal = equal_wholes (a *ℤ (scale *ℤ poly_value poly p)) (scale *ℤ poly_value y (later_k p (pos 1)) -ℤ scale *ℤ poly_value y p)
        (plain_left_side f a scale y (scale *ℤ poly_value poly p) p (values p))
        (ap (λ g. fraction_difference g (certificate (plain_claim a scale y) p)) (plain_certificate a scale y (later_k p (pos 1)))
        ∙ ap (fraction_difference (of_whole (scale *ℤ poly_value y (later_k p (pos 1))))) (plain_certificate a scale y p)
        ∙ difference_of_wholes (scale *ℤ poly_value y (later_k p (pos 1))) (scale *ℤ poly_value y p))
        (scaled_difference a scale (poly_value poly p) (poly_value y (later_k p (pos 1))) (poly_value y p) (law p));
  }

  plain_ratio : HasRatio f poly (plain_claim a scale y)
  plain_ratio p defined carrier pole =
      equal_wholes (scale *ℤ poly_value y p *ℤ (pos 1 *ℤ poly_value poly p *ℤ pos 1)) (scale *ℤ poly_value poly p *ℤ (pos 1 *ℤ poly_value y p))
      (ap (λ g. fraction_product g (of_whole (pos 1 *ℤ poly_value poly p *ℤ pos 1))) (plain_certificate a scale y p))
      (ap (λ g. fraction_product g (of_whole (pos 1 *ℤ poly_value y p))) (values p))
      (scaled_ratio scale (poly_value poly p) (poly_value y p))

  pub plain_telescopes : scale ≢ pos 0 → Telescopes f poly (plain_claim a scale y)
  plain_telescopes not_zero = record {
    points = plain_points;
    ranges = ranges_from_points f (plain_claim a scale y) fractions plain_points;
    ratio = plain_ratio;
  }
    where
      fractions : HasFractions (plain_term scale (level 2).ops.unit)
      fractions = record {
        scale = record { top = not_zero; bottom = one_not_zero };
        n_base = record { top = one_not_zero; bottom = one_not_zero };
        k_base = record { top = one_not_zero; bottom = one_not_zero };
      }
