-- A found recurrence with its certificate, as a document prints it: the multipliers a_0, a_1, .. (polynomials in n), the carrier K,
-- Y and the poles D of G = K * Y / D, and the two factor lists of the ratio R = G / F.
use Rattle.std.specs.Prelude.{ℤ, pos, List, [], ◌∷◌}
use Rattle.ring_laws.specs.Meaning.{Meaning}
use Rattle.hypergeometric.specs.Point.{Point, later_n}
use Rattle.hypergeometric.specs.Fraction.{Fraction, IsDefined, of_whole, fraction_sum, fraction_product}
use Rattle.hypergeometric.specs.LinearForm.{Factor, FactorList, forms_value}
use Rattle.hypergeometric.specs.ProperTerm.{ProperTerm, proper_value, poly_value, value_in_n}

-- the multipliers a_0 to a_J in n, the carrier K, Y and the poles D, with G = K * Y / D, and the ratio R = G / F as two factor lists
pub record Claim : Type 0 where
  pub multipliers : List Meaning
  pub carrier : ProperTerm
  pub y : Meaning
  pub poles : List Factor
  pub ratio_top : FactorList
  pub ratio_bottom : FactorList

-- D(n, k)
abbrev pub poles_value : Claim → Point → ℤ
poles_value c p = forms_value c.poles p

-- G(n, k) = K(n, k) * Y(n, k) / D(n, k)
abbrev pub certificate : Claim → Point → Fraction
certificate c p = fraction_product (proper_value c.carrier p) (record { top = poly_value c.y p; bottom = poles_value c p })

-- a_0 at p times F at q, and a_1 at p times F at the next n of q, ..
abbrev pub shifted_sum : (Point → Fraction) → List Meaning → Point → Point → Fraction
shifted_sum f [] p q = of_whole (pos 0)
shifted_sum f (a ∷ more) p q = fraction_sum (fraction_product (of_whole (value_in_n a p)) (f q)) (shifted_sum f more p (later_n q (pos 1)))

-- the left side of the recurrence: a_0(n) F(n, k) + .. + a_J(n) F(n + J, k)
abbrev pub left_side : (Point → Fraction) → Claim → Point → Fraction
left_side f c p = shifted_sum f c.multipliers p p

-- F(n, k), F(n + 1, k), .. are defined, one for each multiplier
abbrev pub AllDefined : (Point → Fraction) → List Meaning → Point → Type 0
AllDefined f [] p = Unit {0}
AllDefined f (a ∷ more) p = IsDefined (f p) × AllDefined f more (later_n p (pos 1))
