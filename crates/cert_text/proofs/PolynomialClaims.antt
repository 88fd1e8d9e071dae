-- The document of a polynomial in k is well formed, and telescopes what has the polynomial's values.
use Rattle.std.proofs.Common.{◌≡◌, ◌≢◌, ℕ, zero, suc, [], ◌∷◌, refl, ap, sym, ◌∙◌, arith, lit≤, lit<}
use Rattle.std.proofs.lemmas.Int.{ints}
use Rattle.std.proofs.lemmas.Nat.Gcd.{dvd_antisymm}
use Rattle.std.proofs.Math.Nat.{one-dvd}
use Rattle.std.specs.Int.{◌∣◌}
use Rattle.std.specs.Prelude.{ℤ, pos, ◌+ℤ◌, ◌-ℤ◌, ◌*ℤ◌}
use Rattle.ring_laws.specs.Meaning.{Meaning, items}
use Rattle.poly_laws.specs.Lists.{coefficient_at}
use Rattle.poly_laws.specs.Values.{value_at, level}
use Rattle.poly_laws.proofs.Equal.{level_laws}
use Rattle.hypergeometric.specs.Point.{Point, later_k}
use Rattle.hypergeometric.specs.Fraction.{Fraction, of_whole}
use Rattle.hypergeometric.specs.ProperTerm.{poly_value}
use Rattle.hypergeometric.specs.PlainTerm.{plain_term, plain_claim, unit_list}
use Rattle.hypergeometric.specs.Telescopes.{Telescopes}
use Rattle.hypergeometric.proofs.FractionLaws.{one_not_zero}
use Rattle.hypergeometric.proofs.PlainTerms.{plain_telescopes}
use Rattle.hypergeometric.specs.FormOrder.{AreFactors}
use Rattle.hypergeometric.specs.TermFacts.{IsNumber, IsPolynomial, IsLowest, IsProper}
use Rattle.document_text.specs.WellFormed.{IsFactorList, IsWellFormed}
use Rattle.cert_text.specs.PolynomialDocument.{in_k, polynomial_document}
use Rattle.cert_text.proofs.LiftedPolynomials.{in_k_value, in_k_polynomial, in_k_not_zero, constant_polynomial}

only_one_divides : (d : ℕ) → d ∣ 1 → d ≡ 1
only_one_divides d h = dvd_antisymm h (one-dvd d)

pub whole_lowest : (z : ℤ) → IsNumber z → z ≢ pos 0 → IsLowest (of_whole z)
whole_lowest z small not_zero = record {
  top = small;
  bottom = lit< tt;
  not_zero = not_zero;
  positive = omega (arith, ints);
  coprime = λ d _ h. only_one_divides d h;
}

no_factors : AreFactors []
no_factors = record { each = tt; distinct = tt }

plain_proper : (scale : ℤ) (poly : Meaning) → IsNumber scale → scale ≢ pos 0 → IsPolynomial 2 poly → poly ≢ (level 2).ops.nought
    → IsProper (plain_term scale poly)
plain_proper scale poly small not_zero bounded some = record {
  poly = bounded;
  poly_not_zero = some;
  scale = whole_lowest scale small not_zero;
  n_base = whole_lowest (pos 1) (lit< tt) one_not_zero;
  k_base = whole_lowest (pos 1) (lit< tt) one_not_zero;
  up = no_factors;
  down = no_factors;
  over = no_factors;
  over_primitive = tt;
  guard = no_factors;
}

unit_factor_list : IsFactorList unit_list
unit_factor_list = record { scale = lit< tt; not_zero = one_not_zero; factors = record { each = tt; primitive = tt; sorted = tt } }

one_is_polynomial : IsPolynomial 2 (level 2).ops.unit
one_is_polynomial = record { passes = (level_laws 2).closed.unit; fits = (lit≤ tt, at_first) }
  where
    at_first : (k : ℕ) → (level 1).ops.Fits (coefficient_at (level 1).ops (items (level 2).ops.unit) k)
    at_first zero = (constant_polynomial (pos 1) (lit< tt)).fits
    at_first (suc k) = (level_laws 1).magnitudes.fits_nought

-- numbers within bounds, and scales and polynomial other than 0, make a well-formed document
pub polynomial_document_well_formed : (poly y : Meaning) (scale multiplier carrier_scale : ℤ)
    → IsPolynomial 1 poly → items poly ≢ [] → IsPolynomial 1 y → IsNumber scale → scale ≢ pos 0 → IsNumber multiplier
    → IsNumber carrier_scale → carrier_scale ≢ pos 0
    → IsWellFormed (polynomial_document poly scale multiplier carrier_scale y)
polynomial_document_well_formed poly y scale multiplier carrier_scale p some q s s_not a k k_not = record {
  term = record {
    proper = plain_proper scale (in_k poly) s s_not (in_k_polynomial poly p) (in_k_not_zero poly some);
    cancelled = tt;
    up = tt;
    down = tt;
    over = tt;
    guard = tt;
    few = lit≤ tt;
  };
  order = refl;
  found = record {
    matches = tt;
    q = unit_factor_list;
    r = unit_factor_list;
    some_multiplier = λ e. cc;
    multipliers = (constant_polynomial multiplier a, tt);
    carrier = record { proper = plain_proper carrier_scale (level 2).ops.unit k k_not one_is_polynomial (λ e. cc); few = lit≤ tt };
    y = in_k_polynomial y q;
    poles = record { each = tt; primitive = tt; sorted = tt };
    ratio_top = unit_factor_list;
    ratio_bottom = unit_factor_list;
    range = tt;
  };
}

-- what has the values scale * poly(k) telescopes by the document's claim, where multiplier * poly is the difference of y
pub polynomial_document_telescopes : (f : Point → Fraction) (poly y : Meaning) (scale multiplier : ℤ)
    → ((p : Point) → f p ≡ of_whole (scale *ℤ value_at (p.k ∷ []) poly))
    → ((k : ℤ) → multiplier *ℤ value_at (k ∷ []) poly ≡ value_at ((k +ℤ pos 1) ∷ []) y -ℤ value_at (k ∷ []) y)
    → scale ≢ pos 0
    → Telescopes f (in_k poly) (plain_claim multiplier scale (in_k y))
polynomial_document_telescopes f poly y scale multiplier values law not_zero =
    plain_telescopes f multiplier scale (in_k poly) (in_k y)
    (λ p. values p ∙ ap (λ z. of_whole (scale *ℤ z)) (sym (in_k_value poly p)))
    (λ p. ap (λ z. multiplier *ℤ z) (in_k_value poly p) ∙ law p.k
    ∙ ap (λ z. z -ℤ value_at (p.k ∷ []) y) (sym (in_k_value y (later_k p (pos 1))))
    ∙ ap (λ z. poly_value (in_k y) (later_k p (pos 1)) -ℤ z) (sym (in_k_value y p)))
    not_zero
