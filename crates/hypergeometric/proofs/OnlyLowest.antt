-- A fraction has lowest terms in one way, and a form that isn't 0 has one primitive form. So what code finds is what the definitions say.
use Rattle.std.proofs.Common.{◌≡◌, ◌≢◌, ap, ◌∙◌, arith, inl}
use Rattle.std.proofs.lemmas.Int.{ints}
use Rattle.std.specs.Prelude.{ℤ, pos, ◌*ℤ◌, ◌<ℤ◌}
use lib.IntN.{*ℤ_comm}
use Rattle.hypergeometric.specs.Fraction.{Fraction, IsDefined}
use Rattle.hypergeometric.specs.LinearForm.{LinearForm}
use Rattle.hypergeometric.specs.FormOrder.{IsPrimitive}
use Rattle.hypergeometric.specs.Forms.{form_with, multiple}
use Rattle.hypergeometric.specs.Divisors.{lowest_terms}
use Rattle.hypergeometric.specs.PrimitiveForm.{content_of_form, primitive_form}
use Rattle.hypergeometric.proofs.FractionLaws.{product_not_zero, equal_chain}
use Rattle.hypergeometric.proofs.OnlyPrimitive.{only_primitive}
use Rattle.hypergeometric.proofs.FractionPowers.{fraction_same}
use Rattle.hypergeometric.proofs.SameValues.{same_equal, same_symmetric}
use Rattle.hypergeometric.proofs.LowestTerms.{lowest_same}
use Rattle.hypergeometric.proofs.ReducedFractions.{HasLowestTerms, lowest_has_terms}
use Rattle.hypergeometric.proofs.Contents.{k_slope_times, n_slope_times, offset_times}

-- denominator and numerator as the slopes of a form
abbrev as_form : Fraction → LinearForm
as_form f = form_with f.top f.bottom (pos 0)

terms_primitive : (f : Fraction) → HasLowestTerms f → IsPrimitive (as_form f)
terms_primitive f h = record { first = inl h.positive; coprime = λ d p q r. h.coprime d q p }

-- two fractions in lowest terms with equal cross products have the same numbers
one_fraction : (f g : Fraction) → HasLowestTerms f → HasLowestTerms g → f.top *ℤ g.bottom ≡ g.top *ℤ f.bottom → f ≡ g
one_fraction f g p q cross =
    let same_multiples : multiple g.bottom (as_form f) ≡ multiple f.bottom (as_form g) =
    λ i. form_with ((*ℤ_comm g.bottom f.top ∙ cross ∙ *ℤ_comm g.top f.bottom) i) (*ℤ_comm g.bottom f.bottom i) (none i) in
    let form = (only_primitive g.bottom f.bottom (as_form f) (as_form g) same_multiples some (terms_primitive f p) (terms_primitive g q)).1 in
    fraction_same (ap (λ (l : LinearForm). l.n_slope) form) (ap (λ (l : LinearForm). l.k_slope) form)
  where
    none : g.bottom *ℤ pos 0 ≡ f.bottom *ℤ pos 0
    none = omega (arith, ints)

    not_zero : (z : ℤ) → pos 0 <ℤ z → z ≢ pos 0
    not_zero z h e = omega (arith, ints, h, e)

    some : multiple g.bottom (as_form f) ≢ form_with (pos 0) (pos 0) (pos 0)
    some e = product_not_zero g.bottom f.bottom (not_zero g.bottom q.positive) (not_zero f.bottom p.positive) (ap (λ (l : LinearForm). l.k_slope) e)

-- what has the value of a fraction and lowest terms is the fraction in lowest terms
pub only_lowest : (f g : Fraction) → IsDefined f → HasLowestTerms g → g.top *ℤ f.bottom ≡ f.top *ℤ g.bottom → g ≡ lowest_terms f
only_lowest f g d h cross =
    one_fraction g (lowest_terms f) h (lowest_has_terms f d)
    (equal_chain (record { left_defined = positive_defined; right_defined = d; cross = cross }) (same_equal (same_symmetric (lowest_same f d)) d)).cross
  where
    positive_defined : IsDefined g
    positive_defined z = omega (arith, ints, z, h.positive)

-- a form is its content times its primitive form
pub content_multiple : (l : LinearForm) → multiple (content_of_form l) (primitive_form l) ≡ l
content_multiple l = λ i. form_with
    ((*ℤ_comm (content_of_form l) (primitive_form l).n_slope ∙ n_slope_times l) i)
    ((*ℤ_comm (content_of_form l) (primitive_form l).k_slope ∙ k_slope_times l) i)
    ((*ℤ_comm (content_of_form l) (primitive_form l).offset ∙ offset_times l) i)
