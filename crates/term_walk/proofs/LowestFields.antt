-- Fractions of the code in lowest terms.
use Rattle.std.proofs.Common.{◌≡◌, ◌≢◌, ℕ, ap, sym, ◌∙◌, subst, false, true≢false, arith}
use Rattle.std.proofs.lemmas.Int.{ints}
use Rattle.std.proofs.lemmas.Nat.Gcd.{dvd_antisymm}
use Rattle.std.proofs.Math.Nat.{one-dvd}
use Rattle.std.specs.Prelude.{ℤ, pos, Ok}
use Rattle.ring_laws.specs.Wholes.{is_zero}
use Rattle.steps.proofs.StepLaws.{same_Ok}
use Rattle.poly_fraction.specs.Fractions.{RingFraction}
use Rattle.poly_fraction.specs.LowestTerms.{IsInLowestTerms}
use Rattle.hypergeometric.specs.Fraction.{Fraction, of_whole, fraction_product}
use Rattle.hypergeometric.specs.ProperTerm.{IsNonzero}
use Rattle.hypergeometric.specs.Divisors.{lowest_terms, raised_fraction}
use Rattle.hypergeometric.proofs.FractionLaws.{product_not_zero}
use Rattle.hypergeometric.proofs.LowestTerms.{raised_nonzero}
use Rattle.hypergeometric.proofs.ReducedFractions.{HasLowestTerms, lowest_has_terms}
use Rattle.term_classes.specs.Walk.{times_power}
use Rattle.proper_term.specs.Fields.{number_fraction_of}

pub has_terms : (f : RingFraction) → IsInLowestTerms f → HasLowestTerms (number_fraction_of f)
has_terms f h = record { positive = h.positive; coprime = h.coprime }

pub is_lowest : (f : RingFraction) (s : Fraction) → number_fraction_of f ≡ s → HasLowestTerms s → IsInLowestTerms f
is_lowest f s e h = from (subst HasLowestTerms (sym e) h)
  where
    from : HasLowestTerms (number_fraction_of f) → IsInLowestTerms f
    from h = record { positive = h.positive; coprime = h.coprime }

pub lowest_defined : (f : RingFraction) → IsInLowestTerms f → (number_fraction_of f).bottom ≢ pos 0
lowest_defined f h z = omega (arith, ints, z, h.positive)

-- what the test of the code says of a denominator
pub tested_nonzero : (z : ℤ) → is_zero z ≡ false → z ≢ pos 0
tested_nonzero z h e = true≢false (sym (ap is_zero e) ∙ h)

-- a fraction times a power of another one is in lowest terms
pub power_lowest : (at : ℕ) (f g : Fraction) (w : ℤ) (r : RingFraction) → f.bottom ≢ pos 0 → IsNonzero g
    → (times_power at f g w).outcome ≡ Ok (number_fraction_of r) → IsInLowestTerms r
power_lowest at f g w r some nonzero e =
    is_lowest r (lowest_terms (fraction_product f (raised_fraction g w)))
    (sym (same_Ok (lowest_terms (fraction_product f (raised_fraction g w))) (number_fraction_of r) e))
    (lowest_has_terms (fraction_product f (raised_fraction g w))
    (product_not_zero f.bottom (raised_fraction g w).bottom some (raised_nonzero g w nonzero).bottom))

-- 1 is in lowest terms
pub one_terms : HasLowestTerms (of_whole (pos 1))
one_terms = record { positive = omega (arith, ints); coprime = λ d p q. dvd_antisymm q (one-dvd d) }
