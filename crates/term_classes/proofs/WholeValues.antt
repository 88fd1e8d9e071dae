-- The whole number that a fraction is, and powers of fractions that are defined.
use Rattle.std.proofs.Common.{◌≡◌, ◌≢◌, ◌%◌, refl, ap, sym, ◌∙◌, [], ◌∷◌, Some, None, arith, true≢false}
use Rattle.std.proofs.lemmas.Int.{ints, quot-rem, unsigned_abs-mul}
use Rattle.std.proofs.lemmas.Bool.{cond_both, eqb-true, eq-eqb}
use Rattle.std.proofs.Math.Nat.{mul-mod_left}
use Rattle.std.specs.Prelude.{ℤ, pos, ◌*ℤ◌, unsigned_abs, if◌then◌else◌, nat_eq}
use Rattle.std.specs.Int.RustNames.{int_div, int_rem}
use Rattle.ring_solver.proofs.Linear.{cancel}
use Rattle.ring_solver.proofs.Read.{ring_z, reading_z}
use Rattle.ring_laws.specs.WholeDomain.{abs_nought}
use Rattle.ring_laws.proofs.Quotients.{abs_rem}
use Rattle.hypergeometric.specs.Fraction.{Fraction, IsDefined, of_whole, undefined_value, whole_power}
use Rattle.hypergeometric.proofs.FractionLaws.{one_not_zero}
use Rattle.hypergeometric.proofs.SameValues.{◌≅◌}
use Rattle.term_classes.specs.TreeValue.{whole_number_of, at_whole, defined_power}

-- the whole number of a fraction that has the value of one
whole_found : (f : Fraction) (z : ℤ) → f ≅ of_whole z → whole_number_of f ≡ Some z
whole_found f z e =
    cond_both (nat_eq (unsigned_abs f.bottom) 0) None
    (if nat_eq (unsigned_abs (int_rem f.top f.bottom)) 0 then Some (int_div f.top f.bottom) else None) (λ o. o ≡ Some z)
    (λ h. absurd (defined (abs_nought f.bottom (eqb-true (unsigned_abs f.bottom) 0 h))))
    (λ h. cond_both (nat_eq (unsigned_abs (int_rem f.top f.bottom)) 0) (Some (int_div f.top f.bottom)) None (λ o. o ≡ Some z)
    (λ g. ap Some quotient) (λ g. absurd (true≢false (sym (eq-eqb (unsigned_abs (int_rem f.top f.bottom)) 0 rest) ∙ g))))
  where
    defined : f.bottom ≢ pos 0
    defined h = one_not_zero (e.zero_right h)

    multiple : f.top ≡ z *ℤ f.bottom
    multiple = sym (once f.top) ∙ e.cross
      where
        once : (t : ℤ) → t *ℤ pos 1 ≡ t
        once t = ring_z (t ∷ []) (search reading_z depth 40 fits 20000) refl

    rest : unsigned_abs (int_rem f.top f.bottom) ≡ 0
    rest = abs_rem f.top f.bottom ∙ ap (λ t. unsigned_abs t % unsigned_abs f.bottom) multiple
        ∙ ap (λ m. m % unsigned_abs f.bottom) (unsigned_abs-mul z f.bottom) ∙ mul-mod_left (unsigned_abs z) (unsigned_abs f.bottom)

    quotient : int_div f.top f.bottom ≡ z
    quotient = cancel f.bottom (int_div f.top f.bottom) z defined
        (omega (arith, ints, quot-rem f.top f.bottom, abs_nought (int_rem f.top f.bottom) rest) ∙ multiple)

pub at_whole_value : (g : ℤ → Fraction) (f : Fraction) (z : ℤ) → f ≅ of_whole z → at_whole g f ≡ g z
at_whole_value g f z e = ap (λ o. elim o as (λ _. Fraction) [ Some z ↦ g z | None ↦ undefined_value ]) (whole_found f z e)

-- a power of what is defined is its power
pub defined_power_value : (f : Fraction) (w : ℤ) → IsDefined f → defined_power f w ≡ whole_power f w
defined_power_value f w defined =
    cond_both (nat_eq (unsigned_abs f.bottom) 0) undefined_value (whole_power f w) (λ v. v ≡ whole_power f w)
    (λ h. absurd (defined (abs_nought f.bottom (eqb-true (unsigned_abs f.bottom) 0 h)))) (λ h. refl)
