-- What `/` of 128 bits gives of a number and a divisor of it.
use Rattle.std.proofs.Common.{◌≡◌, ◌<◌, ◌^◌, ◌-◌, ℤ, negsuc, ◌*ℤ◌, unsigned_abs, int_rem, FitsSigned, MatchOption, Option, Some, ap, ◌∙◌, subst}
use Rattle.std.specs.Int.{◌∣◌, cast_unsigned, w128}
use Rattle.std.proofs.lemmas.Int.{to_z-of_z}
use Rattle.std.proofs.lemmas.Nat.Gcd.{mod-eq-zero_of_dvd}
use mathlib.Core.Path.{ap₂}
use Rattle.ring_laws.specs.WholeDomain.{abs_nought}
use Rattle.ring_laws.specs.declared.wholes.Whole.{Whole}
use Rattle.ring_laws.proofs.Quotients.{abs_rem, coded_rem, coded_div, Quotient, quotient_given}

no_rest : (a d : ℤ) → FitsSigned w128 a → FitsSigned w128 d → unsigned_abs d ∣ unsigned_abs a → coded_rem a d ≡ 0
no_rest a d f g divides =
    ap₂ (λ s t. cast_unsigned w128 (int_rem s t)) (to_z-of_z w128 a f) (to_z-of_z w128 d g)
    ∙ ap (cast_unsigned w128) (abs_nought (int_rem a d) (abs_rem a d ∙ mod-eq-zero_of_dvd (unsigned_abs d) divides))

-- the quotient times the divisor is the number
pub exact : (a d : ℤ) (r : Option Whole) (w : Whole) → FitsSigned w128 a → FitsSigned w128 d → unsigned_abs a < 2 ^ 127
    → unsigned_abs d ∣ unsigned_abs a → MatchOption r (coded_div a d ≡ negsuc (2 ^ 127 - 1)) (λ q. q.value ≡ coded_div a d)
    → r ≡ Some w → w.value *ℤ d ≡ a
exact a d r w f g small divides given e =
    subst (Quotient a d) e (quotient_given a d r f g small (no_rest a d f g divides) given)
