-- Powers of a multiple of a value.
use Rattle.std.proofs.Common.{◌≡◌, ℕ, zero, suc, refl, ap, sym, ◌∙◌, subst}
use Rattle.std.proofs.Math.IntN.{pow, pow-succ'}
use Rattle.std.specs.Prelude.{ℤ}
use Rattle.hypergeometric.specs.Fraction.{Fraction, ◌≈◌, of_whole, fraction_product, natural_power}
use Rattle.hypergeometric.proofs.Definedness.{natural_power_defined}
use Rattle.hypergeometric.proofs.FractionPowers.{power_of_product}
use Rattle.hypergeometric.proofs.SameValues.{same_equal, same_defined_values, same_natural_powers}
use Rattle.term_pieces.proofs.Splits.{times_common}

pub equal_powers : {f g : Fraction} (e : ℕ) → f ≈ g → natural_power f e ≈ natural_power g e
equal_powers {f} {g} e p = same_equal (same_natural_powers e (same_defined_values p)) (natural_power_defined f e p.left_defined)

pub power_of_whole : (r : ℤ) (e : ℕ) → natural_power (of_whole r) e ≡ of_whole (pow r e)
unfolding pow lib.IntN.one
power_of_whole r zero = refl
power_of_whole r (suc e) = ap (fraction_product (of_whole r)) (power_of_whole r e) ∙ ap of_whole (sym (pow-succ' r e))

pub times_powers : (f h : Fraction) (r : ℤ) (e : ℕ) → f ≈ times_common r h → natural_power f e ≈ times_common (pow r e) (natural_power h e)
times_powers f h r e p =
    subst (λ z. natural_power f e ≈ z)
    (power_of_product (of_whole r) h e ∙ ap (λ z. fraction_product z (natural_power h e)) (power_of_whole r e)) (equal_powers e p)
