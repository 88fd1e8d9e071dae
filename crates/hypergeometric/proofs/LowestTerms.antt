-- Lowest terms, and powers by numerators and denominators, leave the value.
use Rattle.std.proofs.Common.{◌≡◌, ℕ, zero, suc, Bool, true, false, refl, ap, sym, ◌∙◌, [], ◌∷◌, arith, subst}
use Rattle.std.proofs.lemmas.Int.{ints, quot-rem}
use Rattle.std.proofs.lemmas.Nat.Gcd.{mod-eq-zero_of_dvd}
use Rattle.std.specs.Prelude.{ℤ, pos, negsuc, ◌*ℤ◌, unsigned_abs, int_lt}
use Rattle.std.specs.Int.{◌∣◌}
use Rattle.std.specs.Int.RustNames.{int_div, int_rem}
use lib.IntN.{pow, *ℤ_comm}
use Rattle.ring_solver.proofs.Integers.{integers}
use Rattle.ring_solver.proofs.Linear.{from1, from2}
use Rattle.ring_solver.proofs.Read.{ring_z, reading_z}
use Rattle.ring_laws.specs.WholeDomain.{abs_nought}
use Rattle.ring_laws.proofs.Quotients.{abs_rem}
use Rattle.hypergeometric.specs.Fraction.{Fraction, IsDefined, fraction_product, reciprocal, natural_power, whole_power}
use Rattle.hypergeometric.specs.ProperTerm.{IsNonzero}
use Rattle.hypergeometric.specs.Divisors.{divides, greatest_common_divisor, negated_where, lowest_terms, raised_fraction}
use Rattle.hypergeometric.proofs.GreatestDivisors.{greatest_is_gcd}
use Rattle.hypergeometric.proofs.SameValues.{◌≅◌, same, same_chain, same_symmetric, same_natural_powers, zero_times}
use Rattle.hypergeometric.proofs.FractionPowers.{fraction_with, fraction_same}
use Rattle.hypergeometric.proofs.NonzeroPowers.{reciprocal_nonzero, natural_power_nonzero, inverse_is_reciprocal}

-- a divisor times the quotient by it is the number
pub exact_quotient : (z : ℤ) (g : ℤ) → unsigned_abs g ∣ unsigned_abs z → int_div z g *ℤ g ≡ z
exact_quotient z g divides =
    let r : int_rem z g ≡ pos 0 = abs_nought (int_rem z g) (abs_rem z g ∙ mod-eq-zero_of_dvd (unsigned_abs g) divides) in
    omega (arith, ints, quot-rem z g, r)

pub negated_size : (b : Bool) (z : ℤ) → unsigned_abs (negated_where b z) ≡ unsigned_abs z
negated_size false z = refl
negated_size true (pos zero) = refl
negated_size true (pos (suc n)) = refl
negated_size true (negsuc n) = refl

pub negated_zero : (b : Bool) (z : ℤ) → negated_where b z ≡ pos 0 → z ≡ pos 0
negated_zero false z e = e
negated_zero true z e = omega (arith, ints, e)

-- numbers q and r with q * g = t and r * g = b, both turned, stand for t / b
lowest_cross : (q r g t b : ℤ) → q *ℤ g ≡ t → r *ℤ g ≡ b → q *ℤ b ≡ r *ℤ t
lowest_cross q r g t b h k = from2 integers r (negsuc 0 *ℤ q) h k (ring_z (q ∷ r ∷ g ∷ t ∷ b ∷ []) (search reading_z depth 40 fits 20000) refl)

negated_cross : (turned : Bool) (q r t b : ℤ) → q *ℤ negated_where turned b ≡ r *ℤ negated_where turned t → q *ℤ b ≡ t *ℤ r
negated_cross false q r t b e = from1 integers (pos 1) e (ring_z (q ∷ r ∷ t ∷ b ∷ []) (search reading_z depth 40 fits 20000) refl)
negated_cross true q r t b e = from1 integers (negsuc 0) e (ring_z (q ∷ r ∷ t ∷ b ∷ []) (search reading_z depth 40 fits 20000) refl)

-- the divisor of the numbers of a fraction
abbrev pub divisor_of : Fraction → ℕ
divisor_of f = greatest_common_divisor (unsigned_abs f.top) (unsigned_abs f.bottom)

abbrev pub has_negative_bottom : Fraction → Bool
has_negative_bottom f = int_lt f.bottom (pos 0)

module _ (f : Fraction) where
  pub top_times : (lowest_terms f).top *ℤ pos (divisor_of f) ≡ negated_where (has_negative_bottom f) f.top
  top_times = exact_quotient (negated_where (has_negative_bottom f) f.top) (pos (divisor_of f))
      (subst (λ m. divisor_of f ∣ m) (sym (negated_size (has_negative_bottom f) f.top))
      (greatest_is_gcd (unsigned_abs f.top) (unsigned_abs f.bottom)).0)

  pub bottom_times : (lowest_terms f).bottom *ℤ pos (divisor_of f) ≡ negated_where (has_negative_bottom f) f.bottom
  bottom_times = exact_quotient (negated_where (has_negative_bottom f) f.bottom) (pos (divisor_of f))
      (subst (λ m. divisor_of f ∣ m) (sym (negated_size (has_negative_bottom f) f.bottom))
      (greatest_is_gcd (unsigned_abs f.top) (unsigned_abs f.bottom)).1)

  -- where the quotient is 0, the number is
  pub lowest_bottom_zero : (lowest_terms f).bottom ≡ pos 0 → f.bottom ≡ pos 0
  lowest_bottom_zero z = negated_zero (has_negative_bottom f) f.bottom (sym bottom_times ∙ ap (λ x. x *ℤ pos (divisor_of f)) z ∙ zero_times (pos (divisor_of f)))

  pub lowest_top_zero : (lowest_terms f).top ≡ pos 0 → f.top ≡ pos 0
  lowest_top_zero z = negated_zero (has_negative_bottom f) f.top (sym top_times ∙ ap (λ x. x *ℤ pos (divisor_of f)) z ∙ zero_times (pos (divisor_of f)))

  -- lowest terms leave the value
  pub lowest_same : IsDefined f → lowest_terms f ≅ f
  lowest_same d = record {
    zero_right = lowest_bottom_zero;
    zero_left = λ z. absurd (d z);
    cross = negated_cross (has_negative_bottom f) (lowest_terms f).top (lowest_terms f).bottom f.top f.bottom
        (lowest_cross (lowest_terms f).top (lowest_terms f).bottom (pos (divisor_of f)) (negated_where (has_negative_bottom f) f.top)
        (negated_where (has_negative_bottom f) f.bottom) top_times bottom_times);
  }

  pub lowest_nonzero : IsNonzero f → IsNonzero (lowest_terms f)
  lowest_nonzero p = record { top = λ z. p.top (lowest_top_zero z); bottom = λ z. p.bottom (lowest_bottom_zero z) }

-- powers by numerators and denominators
power_by_parts : (a b : ℤ) (e : ℕ) → natural_power (fraction_with a b) e ≡ fraction_with (pow a e) (pow b e)
unfolding pow lib.IntN.one
power_by_parts a b zero = refl
power_by_parts a b (suc e) =
    ap (fraction_product (fraction_with a b)) (power_by_parts a b e) ∙ fraction_same (*ℤ_comm a (pow a e)) (*ℤ_comm b (pow b e))

pub raised_same : (f : Fraction) (w : ℤ) → IsNonzero f → raised_fraction f w ≅ whole_power f w
raised_same f (pos e) p = same (sym (power_by_parts f.top f.bottom e))
raised_same f (negsuc e) p =
    same_chain (same (sym (power_by_parts f.bottom f.top (suc e)))) (same_natural_powers (suc e) (same_symmetric (inverse_is_reciprocal f p)))

pub raised_natural : (f : Fraction) (e : ℕ) → raised_fraction f (pos e) ≡ natural_power f e
raised_natural f e = sym (power_by_parts f.top f.bottom e)

pub raised_nonzero : (f : Fraction) (w : ℤ) → IsNonzero f → IsNonzero (raised_fraction f w)
raised_nonzero f (pos e) p = subst IsNonzero (power_by_parts f.top f.bottom e) (natural_power_nonzero f e p)
raised_nonzero f (negsuc e) p =
    subst IsNonzero (power_by_parts f.bottom f.top (suc e)) (natural_power_nonzero (reciprocal f) (suc e) (reciprocal_nonzero f p))
