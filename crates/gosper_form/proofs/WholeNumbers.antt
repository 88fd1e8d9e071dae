-- Whole numbers as the code tests them, and lowest terms as it finds them.
use Rattle.std.proofs.Common.{◌≡◌, ◌≢◌, ℕ, zero, suc, ◌<◌, ◌^◌, true, false, [], ◌∷◌, refl, ap, sym, ◌∙◌, subst, true≢false}
use Rattle.std.specs.Prelude.{ℤ, pos, negsuc, ◌*ℤ◌, unsigned_abs}
use lib.IntN.{pow}
use Rattle.ring_laws.specs.Answer.{OnFault, fault_weaker}
use Rattle.ring_laws.specs.declared.faults.RingFault.{RingFault}
use Rattle.ring_laws.specs.Wholes.{is_zero, number_of, whole_algebra}
use Rattle.ring_solver.proofs.Read.{ring_z, reading_z}
use Rattle.poly_fraction.specs.Fractions.{RingFraction, AreSame}
use Rattle.poly_fraction.specs.LowestTerms.{IsInLowestTerms}
use Rattle.hypergeometric.specs.Divisors.{lowest_terms}
use Rattle.hypergeometric.proofs.FractionLaws.{pow_not_zero}
use Rattle.hypergeometric.proofs.OnlyLowest.{only_lowest}
use Rattle.proper_term.specs.Fields.{number_fraction_of}
use Rattle.gosper_form.proofs.NumberPowers.{out_of_bounds}

pub tested_nonzero : (z : ℤ) → is_zero z ≡ false → z ≢ pos 0
tested_nonzero z h e = true≢false (sym (ap is_zero e) ∙ h)

pub tested_zero : (z : ℤ) → is_zero z ≡ true → z ≡ pos 0
tested_zero (pos zero) e = refl
tested_zero (pos (suc n)) e = absurd (true≢false (sym e))
tested_zero (negsuc n) e = absurd (true≢false (sym e))

pub one_times : (z : ℤ) → pos 1 *ℤ z ≡ z
one_times z = ring_z (z ∷ []) (search reading_z depth 40 fits 20000) refl

pub power_one : (z : ℤ) → pow z 1 ≡ z
unfolding pow lib.IntN.one
power_one z = one_times z

-- the lowest terms of a quotient
pub lowest_found : (t b : ℤ) (f g : RingFraction) → b ≢ pos 0 → IsInLowestTerms g → AreSame whole_algebra.ops g f → number_of f.top ≡ t → number_of f.bottom ≡ b
    → number_fraction_of g ≡ lowest_terms (record { top = t; bottom = b })
lowest_found t b f g some low same top bottom =
    only_lowest (record { top = t; bottom = b }) (number_fraction_of g) some (record { positive = low.positive; coprime = low.coprime })
    (ap (λ z. number_of g.top *ℤ z) (sym bottom) ∙ ap number_of same ∙ ap (λ z. z *ℤ number_of g.bottom) top)

-- a product with a power, by what its parts are
pub product_is : (v a a' b b' : ℤ) (n : ℕ) → v ≡ a *ℤ pow b n → a ≡ a' → b ≡ b' → v ≡ a' *ℤ pow b' n
product_is v a a' b b' n e h g = e ∙ (λ i. h i *ℤ pow (g i) n)

pub product_fault : (a a' b b' w : ℤ) (n : ℕ) (fault : RingFault) → OnFault (¬ (unsigned_abs (a *ℤ pow b n) < 2 ^ 127)) fault → a ≡ a' → b ≡ b'
    → a' *ℤ pow b' n ≡ w → OnFault (¬ (unsigned_abs w < 2 ^ 127)) fault
product_fault a a' b b' w n fault h e g k = subst (λ z. OnFault (¬ (unsigned_abs z < 2 ^ 127)) fault) ((λ i. e i *ℤ pow (g i) n) ∙ k) h

-- a power and a power
module _ (one t t' b : ℤ) (j m : ℕ) (is_one : one ≡ pos 1) (same : t ≡ t') where
  first_is : one *ℤ pow t j ≡ pow t' j
  first_is = (λ i. is_one i *ℤ pow (same i) j) ∙ one_times (pow t' j)

  pub two_powers_fault : (fault : RingFault) → b ≢ pos 0 → OnFault (¬ (unsigned_abs (one *ℤ pow t j) < 2 ^ 127)) fault
      → OnFault (¬ (unsigned_abs (pow t' j *ℤ pow b m) < 2 ^ 127)) fault
  two_powers_fault fault some h = fault_weaker fault (λ out. out_of_bounds (one *ℤ pow t j) (pow b m) (pow t' j *ℤ pow b m) (pow_not_zero b m some)
      (ap (λ z. z *ℤ pow b m) first_is) out) h

  pub first_not_zero : (n : ℤ) → n ≡ one *ℤ pow t j → t' ≢ pos 0 → n ≢ pos 0
  first_not_zero n e some z = pow_not_zero t' j some (sym first_is ∙ sym e ∙ z)

  pub two_powers : (n r b' : ℤ) → n ≡ one *ℤ pow t j → r ≡ n *ℤ pow b' m → b' ≡ b → r ≡ pow t' j *ℤ pow b m
  two_powers n r b' e h g = h ∙ (λ i. (e ∙ first_is) i *ℤ pow (g i) m)

  pub second_fault : (fault : RingFault) (n b' : ℤ) → n ≡ one *ℤ pow t j → b' ≡ b → OnFault (¬ (unsigned_abs (n *ℤ pow b' m) < 2 ^ 127)) fault
      → OnFault (¬ (unsigned_abs (pow t' j *ℤ pow b m) < 2 ^ 127)) fault
  second_fault fault n b' e g h = subst (λ z. OnFault (¬ (unsigned_abs z < 2 ^ 127)) fault) (λ i. (e ∙ first_is) i *ℤ pow (g i) m) h
