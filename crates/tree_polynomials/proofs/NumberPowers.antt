-- Powers of whole numbers by the operations of their ring, and the sizes of products of powers.
use Rattle.std.proofs.Common.{◌≡◌, ◌≢◌, ℕ, zero, suc, ◌*◌, ◌^◌, ◌<◌, refl, ap, sym, ◌∙◌, subst, arith}
use lib.IntN.{pow, one}
use Rattle.std.proofs.Math.IntN.{pow-succ'}
use Rattle.std.proofs.lemmas.Int.{ints, unsigned_abs-mul}
use Rattle.std.specs.Prelude.{ℤ, pos, negsuc, ◌*ℤ◌, unsigned_abs}
use Rattle.ring_laws.specs.Meaning.{number}
use Rattle.ring_laws.specs.Algebra.{Passing}
use Rattle.ring_laws.specs.Wholes.{number_of, whole_algebra}
use Rattle.ring_laws.specs.Answer.{OnFault}
use Rattle.ring_laws.specs.declared.faults.RingFault.{RingFault}
use Rattle.poly_laws.specs.Powers.{power_in, nonzero_magnitude, IsBound}
use Rattle.steps.specs.Answers.{HasCause}
use Rattle.steps.specs.Operations.{of_number}
use Rattle.steps.specs.Steps.{makes}
use Rattle.steps.specs.TermFaults.{fault_of, term_cause}
use Rattle.steps.proofs.AnswerLaws.{ring_cause, made_too_large}
use Rattle.hypergeometric.specs.Divisors.{nonzero_size}
use Rattle.hypergeometric.proofs.FractionLaws.{pow_not_zero}

pub power_number : (b : ℤ) (n : ℕ) → power_in whole_algebra.ops (number b) n ≡ number (pow b n)
unfolding pow one
power_number b zero = refl
power_number b (suc n) = ap (λ m. number (b *ℤ number_of m)) (power_number b n) ∙ ap number (sym (pow-succ' b n))

-- the size of what isn't 0 is its magnitude
pub size_of_nonzero : (z : ℤ) → z ≢ pos 0 → nonzero_size z ≡ unsigned_abs z
size_of_nonzero (pos zero) h = absurd (h refl)
size_of_nonzero (pos (suc n)) h = omega arith
size_of_nonzero (negsuc n) h = omega arith

pub size_positive : (z : ℤ) → 0 < nonzero_size z
size_positive z = omega arith

magnitude_number : (z : ℤ) → nonzero_magnitude whole_algebra.ops (number z) ≡ number (pos (nonzero_size z))
magnitude_number (pos zero) = refl
magnitude_number (pos (suc n)) = ap (λ m. number (pos m)) (sym (size_of_nonzero (pos (suc n)) (λ e. omega (arith, ints, e))))
magnitude_number (negsuc n) = ap (λ m. number (pos m)) (sym (size_of_nonzero (negsuc n) (λ e. omega (arith, ints, e))))

zero_power_size : (n : ℕ) → nonzero_size (pow (pos 0) n) ≡ 1
unfolding pow one
zero_power_size zero = refl
zero_power_size (suc n) =
    let none : pow (pos 0) (suc n) ≡ pos 0 = pow-succ' (pos 0) n ∙ omega (arith, ints) in
    ap nonzero_size none

nonzero_power_size : (z : ℤ) (n : ℕ) → z ≢ pos 0 → nonzero_size z * nonzero_size (pow z n) ≡ nonzero_size (pow z (suc n))
nonzero_power_size z n h =
    (λ i. size_of_nonzero z h i * size_of_nonzero (pow z n) (pow_not_zero z n h) i)
    ∙ sym (unsigned_abs-mul z (pow z n))
    ∙ ap unsigned_abs (sym (pow-succ' z n))
    ∙ sym (size_of_nonzero (pow z (suc n)) (pow_not_zero z (suc n) h))

-- one more factor of a power
power_size : (z : ℤ) (n : ℕ) → nonzero_size z * nonzero_size (pow z n) ≡ nonzero_size (pow z (suc n))
power_size (pos zero) n = omega (arith, zero_power_size n, zero_power_size (suc n))
power_size (pos (suc m)) n = nonzero_power_size (pos (suc m)) n (λ e. omega (arith, ints, e))
power_size (negsuc m) n = nonzero_power_size (negsuc m) n (λ e. omega (arith, ints, e))

-- the counterpart of a power in the ring of the whole numbers
pub size_number : (z : ℤ) (n : ℕ)
    → power_in whole_algebra.ops (nonzero_magnitude whole_algebra.ops (number z)) n ≡ number (pos (nonzero_size (pow z n)))
unfolding pow one
size_number z zero = refl
size_number z (suc n) =
    (λ i. number (number_of (magnitude_number z i) *ℤ number_of (size_number z n i))) ∙ ap (λ m. number (pos m)) (power_size z n)

-- the size bounds a number
pub size_bound : (z : ℤ) → IsBound whole_algebra (number (pos (nonzero_size z)), refl) (number z)
size_bound z = record {
  covers = omega (arith, ints);
  magnitude = refl;
  not_zero = λ e. omega (arith, ints, ap number_of e, size_positive z);
}

-- a refused product with a power is out of bounds
pub power_fault : (at : ℕ) (p b : ℤ) (n : ℕ) (fault : RingFault)
    → OnFault ((bound : Passing whole_algebra) → IsBound whole_algebra bound (number p)
    → ¬ whole_algebra.ops.Fits (whole_algebra.ops.product bound.0 (power_in whole_algebra.ops
    (nonzero_magnitude whole_algebra.ops (number b)) n))) fault
    → HasCause (makes at (of_number (nonzero_size p * nonzero_size (pow b n))) (p *ℤ pow b n)) (term_cause (fault_of at fault))
power_fault at p b n fault h =
    ring_cause (makes at (of_number (nonzero_size p * nonzero_size (pow b n))) (p *ℤ pow b n)) at _ fault h
    (λ out. made_too_large at (of_number (nonzero_size p * nonzero_size (pow b n))) (λ small.
    out (number (pos (nonzero_size p)), refl) (size_bound p)
    (subst (λ m. unsigned_abs (pos (nonzero_size p) *ℤ number_of m) < 2 ^ 127) (sym (size_number b n)) small)))
