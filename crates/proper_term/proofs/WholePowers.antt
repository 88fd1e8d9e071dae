-- Powers of whole numbers, factor by factor.
use Rattle.std.proofs.Common.{◌≡◌, ◌≢◌, ℕ, zero, suc, ◌+◌, ◌-◌, ◌*◌, ◌/◌, ◌%◌, ◌^◌, ◌<◌, ◌≤◌, refl, ap, sym, ◌∙◌, arith, [], ◌∷◌}
use lib.IntN.{pow, one}
use Rattle.std.proofs.Math.IntN.{pow-succ'}
use Rattle.std.proofs.Math.Nat.{mul-le-mul_left}
use Rattle.std.proofs.lemmas.Int.{ints, unsigned_abs-mul}
use Rattle.std.specs.Prelude.{ℤ, pos, negsuc, ◌*ℤ◌, unsigned_abs}
use Rattle.ring_solver.proofs.Read.{ring_z, reading_z}
use Rattle.hypergeometric.specs.TermFacts.{IsNumber}
use Rattle.hypergeometric.proofs.FractionLaws.{pow_not_zero}

pub pow_next : (z : ℤ) (n : ℕ) → pow z (suc n) ≡ z *ℤ pow z n
pow_next z n = pow-succ' z n

-- one more factor
pub one_more : (product base whole : ℤ) (left : ℕ) → 0 < left → product *ℤ pow base left ≡ whole → (product *ℤ base) *ℤ pow base (left - 1) ≡ whole
one_more product base whole zero h e = absurd (omega (arith, h))
one_more product base whole (suc left) h e =
    ap (λ t. (product *ℤ base) *ℤ pow base t) (last left)
    ∙ regroup product base (pow base left) ∙ ap (λ t. product *ℤ t) (sym (pow_next base left)) ∙ e
  where
    last : (left : ℕ) → suc left - 1 ≡ left
    last left = omega arith

    regroup : (a b c : ℤ) → (a *ℤ b) *ℤ c ≡ a *ℤ (b *ℤ c)
    regroup a b c = ring_z (a ∷ b ∷ c ∷ []) (search reading_z depth 40 fits 20000) refl

-- a product that is out of bounds shows that the power is
pub not_less : (product base whole : ℤ) (left : ℕ) → 0 < left → base ≢ pos 0 → product *ℤ pow base left ≡ whole
    → ¬ (unsigned_abs product * unsigned_abs base < 2 ^ 127) → ¬ IsNumber whole
not_less product base whole left h some e out small =
    let rest = pow base (left - 1) in
    let size : unsigned_abs product * unsigned_abs base * unsigned_abs rest ≡ unsigned_abs whole =
    ap (λ t. t * unsigned_abs rest) (sym (unsigned_abs-mul product base)) ∙ sym (unsigned_abs-mul (product *ℤ base) rest)
    ∙ ap unsigned_abs (one_more product base whole left h e) in
    let some_rest : 1 ≤ unsigned_abs rest = positive rest (pow_not_zero base (left - 1) some) in
    let grows : (unsigned_abs product * unsigned_abs base) * 1 ≤ (unsigned_abs product * unsigned_abs base) * unsigned_abs rest =
    mul-le-mul_left (unsigned_abs product * unsigned_abs base) some_rest in
    out (omega (arith, size, grows, small))
  where
    positive : (z : ℤ) → z ≢ pos 0 → 1 ≤ unsigned_abs z
    positive (pos zero) n = absurd (n refl)
    positive (pos (suc m)) n = omega (arith, ints)
    positive (negsuc m) n = omega (arith, ints)

twice : (z : ℤ) (q r : ℕ) → unsigned_abs z ≡ 1 → pow z (2 * q + r) ≡ pow z r
twice z zero r h = ap (pow z) (none r)
  where
    none : (r : ℕ) → 2 * 0 + r ≡ r
    none r = omega arith
twice z (suc q) r h =
    ap (pow z) (steps q r)
    ∙ pow_next z (suc (2 * q + r)) ∙ ap (λ t. z *ℤ t) (pow_next z (2 * q + r))
    ∙ square z (pow z (2 * q + r)) h
    ∙ twice z q r h
  where
    steps : (q r : ℕ) → 2 * suc q + r ≡ suc (suc (2 * q + r))
    steps q r = omega arith

    square : (z t : ℤ) → unsigned_abs z ≡ 1 → z *ℤ (z *ℤ t) ≡ t
    square z t h = regroup z t ∙ ap (λ s. s *ℤ t) (unit z h) ∙ once t
      where
        regroup : (z t : ℤ) → z *ℤ (z *ℤ t) ≡ (z *ℤ z) *ℤ t
        regroup z t = ring_z (z ∷ t ∷ []) (search reading_z depth 40 fits 20000) refl

        unit : (z : ℤ) → unsigned_abs z ≡ 1 → z *ℤ z ≡ pos 1
        unit (pos m) e = ap (λ n. pos (n * n)) e
        unit (negsuc m) e = ap (λ n. pos (n * n)) e

        once : (t : ℤ) → pos 1 *ℤ t ≡ t
        once t = ring_z (t ∷ []) (search reading_z depth 40 fits 20000) refl

-- a power of 1 or -1 by the exponent's last digit
pub by_parity : (z : ℤ) (n : ℕ) → unsigned_abs z ≡ 1 → pow z (n % 2) ≡ pow z n
by_parity z n h = sym (twice z (n / 2) (n % 2) h) ∙ ap (pow z) (omega arith)

-- nothing is left
pub nothing_left : (product base whole : ℤ) (left : ℕ) → left ≡ 0 → product *ℤ pow base left ≡ whole → product ≡ whole
unfolding pow one
nothing_left product base whole left none e = once product ∙ ap (λ t. product *ℤ pow base t) (sym none) ∙ e
  where
    once : (t : ℤ) → t ≡ t *ℤ pos 1
    once t = ring_z (t ∷ []) (search reading_z depth 40 fits 20000) refl
