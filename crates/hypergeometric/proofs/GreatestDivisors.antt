-- The greatest number that divides two numbers is their greatest common divisor: each number that divides both divides it.
use Rattle.std.proofs.Common.{◌≡◌, ℕ, zero, suc, ◌+◌, ◌-◌, ◌%◌, ◌≤◌, ◌<◌, refl, ap, sym, ◌∙◌, true, ◌&&◌, arith, subst, true≢false, ◌⊎◌, inl, inr, ⊎_elim}
use Rattle.std.proofs.lemmas.Bool.{cond_both, eqb-true, eq-eqb, and_parts, and_from}
use Rattle.std.proofs.lemmas.Nat.{mod_below}
use Rattle.std.proofs.lemmas.Nat.Gcd.{IsGcd-from_zero, IsGcd-from_mod, le_of_dvd, dvd_of_mod-eq-zero, mod-eq-zero_of_dvd}
use Rattle.std.proofs.Math.Nat.{one-dvd, eq-zero_of_zero-dvd}
use Rattle.std.specs.Int.{◌∣◌, IsGcd}
use Rattle.hypergeometric.specs.Divisors.{divides, greatest_divisor_up_to, greatest_common_divisor}

divides_told : (d a : ℕ) → d ∣ a → divides d a ≡ true
divides_told d a h = eq-eqb (a % d) 0 (mod-eq-zero_of_dvd d h)

divides_read : (d a : ℕ) → divides d a ≡ true → d ∣ a
divides_read d a e = dvd_of_mod-eq-zero d (eqb-true (a % d) 0 e)

both_told : (d a b : ℕ) → d ∣ a → d ∣ b → (divides d a && divides d b) ≡ true
both_told d a b p q = and_from (divides d a) (divides d b) (divides_told d a p) (divides_told d b q)

-- a common divisor other than 0
record IsCommon (a b g : ℕ) : Type 0 where
  pub positive : 0 < g
  pub left : g ∣ a
  pub right : g ∣ b

common_read : (d a b : ℕ) → 0 < d → (divides d a && divides d b) ≡ true → IsCommon a b d
common_read d a b some e = record {
  positive = some;
  left = divides_read d a (and_parts (divides d a) (divides d b) e).0;
  right = divides_read d b (and_parts (divides d a) (divides d b) e).1;
}

-- the greatest up to a bound of at least 1 is one
greatest_is_common : (d a b : ℕ) → IsCommon a b (greatest_divisor_up_to (suc d) a b)
greatest_is_common zero a b =
    cond_both (divides 1 a && divides 1 b) 1 0 (IsCommon a b) (common_read 1 a b (omega arith))
    (λ e. absurd (true≢false (sym (both_told 1 a b (one-dvd a) (one-dvd b)) ∙ e)))
greatest_is_common (suc d) a b =
    cond_both (divides (suc (suc d)) a && divides (suc (suc d)) b) (suc (suc d)) (greatest_divisor_up_to (suc d) a b) (IsCommon a b)
    (common_read (suc (suc d)) a b (omega arith)) (λ e. greatest_is_common d a b)

same_or_below : (e d : ℕ) → e ≤ suc d → (e ≡ suc d) ⊎ (e ≤ d)
same_or_below zero d h = inr (omega arith)
same_or_below (suc e) zero h = inl (omega (arith, h))
same_or_below (suc e) (suc d) h = ⊎_elim (λ p. inl (ap suc p)) (λ p. inr (omega (arith, p))) (same_or_below e d (omega (arith, h)))

-- no common divisor up to the bound is greater
none_greater : (bound a b e : ℕ) → e ≤ bound → 0 < e → e ∣ a → e ∣ b → e ≤ greatest_divisor_up_to bound a b
none_greater zero a b e h some p q = absurd (omega (arith, h, some))
none_greater (suc d) a b e h some p q =
    cond_both (divides (suc d) a && divides (suc d) b) (suc d) (greatest_divisor_up_to d a b) (λ g. e ≤ g) (λ f. h)
    (λ f. ⊎_elim (λ same. absurd (true≢false (sym (both_told (suc d) a b (subst (λ t. t ∣ a) same p) (subst (λ t. t ∣ b) same q)) ∙ f)))
    (λ below. none_greater d a b e below some p q) (same_or_below e d h))

-- a greatest common divisor, by Euclid's algorithm
pub record HasGcd (a b : ℕ) : Type 0 where
  pub gcd : ℕ
  pub is : IsGcd a b gcd

euclid : (fuel a b : ℕ) → b ≤ fuel → HasGcd a b
euclid zero a b h = record { gcd = a; is = IsGcd-from_zero a b (omega (arith, h)) }
euclid (suc fuel) a zero h = record { gcd = a; is = IsGcd-from_zero a zero refl }
euclid (suc fuel) a (suc b) h =
    let rest : HasGcd (suc b) (a % suc b) = euclid fuel (suc b) (a % suc b) (omega (arith, h, mod_below a (suc b) (omega arith))) in
    record { gcd = rest.gcd; is = IsGcd-from_mod a (suc b) rest.gcd rest.is }

positive_divisor : (g a b : ℕ) → 0 < a + b → g ∣ a → g ∣ b → 0 < g
positive_divisor zero a b n p q = absurd (omega (arith, n, eq-zero_of_zero-dvd p, eq-zero_of_zero-dvd q))
positive_divisor (suc g) a b n p q = omega arith

below_sum : (g a b : ℕ) → 0 < a + b → g ∣ a → g ∣ b → g ≤ a + b
below_sum g zero zero n p q = absurd (omega (arith, n))
below_sum g zero (suc b) n p q =
    let h : g ≤ suc b = le_of_dvd (omega arith) q in
    omega (arith, h)
below_sum g (suc a) b n p q =
    let h : g ≤ suc a = le_of_dvd (omega arith) p in
    omega (arith, h)

common_divisor : (a b : ℕ) → 0 < a + b → IsCommon a b (greatest_common_divisor a b)
common_divisor a b some =
    let whole : suc (a + b - 1) ≡ a + b = omega (arith, some) in
    subst (λ bound. IsCommon a b (greatest_divisor_up_to bound a b)) whole (greatest_is_common (a + b - 1) a b)

pub greatest_positive : (a b : ℕ) → 0 < a + b → 0 < greatest_common_divisor a b
greatest_positive a b some = (common_divisor a b some).positive

some_gcd : (a b : ℕ) → 0 < a + b → IsGcd a b (greatest_common_divisor a b)
some_gcd a b some = subst (IsGcd a b) (same_divisor (euclid b a b (omega arith))) (euclid b a b (omega arith)).is
  where
    same_divisor : (h : HasGcd a b) → h.gcd ≡ greatest_common_divisor a b
    same_divisor h =
        let positive : 0 < h.gcd = positive_divisor h.gcd a b some h.is.0 h.is.1 in
        let common = common_divisor a b some in
        let up : h.gcd ≤ greatest_common_divisor a b = none_greater (a + b) a b h.gcd (below_sum h.gcd a b some h.is.0 h.is.1)
        positive h.is.0 h.is.1 in
        let down : greatest_common_divisor a b ≤ h.gcd = le_of_dvd positive (h.is.2 (greatest_common_divisor a b) common.left common.right) in
        omega (arith, up, down)

pub greatest_is_gcd : (a b : ℕ) → IsGcd a b (greatest_common_divisor a b)
greatest_is_gcd zero zero = IsGcd-from_zero 0 0 refl
greatest_is_gcd zero (suc b) = some_gcd zero (suc b) (omega arith)
greatest_is_gcd (suc a) b = some_gcd (suc a) b (omega arith)
