-- What a number without a common divisor above 1 divides.
use Rattle.std.specs.Prelude.{◌≡◌, ℕ, zero, suc, ◌+◌, ◌*◌, ◌/◌, ◌%◌, ◌^◌, ◌<◌, ℤ, pos, ◌*ℤ◌, unsigned_abs}
use Rattle.std.specs.Int.{◌∣◌}
use Rattle.std.proofs.Common.{int_div, int_rem, ap, sym, ◌∙◌, subst, mul-add, mul_assoc, mul_comm, div-add-mod', mod-lt, pow-suc, arith}
use Rattle.std.proofs.Math.Nat.{mul-one, dvd-mul_left, dvd-mul_right_of_dvd, dvd-add_iff_right, dvd-mod_iff, pow-zero}
use Rattle.std.proofs.lemmas.Int.{ints, quot-rem}
use Rattle.std.proofs.lemmas.Nat.Gcd.{dvd_refl, dvd-zero, mod-eq-zero_of_dvd}
use Rattle.ring_laws.specs.WholeDomain.{abs_nought}
use Rattle.ring_laws.proofs.Quotients.{abs_rem}

-- by the steps of Euclid's algorithm, at most `fuel` of them
divides_within : (fuel a b m x : ℕ) → b < fuel → ((d : ℕ) → d ∣ a → d ∣ b → d ≡ 1) → x ∣ m * a → x ∣ m * b → x ∣ m
divides_within zero a b m x p coprime h k = absurd (omega (arith, p))
divides_within (suc fuel) a zero m x p coprime h k =
    subst (λ n. x ∣ n) (ap (λ n. m * n) (coprime a (dvd_refl a) (dvd-zero a)) ∙ mul-one m) h
divides_within (suc fuel) a (suc b) m x p coprime h k =
    let less : a % suc b < suc b = mod-lt a (omega arith) in
    let all : m * (a / suc b * suc b) + m * (a % suc b) ≡ m * a =
    sym (mul-add m (a / suc b * suc b) (a % suc b)) ∙ ap (λ n. m * n) (div-add-mod' a (suc b)) in
    let part : m * suc b * (a / suc b) ≡ m * (a / suc b * suc b) = mul_assoc m (suc b) (a / suc b) ∙ ap (λ n. m * n) (mul_comm (suc b) (a / suc b)) in
    divides_within fuel (suc b) (a % suc b) m x (omega (arith, p, less)) (λ d q r. coprime d ((dvd-mod_iff d q).0 r) q) k
    ((dvd-add_iff_right x (subst (λ n. x ∣ n) part (dvd-mul_right_of_dvd x k (a / suc b)))).1 (subst (λ n. x ∣ n) (sym all) h))

-- what divides a number times a power of one that it has no common divisor with divides the number
pub divides_before : (u v a n : ℕ) → ((d : ℕ) → d ∣ u → d ∣ v → d ≡ 1) → v ∣ a * u ^ n → v ∣ a
divides_before u v a zero coprime h = subst (λ m. v ∣ m) (ap (λ m. a * m) (pow-zero u) ∙ mul-one a) h
divides_before u v a (suc n) coprime h =
    divides_before u v a n coprime
    (divides_within (suc v) u v (a * u ^ n) v (omega arith) coprime
    (subst (λ m. v ∣ m) (ap (λ m. a * m) (pow-suc u n) ∙ sym (mul_assoc a (u ^ n) u)) h) (dvd-mul_left v (a * u ^ n)))

-- the quotient of a whole number
pub whole_quotient : (a v : ℤ) → unsigned_abs v ∣ unsigned_abs a → (q : ℤ) × (a ≡ q *ℤ v)
whole_quotient a v h =
    let none : int_rem a v ≡ pos 0 = abs_nought (int_rem a v) (abs_rem a v ∙ mod-eq-zero_of_dvd (unsigned_abs v) h) in
    (int_div a v, sym (quot-rem a v) ∙ omega (arith, ints, none))
