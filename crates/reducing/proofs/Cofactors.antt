-- What a number has beyond a common divisor with another one, and forms without a common divisor that are proportional.
use Rattle.std.specs.Prelude.{◌≡◌, ◌≢◌, ℕ, zero, suc, ◌+◌, ◌*◌, ◌/◌, ◌%◌, ◌<◌, ℤ, pos, negsuc, ◌*ℤ◌, ◌-ℤ◌, unsigned_abs, ◌⊎◌, [], ◌∷◌}
use Rattle.std.specs.Int.{◌∣◌, IsGcd}
use Rattle.std.proofs.Common.{ap, sym, ◌∙◌, subst, refl, ⊎_elim, inl, inr, mul-add, mul_assoc, mul_comm, div-add-mod', mod-lt, arith}
use Rattle.std.proofs.Math.Nat.{mul-one, dvd-mul_left, dvd-mul_right_of_dvd, dvd-add_iff_right, dvd_of_mul-dvd-mul_right, eq-one_of_dvd-one, eq-zero_of_zero-dvd}
use Rattle.std.proofs.lemmas.Int.{ints, unsigned_abs-mul}
use Rattle.std.proofs.lemmas.Nat.Gcd.{dvd_antisymm, mod-eq-zero_of_dvd, IsGcd-from_zero, IsGcd-from_mod}
use Rattle.ring_solver.proofs.Read.{ring_z, reading_z}
use Rattle.ring_laws.specs.Meaning.{number}
use Rattle.ring_laws.specs.WholeDomain.{whole_domain}
use Rattle.ring_laws.specs.Wholes.{number_of}
use Rattle.whole_roots.specs.LinearFactors.{IsProfileForm}
use Rattle.reducing.specs.Laws.WholeMultiples.{belonging}

-- a greatest common divisor; what divides the same multiple of both numbers divides that multiple of it
record Common (a b : ℕ) : Type 0 where
  divisor : ℕ
  is : IsGcd a b divisor
  multiple : (m x : ℕ) → x ∣ m * a → x ∣ m * b → x ∣ m * divisor

-- by the steps of Euclid's algorithm, at most `fuel` of them
common : (fuel a b : ℕ) → b < fuel → Common a b
common zero a b h = absurd (omega (arith, h))
common (suc fuel) a zero h = record { divisor = a; is = IsGcd-from_zero a 0 refl; multiple = λ m x p q. p }
common (suc fuel) a (suc b) h =
    let less : a % suc b < suc b = mod-lt a (omega arith) in
    let rest : Common (suc b) (a % suc b) = common fuel (suc b) (a % suc b) (omega (arith, h, less)) in
    record {
      divisor = rest.divisor;
      is = IsGcd-from_mod a (suc b) rest.divisor rest.is;
      multiple = λ m x p q. rest.multiple m x q (remainder m x p q);
    }
  where
    remainder : (m x : ℕ) → x ∣ m * a → x ∣ m * suc b → x ∣ m * (a % suc b)
    remainder m x p q =
        let all : m * (a / suc b * suc b) + m * (a % suc b) ≡ m * a =
        sym (mul-add m (a / suc b * suc b) (a % suc b)) ∙ ap (λ n. m * n) (div-add-mod' a (suc b)) in
        let part : m * suc b * (a / suc b) ≡ m * (a / suc b * suc b) =
        mul_assoc m (suc b) (a / suc b) ∙ ap (λ n. m * n) (mul_comm (suc b) (a / suc b)) in
        (dvd-add_iff_right x (subst (λ n. x ∣ n) part (dvd-mul_right_of_dvd x q (a / suc b)))).1 (subst (λ n. x ∣ n) (sym all) p)

-- what c has beyond its common divisors with d divides each number whose product with d the number c divides
pub record Cofactor (c d : ℕ) : Type 0 where
  pub part : ℕ
  pub divides : (y : ℕ) → c ∣ d * y → part ∣ y
  pub none : part ∣ 1 → c ∣ d

pub cofactor : (c d : ℕ) → 0 < c → Cofactor c d
cofactor c d some = record {
  part = c / g.divisor;
  divides = λ y h.
      dvd_of_mul-dvd-mul_right (c / g.divisor) positive
      (subst (λ n. n ∣ y * g.divisor) (sym whole) (g.multiple y c (dvd-mul_left c y) (subst (λ n. c ∣ n) (mul_comm d y) h)));
  none = λ h. subst (λ n. n ∣ d) (once (eq-one_of_dvd-one h)) g.is.1;
}
  where
    g : Common c d
    g = common (suc d) c d (omega arith)

    whole : c / g.divisor * g.divisor ≡ c
    whole = omega (arith, div-add-mod' c g.divisor, mod-eq-zero_of_dvd g.divisor g.is.0)

    positive : 0 < g.divisor
    positive = by g.divisor refl
      where
        by : (n : ℕ) → g.divisor ≡ n → 0 < g.divisor
        by zero e = absurd (omega (arith, some, eq-zero_of_zero-dvd (subst (λ n. n ∣ c) e g.is.0)))
        by (suc n) e = omega (arith, e)

    once : c / g.divisor ≡ 1 → g.divisor ≡ c
    once e = omega (arith, ap (λ n. n * g.divisor) (sym e) ∙ whole)

-- ---- forms
-- u*n + v at the root of p*n + w, times p, with the sign turned
abbrev pub cross : ℕ → ℤ → ℕ → ℤ → ℤ
cross u v p w = w *ℤ pos u -ℤ pos p *ℤ v

slope_divides : (u : ℕ) (v : ℤ) (p : ℕ) (w : ℤ) → IsProfileForm u v → w *ℤ pos u ≡ pos p *ℤ v → u ∣ p
slope_divides u v p w h e =
    let g : Common u (unsigned_abs v) = common (suc (unsigned_abs v)) u (unsigned_abs v) (omega arith) in
    let sizes : unsigned_abs w * u ≡ p * unsigned_abs v = sym (unsigned_abs-mul w (pos u)) ∙ ap unsigned_abs e ∙ unsigned_abs-mul (pos p) v in
    let divides : u ∣ p * g.divisor = g.multiple p u (dvd-mul_left u p) (subst (λ n. u ∣ n) sizes (dvd-mul_left u (unsigned_abs w))) in
    subst (λ n. u ∣ n) (ap (λ n. p * n) (h.coprime g.divisor g.is.0 g.is.1) ∙ mul-one p) divides

turned : (a b : ℤ) → a *ℤ b ≡ b *ℤ a
turned a b = ring_z (a ∷ b ∷ []) (search reading_z depth 40 fits 20000) refl

difference : (w v a : ℤ) → (w -ℤ v) *ℤ a ≡ w *ℤ a -ℤ a *ℤ v
difference w v a = ring_z (w ∷ v ∷ a ∷ []) (search reading_z depth 40 fits 20000) refl

proportional : (u : ℕ) (v : ℤ) (p : ℕ) (w : ℤ) → IsProfileForm u v → IsProfileForm p w → cross u v p w ≡ pos 0 → (u ≡ p) × (v ≡ w)
proportional u v p w h k e = (slopes, offsets)
  where
    products : w *ℤ pos u ≡ pos p *ℤ v
    products = omega (arith, ints, e)

    slopes : u ≡ p
    slopes = dvd_antisymm (slope_divides u v p w h products) (slope_divides p w u v k (turned v (pos p) ∙ sym products ∙ turned w (pos u)))

    none : (w -ℤ v) *ℤ pos u ≡ pos 0
    none = difference w v (pos u) ∙ subst (λ n. w *ℤ pos u -ℤ pos n *ℤ v ≡ pos 0) (sym slopes) e

    offsets : v ≡ w
    offsets =
        ⊎_elim (λ d. omega (arith, ints, ap number_of d)) (λ d. absurd (omega (arith, ints, h.from_one, ap number_of d)))
        (whole_domain.no_divisors (belonging (w -ℤ v)) (belonging (pos u)) (ap number none))

zero_or_not : (z : ℤ) → (z ≡ pos 0) ⊎ (z ≢ pos 0)
zero_or_not (pos zero) = inl refl
zero_or_not (pos (suc n)) = inr (λ e. cc)
zero_or_not (negsuc n) = inr (λ e. cc)

-- two forms of the profile are one, or not proportional
pub same_or_apart : (u : ℕ) (v : ℤ) (p : ℕ) (w : ℤ) → IsProfileForm u v → IsProfileForm p w
    → ((u ≡ p) × (v ≡ w)) ⊎ (cross u v p w ≢ pos 0)
same_or_apart u v p w h k = ⊎_elim (λ e. inl (proportional u v p w h k e)) inr (zero_or_not (cross u v p w))
