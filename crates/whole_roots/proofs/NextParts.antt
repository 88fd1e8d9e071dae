-- The coefficients of a quotient by u*n + v, one after another, where u and v have no common divisor above 1.
use Rattle.std.specs.Prelude.{◌≡◌, ℕ, zero, suc, ◌*◌, ◌^◌, ℤ, pos, negsuc, ◌+ℤ◌, ◌-ℤ◌, ◌*ℤ◌, neg_ℤ, unsigned_abs, [], ◌∷◌, refl}
use Rattle.std.specs.Int.{◌∣◌}
use Rattle.std.proofs.Common.{ap, sym, ◌∙◌, subst, pow-suc, arith}
use Rattle.std.proofs.Math.IntN.{*ℤ_comm}
use Rattle.std.proofs.Math.Nat.{mul-one, dvd-mul_left}
use Rattle.std.proofs.lemmas.Int.{ints, unsigned_abs-mul}
use Rattle.std.proofs.lemmas.Nat.Gcd.{dvd_refl, dvd-zero}
use Rattle.ring_laws.specs.Algebra.{Passing, same_passing}
use Rattle.ring_laws.specs.WholeDomain.{whole_domain}
use Rattle.ring_laws.specs.WholeLaws.{whole_laws}
use Rattle.ring_laws.specs.Wholes.{whole_algebra, number_of}
use Rattle.ring_laws.specs.Meaning.{number}
use Rattle.ring_solver.proofs.Read.{ring_z, reading_z}
use Rattle.poly_divide.proofs.CommonFactors.{cancel_factor}
use Rattle.whole_roots.proofs.Coprime.{divides_before, whole_quotient}
use Rattle.whole_roots.proofs.DifferenceLaws.{base}
use Rattle.whole_roots.proofs.FormParts.{whole}

one_power_is : (n : ℕ) → 1 ^ n ≡ 1
one_power_is zero = refl
one_power_is (suc n) = pow-suc 1 n ∙ mul-one (1 ^ n) ∙ one_power_is n

-- x*p + (-v)*s = c*p makes (x - c)*p = v*s
pub moved : (x c p v s : ℤ) → x *ℤ p +ℤ neg_ℤ v *ℤ s ≡ c *ℤ p → (x -ℤ c) *ℤ p ≡ s *ℤ v
moved x c p v s h =
    omega (arith, ints, h, first x c p, second v s)
  where
    first : (a b d : ℤ) → (a -ℤ b) *ℤ d ≡ a *ℤ d -ℤ b *ℤ d
    first a b d = ring_z (a ∷ b ∷ d ∷ []) (search reading_z depth 40 fits 20000) refl

    second : (a b : ℤ) → neg_ℤ a *ℤ b ≡ pos 0 -ℤ b *ℤ a
    second a b = ring_z (a ∷ b ∷ []) (search reading_z depth 40 fits 20000) refl

pub parted : (y x c : ℤ) → y ≡ x -ℤ c → x ≡ y +ℤ c
parted y x c e = omega (arith, ints, e)

pub single : (a b z : ℤ) (n : ℕ) → n ≡ 1 → a *ℤ pos n +ℤ z *ℤ pos 0 ≡ b *ℤ pos n → a ≡ b
single a b z n e h =
    sym (left a z) ∙ ap (λ (k : ℕ). a *ℤ pos k +ℤ z *ℤ pos 0) (sym e) ∙ h ∙ ap (λ (k : ℕ). b *ℤ pos k) e ∙ right b
  where
    left : (a z : ℤ) → a *ℤ pos 1 +ℤ z *ℤ pos 0 ≡ a
    left a z = ring_z (a ∷ z ∷ []) (search reading_z depth 40 fits 20000) refl

    right : (b : ℤ) → b *ℤ pos 1 ≡ b
    right b = ring_z (b ∷ []) (search reading_z depth 40 fits 20000) refl

module _ (u : ℕ) (v : ℤ) (coprime : (d : ℕ) → d ∣ u → d ∣ unsigned_abs v → d ≡ 1) where
  -- the coefficient of a quotient
  pub record NextPart (r s : ℤ) (n : ℕ) : Type 0 where
    pub part : ℤ
    pub times : r ≡ v *ℤ part
    pub rest : s ≡ (pos u *ℤ part) *ℤ pos (u ^ n)

  cancelled : (a b : ℤ) → ¬ (v ≡ pos 0) → a *ℤ v ≡ b *ℤ v → a ≡ b
  cancelled a b n h =
      ap (λ (x : Passing whole_algebra). number_of x.0)
      (cancel_factor whole_algebra whole_laws whole_domain (whole a) (whole b) (whole v)
      (λ e. n (ap (λ (x : Passing whole_algebra). number_of x.0) e))
      (same_passing whole_algebra (base.product (whole a) (whole v)) (base.product (whole b) (whole v)) (ap number h)))

  by_quotient : (r s : ℤ) (n : ℕ) → r *ℤ pos (u ^ suc n) ≡ s *ℤ v → ¬ (v ≡ pos 0) → NextPart r s n
  by_quotient r s n h some =
      let size : unsigned_abs r * u ^ suc n ≡ unsigned_abs s * unsigned_abs v =
      sym (unsigned_abs-mul r (pos (u ^ suc n))) ∙ ap unsigned_abs h ∙ unsigned_abs-mul s v in
      let q = whole_quotient r v (divides_before u (unsigned_abs v) (unsigned_abs r) (suc n) coprime
      (subst (λ m. unsigned_abs v ∣ m) (sym size) (dvd-mul_left (unsigned_abs v) (unsigned_abs s)))) in
      let more : pos (u ^ suc n) ≡ pos (u ^ n) *ℤ pos u = ap pos (pow-suc u n) in
      record {
        part = q.0;
        times = q.1 ∙ *ℤ_comm q.0 v;
        rest = sym (cancelled (pos u *ℤ q.0 *ℤ pos (u ^ n)) s some
            (regrouped q.0 v (pos (u ^ n)) (pos u) ∙ (λ i. sym q.1 i *ℤ sym more i) ∙ h));
      }
    where
      regrouped : (a b p w : ℤ) → w *ℤ a *ℤ p *ℤ b ≡ (a *ℤ b) *ℤ (p *ℤ w)
      regrouped a b p w = ring_z (a ∷ b ∷ p ∷ w ∷ []) (search reading_z depth 40 fits 20000) refl

  -- where the constant is 0, the slope is 1
  by_slope_one : (r s : ℤ) (n : ℕ) → r *ℤ pos (u ^ suc n) ≡ s *ℤ v → v ≡ pos 0 → NextPart r s n
  by_slope_one r s n h none =
      let one : u ≡ 1 = coprime u (dvd_refl u) (subst (λ (z : ℤ). u ∣ unsigned_abs z) (sym none) (dvd-zero u)) in
      let power : (k : ℕ) → pos (u ^ k) ≡ pos 1 = λ k. ap (λ (t : ℕ). pos (t ^ k)) one ∙ ap pos (one_power_is k) in
      record {
        part = s;
        times = sym (times_one r) ∙ ap (λ (z : ℤ). r *ℤ z) (sym (power (suc n))) ∙ h ∙ *ℤ_comm s v;
        rest = sym ((λ i. pos (one i) *ℤ s *ℤ power n i) ∙ times_one (pos 1 *ℤ s) ∙ *ℤ_comm (pos 1) s ∙ times_one s);
      }
    where
      times_one : (z : ℤ) → z *ℤ pos 1 ≡ z
      times_one z = ring_z (z ∷ []) (search reading_z depth 40 fits 20000) refl

  pub next_part : (r s : ℤ) (n : ℕ) → r *ℤ pos (u ^ suc n) ≡ s *ℤ v → NextPart r s n
  next_part r s n h = by v refl
    where
      by : (w : ℤ) → v ≡ w → NextPart r s n
      by (pos zero) e = by_slope_one r s n h e
      by (pos (suc m)) e = by_quotient r s n h (λ k. cc (e, k))
      by (negsuc m) e = by_quotient r s n h (λ k. cc (e, k))
