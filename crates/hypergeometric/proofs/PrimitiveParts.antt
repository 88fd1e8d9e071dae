-- The primitive form of a form is primitive, and constant only where the form is.
use Rattle.std.proofs.Common.{◌≡◌, ◌≢◌, ℕ, zero, suc, refl, ap, sym, ◌∙◌, Bool, true, false, cond, arith, subst, ◌⊎◌, inl, inr, ⊎_elim}
use Rattle.std.proofs.lemmas.Int.{ints}
use Rattle.std.proofs.lemmas.Bool.{ltb-true, eqb-true}
use Rattle.std.specs.Prelude.{ℤ, pos, negsuc, ◌*ℤ◌, ◌<ℤ◌, unsigned_abs, int_lt, ltb}
use lib.IntN.{*ℤ_comm}
use Rattle.ring_laws.specs.WholeDomain.{abs_nought}
use Rattle.hypergeometric.specs.LinearForm.{LinearForm}
use Rattle.hypergeometric.specs.FormOrder.{IsPositiveFirst, IsPrimitive}
use Rattle.hypergeometric.specs.TermFacts.{IsNotConstant}
use Rattle.hypergeometric.specs.Forms.{IsGreatestDivisor}
use Rattle.hypergeometric.specs.Divisors.{negated_where}
use Rattle.hypergeometric.specs.PrimitiveForm.{is_zero, is_negative_first, content_of_form, primitive_form}
use Rattle.hypergeometric.proofs.PrimitiveForms.{IsNotZero, SignIs, primitive_quotients}
use Rattle.hypergeometric.proofs.SameValues.{zero_or_not, zero_times}
use Rattle.hypergeometric.proofs.Contents.{divisor_of_form, content_size, content_divides, content_not_zero, k_slope_times, n_slope_times, offset_times}

-- the sign of a number other than 0
abbrev HasSign : ℤ → Type 0
HasSign z = ((int_lt z (pos 0) ≡ true) × (z <ℤ pos 0)) ⊎ ((int_lt z (pos 0) ≡ false) × (pos 0 <ℤ z))

sign_found : (z : ℤ) → ¬ (z ≡ pos 0) → HasSign z
sign_found (pos zero) n = absurd (n refl)
sign_found (pos (suc m)) n = inr (by (ltb (suc m) 0) refl, omega (arith, ints))
  where
    by : (b : Bool) → ltb (suc m) 0 ≡ b → b ≡ false
    by true e = absurd (omega (arith, ltb-true (suc m) 0 e))
    by false e = refl
sign_found (negsuc m) n = inl (refl, omega (arith, ints))

is_not_zero : (z : ℤ) → ¬ (z ≡ pos 0) → is_zero z ≡ false
is_not_zero z n = by (is_zero z) refl
  where
    by : (b : Bool) → is_zero z ≡ b → b ≡ false
    by true e = absurd (n (abs_nought z (eqb-true (unsigned_abs z) 0 e)))
    by false e = refl

-- whether the first number that isn't 0 is negative
abbrev IsSigned : LinearForm → Type 0
IsSigned f = ((is_negative_first f ≡ true) × (¬ IsPositiveFirst f)) ⊎ ((is_negative_first f ≡ false) × IsPositiveFirst f)

by_k : (f : LinearForm) → ¬ (f.k_slope ≡ pos 0) → IsSigned f
by_k f n =
    let first : is_negative_first f ≡ int_lt f.k_slope (pos 0) =
    ap (λ b. cond b (cond (is_zero f.n_slope) (int_lt f.offset (pos 0)) (int_lt f.n_slope (pos 0))) (int_lt f.k_slope (pos 0)))
    (is_not_zero f.k_slope n) in
    ⊎_elim (λ s. inl (first ∙ s.0, λ p. ⊎_elim (λ q. omega (arith, ints, q, s.1)) (λ q. ⊎_elim (λ r. n r.0) (λ r. n r.0) q) p))
    (λ s. inr (first ∙ s.0, inl s.1)) (sign_found f.k_slope n)

by_n : (f : LinearForm) → f.k_slope ≡ pos 0 → ¬ (f.n_slope ≡ pos 0) → IsSigned f
by_n f z n =
    let first : is_negative_first f ≡ int_lt f.n_slope (pos 0) =
    ap (λ k. cond (is_zero k) (cond (is_zero f.n_slope) (int_lt f.offset (pos 0)) (int_lt f.n_slope (pos 0))) (int_lt k (pos 0))) z
    ∙ ap (λ b. cond b (int_lt f.offset (pos 0)) (int_lt f.n_slope (pos 0))) (is_not_zero f.n_slope n) in
    ⊎_elim (λ s. inl (first ∙ s.0, λ p. ⊎_elim (λ q. omega (arith, ints, q, z)) (λ q. ⊎_elim (λ r. omega (arith, ints, r.1, s.1)) (λ r. n r.1) q) p))
    (λ s. inr (first ∙ s.0, inr (inl (z, s.1)))) (sign_found f.n_slope n)

by_offset : (f : LinearForm) → f.k_slope ≡ pos 0 → f.n_slope ≡ pos 0 → ¬ (f.offset ≡ pos 0) → IsSigned f
by_offset f z y n =
    let first : is_negative_first f ≡ int_lt f.offset (pos 0) =
    λ i. cond (is_zero (z i)) (cond (is_zero (y i)) (int_lt f.offset (pos 0)) (int_lt (y i) (pos 0))) (int_lt (z i) (pos 0)) in
    ⊎_elim (λ s. inl (
      first ∙ s.0,
      λ p. ⊎_elim (λ q. omega (arith, ints, q, z))
          (λ q. ⊎_elim (λ r. omega (arith, ints, r.1, y)) (λ r. omega (arith, ints, r.2, s.1)) q) p,
    ))
    (λ s. inr (first ∙ s.0, inr (inr (z, y, s.1)))) (sign_found f.offset n)

signed : (f : LinearForm) → IsNotZero f → IsSigned f
signed f some =
    ⊎_elim (λ z. ⊎_elim (λ y. by_offset f z y (λ x. some (z, y, x))) (by_n f z) (zero_or_not f.n_slope)) (by_k f) (zero_or_not f.k_slope)

content_sign : (f : LinearForm) → IsNotZero f → SignIs f (content_of_form f)
content_sign f some = ⊎_elim
    (λ s. inr (negative s.0 (content_not_zero f some), s.1)) (λ s. inl (positive s.0 (content_not_zero f some), s.1)) (signed f some)
  where
    negative : is_negative_first f ≡ true → content_of_form f ≢ pos 0 → content_of_form f <ℤ pos 0
    negative e n = by (divisor_of_form f) (ap (λ b. negated_where b (pos (divisor_of_form f))) e)
      where
        by : (g : ℕ) → content_of_form f ≡ negated_where true (pos g) → content_of_form f <ℤ pos 0
        by zero h = absurd (n h)
        by (suc g) h = omega (arith, ints, h)

    positive : is_negative_first f ≡ false → content_of_form f ≢ pos 0 → pos 0 <ℤ content_of_form f
    positive e n = by (divisor_of_form f) (ap (λ b. negated_where b (pos (divisor_of_form f))) e)
      where
        by : (g : ℕ) → content_of_form f ≡ negated_where false (pos g) → pos 0 <ℤ content_of_form f
        by zero h = absurd (n h)
        by (suc g) h = omega (arith, ints, h)

pub primitive_is : (f : LinearForm) → IsNotZero f → IsPrimitive (primitive_form f)
primitive_is f some = primitive_quotients f (primitive_form f) (content_of_form f)
    (record {
      k_slope = *ℤ_comm (content_of_form f) (primitive_form f).k_slope ∙ k_slope_times f;
      n_slope = *ℤ_comm (content_of_form f) (primitive_form f).n_slope ∙ n_slope_times f;
      offset = *ℤ_comm (content_of_form f) (primitive_form f).offset ∙ offset_times f;
    })
    (λ e. some (ap (λ (l : LinearForm). l.k_slope) e, ap (λ (l : LinearForm). l.n_slope) e, ap (λ (l : LinearForm). l.offset) e))
    (content_sign f some) (subst (IsGreatestDivisor f) (sym (content_size f)) (content_divides f))

pub primitive_not_constant : (f : LinearForm) → IsNotConstant f → IsNotConstant (primitive_form f)
primitive_not_constant f n z = n (
  sym (n_slope_times f) ∙ ap (λ q. q *ℤ content_of_form f) z.0 ∙ zero_times (content_of_form f),
  sym (k_slope_times f) ∙ ap (λ q. q *ℤ content_of_form f) z.1 ∙ zero_times (content_of_form f),
)
