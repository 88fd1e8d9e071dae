-- The content of a form divides it, and is not 0 where the form is not.
use Rattle.std.proofs.Common.{◌≡◌, ◌≢◌, ℕ, refl, ap, sym, ◌∙◌, [], ◌∷◌, subst}
use Rattle.std.proofs.lemmas.Nat.Gcd.{dvd_trans}
use Rattle.std.specs.Prelude.{ℤ, pos, ◌+ℤ◌, ◌*ℤ◌, unsigned_abs}
use Rattle.std.specs.Int.{◌∣◌, IsGcd}
use Rattle.std.specs.Int.RustNames.{int_div}
use Rattle.ring_solver.proofs.Read.{ring_z, reading_z}
use Rattle.hypergeometric.specs.Point.{Point}
use Rattle.hypergeometric.specs.LinearForm.{LinearForm, form_value}
use Rattle.hypergeometric.specs.Divisors.{greatest_common_divisor}
use Rattle.hypergeometric.specs.Forms.{IsGreatestDivisor}
use Rattle.hypergeometric.specs.PrimitiveForm.{is_negative_first, content_of_form, primitive_form}
use Rattle.hypergeometric.proofs.SameValues.{times_zero}
use Rattle.hypergeometric.proofs.GreatestDivisors.{greatest_is_gcd}
use Rattle.hypergeometric.proofs.LowestTerms.{exact_quotient, negated_size}
use Rattle.hypergeometric.proofs.PrimitiveForms.{IsNotZero}

-- the greatest common divisor of the numbers of a form
abbrev pub divisor_of_form : LinearForm → ℕ
divisor_of_form f = greatest_common_divisor (unsigned_abs f.k_slope) (greatest_common_divisor (unsigned_abs f.n_slope) (unsigned_abs f.offset))

pub content_size : (f : LinearForm) → unsigned_abs (content_of_form f) ≡ divisor_of_form f
content_size f = negated_size (is_negative_first f) (pos (divisor_of_form f))

module _ (f : LinearForm) where
  inner_gcd : IsGcd (unsigned_abs f.n_slope) (unsigned_abs f.offset) (greatest_common_divisor (unsigned_abs f.n_slope) (unsigned_abs f.offset))
  inner_gcd = greatest_is_gcd (unsigned_abs f.n_slope) (unsigned_abs f.offset)

  outer_gcd : IsGcd (unsigned_abs f.k_slope) (greatest_common_divisor (unsigned_abs f.n_slope) (unsigned_abs f.offset)) (divisor_of_form f)
  outer_gcd = greatest_is_gcd (unsigned_abs f.k_slope) (greatest_common_divisor (unsigned_abs f.n_slope) (unsigned_abs f.offset))

  pub content_divides : IsGreatestDivisor f (divisor_of_form f)
  content_divides = record {
    k_slope = outer_gcd.0;
    n_slope = dvd_trans (divisor_of_form f) outer_gcd.1 inner_gcd.0;
    offset = dvd_trans (divisor_of_form f) outer_gcd.1 inner_gcd.1;
    greatest = λ c e q r. outer_gcd.2 c e (inner_gcd.2 c q r);
  }

  by_content : (z : ℤ) → divisor_of_form f ∣ unsigned_abs z → int_div z (content_of_form f) *ℤ content_of_form f ≡ z
  by_content z d = exact_quotient z (content_of_form f) (subst (λ m. m ∣ unsigned_abs z) (sym (content_size f)) d)

  pub k_slope_times : (primitive_form f).k_slope *ℤ content_of_form f ≡ f.k_slope
  k_slope_times = by_content f.k_slope content_divides.k_slope

  pub n_slope_times : (primitive_form f).n_slope *ℤ content_of_form f ≡ f.n_slope
  n_slope_times = by_content f.n_slope content_divides.n_slope

  pub offset_times : (primitive_form f).offset *ℤ content_of_form f ≡ f.offset
  offset_times = by_content f.offset content_divides.offset

  -- the content times the value of the primitive part
  pub content_times : (p : Point) → content_of_form f *ℤ form_value (primitive_form f) p ≡ form_value f p
  content_times p =
      joined p.n p.k (content_of_form f) (primitive_form f).n_slope (primitive_form f).k_slope (primitive_form f).offset
      ∙ (λ i. n_slope_times i *ℤ p.n +ℤ k_slope_times i *ℤ p.k +ℤ offset_times i)
    where
      joined : (n k c s t o : ℤ) → c *ℤ (s *ℤ n +ℤ t *ℤ k +ℤ o) ≡ (s *ℤ c) *ℤ n +ℤ (t *ℤ c) *ℤ k +ℤ o *ℤ c
      joined n k c s t o = ring_z (n ∷ k ∷ c ∷ s ∷ t ∷ o ∷ []) (search reading_z depth 40 fits 20000) refl

-- the content of a form that isn't 0
pub content_not_zero : (f : LinearForm) → IsNotZero f → content_of_form f ≢ pos 0
content_not_zero f some e = some (
  zero_multiple f.k_slope (primitive_form f).k_slope e (k_slope_times f),
  zero_multiple f.n_slope (primitive_form f).n_slope e (n_slope_times f),
  zero_multiple f.offset (primitive_form f).offset e (offset_times f),
)
  where
    zero_multiple : (z q : ℤ) → content_of_form f ≡ pos 0 → q *ℤ content_of_form f ≡ z → z ≡ pos 0
    zero_multiple z q nothing h = sym h ∙ ap (λ c. q *ℤ c) nothing ∙ times_zero q
