-- What the code finds as factor and primitive form of a form that isn't 0.
use Rattle.std.proofs.Common.{◌≡◌, ◌≢◌, ap, sym, arith, w64, FitsSigned}
use Rattle.std.proofs.lemmas.Int.{fits_signed_from_abs}
use Rattle.std.specs.Prelude.{ℤ, pos, unsigned_abs}
use Rattle.ring_laws.specs.WholeDomain.{abs_nought}
use Rattle.hypergeometric.specs.LinearForm.{LinearForm}
use Rattle.hypergeometric.specs.FormOrder.{IsForm, IsPrimitive}
use Rattle.hypergeometric.specs.Forms.{form_with, multiple}
use Rattle.hypergeometric.specs.PrimitiveForm.{content_of_form, primitive_form}
use Rattle.hypergeometric.proofs.PrimitiveForms.{IsNotZero, divisor_bound, some_number}
use Rattle.hypergeometric.proofs.Contents.{divisor_of_form, content_size, content_divides}
use Rattle.hypergeometric.proofs.OnlyLowest.{content_multiple}
use Rattle.hypergeometric.proofs.PrimitiveParts.{primitive_is}

-- factor and primitive form are those of the definition
pub record IsContent (l : LinearForm) (factor : ℤ) (f : LinearForm) : Type 0 where
  pub content : factor ≡ content_of_form l
  pub primitive : f ≡ primitive_form l

pub content_found : (l : LinearForm) (factor : ℤ) (f : LinearForm) → l ≢ form_with (pos 0) (pos 0) (pos 0)
    → ((c : ℤ) → (g : LinearForm) → l ≡ multiple c g → IsPrimitive g → (factor ≡ c) × (f ≡ g)) → IsContent l factor f
content_found l factor f some only =
    let same = only (content_of_form l) (primitive_form l) (sym (content_multiple l))
    (primitive_is l (some_number l some)) in
    record { content = same.0; primitive = same.1 }

-- the factor is no greater than the numbers of the form
pub content_fits : (l : LinearForm) (factor : ℤ) → IsForm l → IsNotZero l → factor ≡ content_of_form l → FitsSigned w64 factor
content_fits l factor form some e =
    let divides = content_divides l in
    let bound = divisor_bound (divisor_of_form l) (unsigned_abs l.k_slope) (unsigned_abs l.n_slope) (unsigned_abs l.offset)
    divides.k_slope divides.n_slope divides.offset
    (λ z. some (abs_nought l.k_slope z.0, abs_nought l.n_slope z.1, abs_nought l.offset z.2))
    (omega (arith, form.k_slope)) (omega (arith, form.n_slope)) form.offset in
    fits_signed_from_abs w64 factor (omega (arith, ap unsigned_abs e, content_size l, bound))
