-- The steps of reading a form.
use Rattle.std.specs.Prelude.{◌≡◌, ℤ, Option, Some, None}
use Rattle.std.specs.Option.{MatchOption}
use Rattle.std.proofs.Common.{subst, sym, ap, ◌∙◌}
use Rattle.hypergeometric.specs.LinearForm.{LinearForm}
use Rattle.hypergeometric.specs.FormOrder.{IsForm}
use Rattle.hypergeometric.specs.Forms.{form_with}
use Rattle.lin_form.specs.Forms.{form_of}
use Rattle.lin_form.specs.declared.forms.LinForm.{LinForm}
use Rattle.form_lines.specs.Forms.{FormParts, without_x}

-- the form with the numbers of a form in n and k is found
pub narrowed_found : (f : LinearForm) (p : FormParts) (n k o : ℤ) (found : Option LinForm) → IsForm f → p ≡ without_x f
    → n ≡ p.n_slope → k ≡ p.k_slope → o ≡ p.offset
    → MatchOption found (¬ IsForm (form_with n k o)) (λ x. form_of x ≡ form_with n k o) → MatchOption found ⊥ (λ x. form_of x ≡ f)
narrowed_found f p n k o found has e en ek eo given = go found given
  where
    same : form_with n k o ≡ f
    same =
        let n_slope = en ∙ ap (λ q. q.n_slope) e in
        let k_slope = ek ∙ ap (λ q. q.k_slope) e in
        let offset = eo ∙ ap (λ q. q.offset) e in
        λ i. form_with (n_slope i) (k_slope i) (offset i)

    go : (r : Option LinForm) → MatchOption r (¬ IsForm (form_with n k o)) (λ x. form_of x ≡ form_with n k o) → MatchOption r ⊥ (λ x. form_of x ≡ f)
    go None never = absurd (never (subst IsForm (sym same) has))
    go (Some x) y = y ∙ same
