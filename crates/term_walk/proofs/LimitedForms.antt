-- A form that is within its limits is given as it is.
use Rattle.std.proofs.Common.{◌≡◌, ◌≤◌, ◌^◌, ap, ◌∙◌, arith}
use Rattle.std.specs.Prelude.{ℤ, unsigned_abs, Ok}
use Rattle.std.proofs.lemmas.Int.{ints}
use Rattle.steps.specs.declared.limits.LimitName.{LimitName}
use Rattle.steps.specs.declared.limits.LimitName.TheVariants.{Slope}
use Rattle.steps.specs.Limits.{greatest_count}
use Rattle.steps.specs.TermFaults.{Improper}
use Rattle.steps.specs.Steps.{limited, within_limit, ◌then◌}
use Rattle.steps.proofs.StepLaws.{then_gave, limit_gave, limit_kept, then_outcome}
use Rattle.hypergeometric.specs.LinearForm.{LinearForm}
use Rattle.hypergeometric.specs.FormOrder.{IsForm}
use Rattle.hypergeometric.specs.Forms.{form_with}
use Rattle.term_walk.specs.FormLimits.{form_within}

-- the same form, and its numbers are small
pub record IsFormWithin (name : LimitName) (f g : LinearForm) : Type 0 where
  pub same : f ≡ g
  pub n_slope : unsigned_abs f.n_slope ≤ greatest_count Slope
  pub k_slope : unsigned_abs f.k_slope ≤ greatest_count Slope
  pub offset : unsigned_abs f.offset ≤ greatest_count name

pub form_given : (name : LimitName) (f g : LinearForm) → (form_within name f).outcome ≡ Ok g → IsFormWithin name f g
form_given name f g e =
    let a = then_gave (within_limit Slope (unsigned_abs f.n_slope) f)
    (λ f1. within_limit Slope (unsigned_abs f.k_slope) f then (λ f2. within_limit name (unsigned_abs f.offset) f)) g e in
    let b = then_gave (within_limit Slope (unsigned_abs f.k_slope) f) (λ f2. within_limit name (unsigned_abs f.offset) f) g a.second in
    let c = limit_gave name (unsigned_abs f.offset) f g b.second in
    record {
      same = c.same;
      n_slope = (limit_gave Slope (unsigned_abs f.n_slope) f a.value a.first).few;
      k_slope = (limit_gave Slope (unsigned_abs f.k_slope) f b.value b.first).few;
      offset = c.few;
    }

-- three numbers within their limits make a form within bounds, and it is what the steps give
module _ (name : LimitName) (f : LinearForm) (n k o : ℤ)
    (n_given : limited {R = Improper} Slope (unsigned_abs f.n_slope) f.n_slope ≡ Ok n)
    (k_given : limited {R = Improper} Slope (unsigned_abs f.k_slope) f.k_slope ≡ Ok k)
    (o_given : limited {R = Improper} name (unsigned_abs f.offset) f.offset ≡ Ok o) where
  pub same_numbers : f ≡ form_with n k o
  same_numbers = λ i. form_with ((limit_gave Slope (unsigned_abs f.n_slope) f.n_slope n n_given).same i)
      ((limit_gave Slope (unsigned_abs f.k_slope) f.k_slope k k_given).same i) ((limit_gave name (unsigned_abs f.offset) f.offset o o_given).same i)

  pub form_kept : greatest_count name ≤ 2 ^ 40 → IsForm (form_with n k o)
  form_kept small =
      let a = limit_gave Slope (unsigned_abs f.n_slope) f.n_slope n n_given in
      let b = limit_gave Slope (unsigned_abs f.k_slope) f.k_slope k k_given in
      let c = limit_gave name (unsigned_abs f.offset) f.offset o o_given in
      let a1 : unsigned_abs f.n_slope ≤ 8 = a.few in
      let b1 : unsigned_abs f.k_slope ≤ 8 = b.few in
      record {
        n_slope = omega (arith, ap unsigned_abs a.same, a1);
        k_slope = omega (arith, ap unsigned_abs b.same, b1);
        offset = omega (arith, ap unsigned_abs c.same, c.few, small);
      }

  pub form_outcome : (form_within name f).outcome ≡ Ok (form_with n k o)
  form_outcome =
      then_outcome (within_limit Slope (unsigned_abs f.n_slope) f)
      (λ f1. within_limit Slope (unsigned_abs f.k_slope) f then (λ f2. within_limit name (unsigned_abs f.offset) f)) f
      (limit_kept Slope (unsigned_abs f.n_slope) f (limit_gave Slope (unsigned_abs f.n_slope) f.n_slope n n_given).few)
      ∙ then_outcome (within_limit Slope (unsigned_abs f.k_slope) f) (λ f2. within_limit name (unsigned_abs f.offset) f) f
      (limit_kept Slope (unsigned_abs f.k_slope) f (limit_gave Slope (unsigned_abs f.k_slope) f.k_slope k k_given).few)
      ∙ limit_kept name (unsigned_abs f.offset) f (limit_gave name (unsigned_abs f.offset) f.offset o o_given).few
      ∙ ap Ok same_numbers
