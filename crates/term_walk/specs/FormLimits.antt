-- The limits of a form: those of its slopes, and one of its offset.
use Rattle.std.specs.Prelude.{unsigned_abs}
use Rattle.hypergeometric.specs.LinearForm.{LinearForm}
use Rattle.steps.specs.Steps.{within_limit, ◌then◌}
use Rattle.steps.specs.TermFaults.{TermSteps}
use Rattle.steps.specs.declared.limits.LimitName.{LimitName}
use Rattle.steps.specs.declared.limits.LimitName.TheVariants.{Slope}

-- the form, refused where its slope in n, its slope in k or, by the limit of this name, its offset is too large, in this order
abbrev pub form_within : LimitName → LinearForm → TermSteps LinearForm
form_within name f = within_limit Slope (unsigned_abs f.n_slope) f then (λ f1.
    within_limit Slope (unsigned_abs f.k_slope) f then (λ f2. within_limit name (unsigned_abs f.offset) f))
