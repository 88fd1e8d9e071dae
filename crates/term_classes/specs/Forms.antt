-- The linear form that a polynomial is, and the limits on forms.
use Rattle.std.specs.Prelude.{if◌then◌else◌, ℤ, pos, unsigned_abs, List, [], ◌∷◌, Option, Some, None}
use Rattle.ring_laws.specs.Meaning.{Meaning, items}
use Rattle.ring_laws.specs.Wholes.{number_of}
use Rattle.poly_laws.specs.TwoVariables.{constant_in_n}
use Rattle.steps.specs.Steps.{within_limit, ◌then◌}
use Rattle.steps.specs.TermFaults.{TermSteps}
use Rattle.steps.specs.declared.limits.LimitName.TheVariants.{Slope, Offset, Exponent}
use Rattle.hypergeometric.specs.LinearForm.{LinearForm}
use Rattle.hypergeometric.specs.Forms.{form_with}

-- the form offset + n_slope * n + k_slope * k of the coefficients in n at the powers 0 and 1 of k, where the first has degree at most 1, and
-- the second is a number
abbrev pub form_of_coefficients : List Meaning → Option ℤ → Option LinearForm
form_of_coefficients c None = None
form_of_coefficients [] (Some k_slope) = Some (form_with (pos 0) k_slope (pos 0))
form_of_coefficients (c ∷ []) (Some k_slope) = Some (form_with (pos 0) k_slope (number_of c))
form_of_coefficients (c ∷ d ∷ []) (Some k_slope) = Some (form_with (number_of d) k_slope (number_of c))
form_of_coefficients (c ∷ d ∷ e ∷ more) (Some k_slope) = None

-- the linear form that a polynomial is, where its total degree is at most 1
abbrev pub form_of_items : List Meaning → Option LinearForm
form_of_items [] = Some (form_with (pos 0) (pos 0) (pos 0))
form_of_items (c ∷ []) = form_of_coefficients (items c) (Some (pos 0))
form_of_items (c ∷ d ∷ []) = form_of_coefficients (items c) (constant_in_n (items d))
form_of_items (c ∷ d ∷ e ∷ more) = None

-- the linear form that a polynomial is, where there is a polynomial and its total degree is at most 1
abbrev pub linear_form_of : Option Meaning → Option LinearForm
linear_form_of None = None
linear_form_of (Some p) = form_of_items (items p)

-- The limits of an argument or a denominator, in this order: slopes up to 8, an offset up to 1000000.
abbrev pub limited_form : LinearForm → TermSteps LinearForm
limited_form f = within_limit Slope (unsigned_abs f.n_slope) f then (λ f1.
    within_limit Slope (unsigned_abs f.k_slope) f then (λ f2. within_limit Offset (unsigned_abs f.offset) f))

-- The limits of an exponent: slopes up to 8, a constant part up to 12.
abbrev pub limited_exponent : LinearForm → TermSteps LinearForm
limited_exponent f = within_limit Slope (unsigned_abs f.n_slope) f then (λ f1.
    within_limit Slope (unsigned_abs f.k_slope) f then (λ f2. within_limit Exponent (unsigned_abs f.offset) f))
