-- The linear form that a form of the code stands for.
use Rattle.hypergeometric.specs.LinearForm.{LinearForm}
use Rattle.hypergeometric.specs.Forms.{form_with}
use Rattle.lin_form.specs.declared.forms.LinForm.{LinForm}

-- the linear form in n and k that a form of the code stands for
abbrev pub form_of : LinForm → LinearForm
form_of form = form_with form.n_slope form.k_slope form.offset
