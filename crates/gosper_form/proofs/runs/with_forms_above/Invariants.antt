use Rattle.std.proofs.Common.{◌≡◌, ◌++◌}
use Rattle.lin_form.specs.Forms.{form_of}
use Rattle.term_pieces.specs.Products.{forms_above}
use Rattle.gosper_form.specs.RaisedForms.{factors_of}
use Rattle.gosper_form.proofs.runs.with_forms_above.Given as goal

-- so many forms stand behind those that there were
abbrev pub invariant-loop-step : goal.invariant-loop-step
invariant-loop-step l = factors_of l.forms.items ≡ factors_of l.fn.forms.items ++ forms_above (form_of l.form) l.step l.power
