use Rattle.std.proofs.Common.{◌≡◌, ◌++◌}
use Rattle.hypergeometric.specs.FactorLists.{factor_with}
use Rattle.lin_form.specs.Forms.{form_of}
use Rattle.gosper_form.specs.RaisedForms.{factors_of}
use Rattle.gosper_form.proofs.CountedShifts.{shifts_before}
use Rattle.gosper_form.proofs.shares.with_shifts.Given as goal

-- the shifts so far stand behind the forms that there were
abbrev pub invariant-loop-shift : goal.invariant-loop-shift
invariant-loop-shift l = factors_of l.forms.items ≡ factors_of l.fn.forms.items ++ shifts_before l.skipped l.shift (factor_with (form_of l.form) l.power)
