use Rattle.std.proofs.Common.{◌≡◌, ◌+◌, ◌++◌, ap, ◌∙◌, arith}
use Rattle.hypergeometric.specs.FactorLists.{factor_with}
use Rattle.lin_form.specs.Forms.{form_of}
use Rattle.gosper_form.specs.RaisedForms.{factor_of, factors_of}
use Rattle.gosper_form.proofs.CountedShifts.{shifts_before, shift_more, shift_passed}
use Rattle.gosper_form.proofs.shares.with_shifts.Goals as goal
use Rattle.gosper_form.proofs.shares.with_shifts.Goals.{then-shift-skipped+in_ok-push, else-shift-skipped}

-- one shift more, or the one that is left out
pub loop-shift-preserved : goal.loop-shift-preserved
loop-shift-preserved c = elim c.if-shift-skipped.branch
    as (λ _. factors_of c.if-shift-skipped.forms.items ≡ factors_of c.args.forms.items
    ++ shifts_before c.args.skipped (c.loop-shift.shift + 1) (factor_with (form_of c.args.form) c.args.power)) [
      | then-shift-skipped+in_ok-push w ↦ shift_more factor_of c.loop-shift.forms.items c.if-shift-skipped.forms.items (factors_of c.args.forms.items) _
          c.args.skipped c.loop-shift.shift (factor_with (form_of c.args.form) c.args.power) c.loop-shift.invariant
          (ap (λ v. v.items) w.forms-is ∙ w.in_ok-push.ensures.items) (ap (λ f. factor_with f c.args.power) w.later_in_n-form.ensures.later)
          (λ e. omega (arith, e, w.if-shift-skipped.true))
      | else-shift-skipped w ↦ ap (λ v. factors_of v.items) w.forms-is
          ∙ shift_passed (factors_of c.loop-shift.forms.items) (factors_of c.args.forms.items) c.args.skipped c.loop-shift.shift
          (factor_with (form_of c.args.form) c.args.power) c.loop-shift.invariant (omega (arith, w.if-shift-skipped.false))
    ]
