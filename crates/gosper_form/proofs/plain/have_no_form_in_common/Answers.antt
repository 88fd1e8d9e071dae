use Rattle.std.proofs.Common.{sym, arith, subst, true≢false}
use Rattle.hypergeometric.proofs.SharedForms.{IsAbsent, absent_power}
use Rattle.lin_form.specs.ListOf.{list_of}
use Rattle.lin_form.specs.Forms.{form_of}
use Rattle.proper_term.proofs.ListItems.{all_from}
use Rattle.std.specs.List.{AllByRecursion}
use Rattle.gosper_form.proofs.AbsentForms.{absent_found}
use Rattle.gosper_form.proofs.plain.have_no_form_in_common.Goals as goal

-- one more form stands not in the other list
pub loop-form-preserved : goal.loop-form-preserved
loop-form-preserved c =
    all_from (λ x. IsAbsent x.form (list_of c.args.other.now).factors) (list_of c.args.list.now).factors _ _ _
    c.in-Some.ensures.steps c.loop-form.invariant
    (absent_found (form_of c.in-Some.form) (list_of c.args.other.now).factors c.args.other.now.factors.each
    (omega (arith, c.power.ensures.power, c.if-power-ne0.false)))

-- a form that stands in both
pub returns-then-power-ne0 : goal.returns-then-power-ne0
returns-then-power-ne0 c = record {
  test = (
    λ e. absurd (true≢false (sym e)),
    λ all. absurd (omega (
      arith,
      c.power.ensures.power,
      c.if-power-ne0.true,
      absent_power (form_of c.in-Some.form) (list_of c.args.other.now).factors
          (subst (AllByRecursion (λ x. IsAbsent x.form (list_of c.args.other.now).factors)) c.in-Some.ensures.steps (c.loop-form.invariant.1 all)).0,
    )),
  );
}
