use Rattle.std.proofs.Common.{w64}
use Rattle.std.proofs.lemmas.Int.{to_z-of_z}
use Rattle.std.proofs.lemmas.Result.{err_from_is_err_and}
use Rattle.std.specs.Prelude.{Option, ℤ}
use Rattle.steps.specs.Found.{found}
use Rattle.steps.specs.TermFaults.{term_cause}
use Rattle.steps.proofs.Leading.{leads_answer}
use Rattle.hypergeometric.specs.LinearForm.{LinearForm}
use Rattle.hypergeometric.specs.ProperTerm.{ProperTerm}
use Rattle.lin_form.specs.Forms.{form_of}
use Rattle.grammar.specs.Tree.{Tree}
use Rattle.term_classes.proofs.WalkValues.{base_found}
use Rattle.term_text.specs.View.{tree_of}
use Rattle.tree_polynomials.specs.Views.{fraction_value}
use Rattle.term_walk.specs.Views.{gathered_of, wide_form_of}
use Rattle.term_walk.proofs.RowLeads as row
use Rattle.term_walk.proofs.exponents.times_exponential_of.Goals as goal

-- no constant is sought
pub returns-in_err-constant : goal.returns-in_err-constant
returns-in_err-constant c =
    let p = err_from_is_err_and c.from_residual.result c.from_residual.ensures.1 in
    let base : Tree = tree_of c.args.base.now in
    let e : Tree = tree_of c.args.exponent.now in
    let f : ProperTerm = gathered_of c.args.gathered in
    let w : ℤ = c.args.power in
    let form : Option LinearForm = found wide_form_of c.args.form in
    rw (p.1, p.2) (record {
      answers = row.constant_refused c.args.at base e form w f c.in_err-constant.field-0.0 c.in_err-constant.ensures.answers;
    })

-- a base that is no constant, or 0
pub returns-in_err-nonzero : goal.returns-in_err-nonzero
returns-in_err-nonzero c =
    let p = err_from_is_err_and c.from_residual-in_err-nonzero.result c.from_residual-in_err-nonzero.ensures.1 in
    let base : Tree = tree_of c.args.base.now in
    let e : Tree = tree_of c.args.exponent.now in
    let f : ProperTerm = gathered_of c.args.gathered in
    let w : ℤ = c.args.power in
    let form : Option LinearForm = found wide_form_of c.args.form in
    rw (p.1, p.2) (record {
      answers = row.base_refused c.args.at base e form w f _ c.in_err-nonzero.field-0.0 c.in_ok-constant.ensures.answers
          c.in_err-nonzero.ensures.answers;
    })

-- an exponent that is no linear form
pub returns-in_err-linear : goal.returns-in_err-linear
returns-in_err-linear c =
    let p = err_from_is_err_and c.from_residual-in_err-linear.result c.from_residual-in_err-linear.ensures.1 in
    let base : Tree = tree_of c.args.base.now in
    let e : Tree = tree_of c.args.exponent.now in
    let f : ProperTerm = gathered_of c.args.gathered in
    let w : ℤ = c.args.power in
    let form : Option LinearForm = found wide_form_of c.args.form in
    let based : row.HasBase c.args.at base _ _ = record {
      found = c.in_ok-constant.ensures.answers;
      nonzero = c.in_ok-nonzero.ensures.answers;
    } in
    rw (p.1, p.2) (record {
      answers = row.form_refused c.args.at base e form w f _ _ c.in_err-linear.field-0.0 based c.in_err-linear.ensures.answers;
    })

-- a limit that is passed
pub returns-in_err-limited : goal.returns-in_err-limited
returns-in_err-limited c =
    let p = err_from_is_err_and c.from_residual-in_err-limited.result c.from_residual-in_err-limited.ensures.1 in
    let base : Tree = tree_of c.args.base.now in
    let e : Tree = tree_of c.args.exponent.now in
    let f : ProperTerm = gathered_of c.args.gathered in
    let w : ℤ = c.args.power in
    let form : Option LinearForm = found wide_form_of c.args.form in
    let based : row.HasBase c.args.at base _ _ = record {
      found = c.in_ok-constant.ensures.answers;
      nonzero = c.in_ok-nonzero.ensures.answers;
    } in
    rw (p.1, p.2) (record {
      answers = row.exponent_refused c.args.at base e form w f _ _ (wide_form_of c.in_ok-linear.linear) c.in_err-limited.field-0.0
          based c.in_ok-linear.ensures.answers c.in_err-limited.ensures.answers;
    })

-- the power
pub returns : goal.returns
returns c =
    let base : Tree = tree_of c.args.base.now in
    let e : Tree = tree_of c.args.exponent.now in
    let f : ProperTerm = gathered_of c.args.gathered in
    let w : ℤ = c.args.power in
    let form : Option LinearForm = found wide_form_of c.args.form in
    let based : row.HasBase c.args.at base _ _ = record {
      found = c.in_ok-constant.ensures.answers;
      nonzero = c.in_ok-nonzero.ensures.answers;
    } in
    let known = rw (to_z-of_z w64 c.args.power c.ranges.power) at c.times_exponential.ensures.answers in
    record {
      answers = leads_answer term_cause gathered_of c.times_exponential.result (row.exponential_leads c.args.at base e form w f _ _
          (wide_form_of c.in_ok-linear.linear) (form_of c.in_ok-limited.limited) based c.in_ok-linear.ensures.answers
          c.in_ok-limited.ensures.answers) known;
    }

pub times_exponential-requires-clause-base_not_zero : goal.times_exponential-requires-clause-base_not_zero
times_exponential-requires-clause-base_not_zero c =
    (base_found c.args.at (found fraction_value c.in_ok-constant.constant) _ c.in_ok-nonzero.ensures.answers).top

pub times_exponential-requires-clause-small_exponent : goal.times_exponential-requires-clause-small_exponent
times_exponential-requires-clause-small_exponent c =
    row.exponent_small (wide_form_of c.in_ok-linear.linear) (form_of c.in_ok-limited.limited) c.in_ok-limited.ensures.answers
