use Rattle.std.proofs.Common.{suc, List, ℕ, ◌∷◌, sym, ◌∙◌, subst}
use Rattle.hypergeometric.specs.ProperTerm.{ProperTerm}
use Rattle.proper_term.specs.TermOf.{term_of}
use Rattle.steps.specs.Answers.{HasCause, Answers}
use Rattle.steps.specs.StepFaults.{step_cause}
use Rattle.steps.proofs.AnswerLaws.{fault_answer}
use Rattle.term_pieces.specs.Pieces.{q_forms, r_forms}
use Rattle.gosper_form.specs.PieceSteps.{degree_in_k, top_degree, degrees, each_from, each_within}
use Rattle.gosper_form.proofs.DegreeSteps.{passed, first_fault}
use Rattle.gosper_form.proofs.degrees.test_degrees.Goals as goal

abbrev later_degrees : ProperTerm → ℕ → List ℕ
later_degrees f order = each_from (top_degree f order) 0 (suc order)

-- q0
pub returns-in_err-test_counted : goal.returns-in_err-test_counted
returns-in_err-test_counted c = record {
  answers = fault_answer step_cause (λ _. tt {0}) (each_within (degrees (term_of c.args.term.now) c.args.order)) c.from_residual.result
      c.in_err-test_counted.field-0.0 c.from_residual.ensures.1
      (first_fault (degree_in_k (q_forms (term_of c.args.term.now) c.args.order))
      (degree_in_k (r_forms (term_of c.args.term.now) c.args.order) ∷ later_degrees (term_of c.args.term.now) c.args.order)
      c.in_err-test_counted.field-0.0 (c.in_err-test_counted.ensures.answers _ c.degree_of_q.ensures.makes));
}

-- r0
pub returns-in_err-test_counted-2 : goal.returns-in_err-test_counted-2
returns-in_err-test_counted-2 c = record {
  answers = fault_answer step_cause (λ _. tt {0}) (each_within (degrees (term_of c.args.term.now) c.args.order))
      c.from_residual-in_err-test_counted-2.result c.in_err-test_counted-2.field-0.0 c.from_residual-in_err-test_counted-2.ensures.1
      (subst (λ s. HasCause s (step_cause c.in_err-test_counted-2.field-0.0))
      (sym (passed (degree_in_k (q_forms (term_of c.args.term.now) c.args.order))
      (degree_in_k (r_forms (term_of c.args.term.now) c.args.order) ∷ later_degrees (term_of c.args.term.now) c.args.order)
      (c.in_ok-test_counted.ensures.answers _ c.degree_of_q.ensures.makes)))
      (first_fault (degree_in_k (r_forms (term_of c.args.term.now) c.args.order)) (later_degrees (term_of c.args.term.now) c.args.order)
      c.in_err-test_counted-2.field-0.0 (c.in_err-test_counted-2.ensures.answers _ c.degree_of_r.ensures.makes)));
}

-- p_0, .., p_J
pub returns : goal.returns
returns c = record {
  answers = subst (λ s. Answers step_cause (λ _. tt {0}) s c.test_tops.result)
      (sym (passed (degree_in_k (q_forms (term_of c.args.term.now) c.args.order))
      (degree_in_k (r_forms (term_of c.args.term.now) c.args.order) ∷ later_degrees (term_of c.args.term.now) c.args.order)
      (c.in_ok-test_counted.ensures.answers _ c.degree_of_q.ensures.makes)
      ∙ passed (degree_in_k (r_forms (term_of c.args.term.now) c.args.order)) (later_degrees (term_of c.args.term.now) c.args.order)
      (c.in_ok-test_counted-2.ensures.answers _ c.degree_of_r.ensures.makes))) c.test_tops.ensures.answers;
}
