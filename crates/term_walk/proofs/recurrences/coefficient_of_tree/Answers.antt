use Rattle.std.proofs.Common.{Some, None, ap, sym, ◌∙◌, subst}
use Rattle.std.specs.Prelude.{Ok, Err}
use Rattle.term_text.specs.View.{tree_of}
use Rattle.term_text.proofs.Views.{tree_of-at}
use Rattle.term_classes.specs.Recurrence.{polynomial_or_refused, find_coefficient}
use Rattle.steps.proofs.AnswerLaws.{first_cause, later_outcome, fault_answer}
use Rattle.steps.specs.Answers.{HasCause}
use Rattle.steps.specs.Found.{found}
use Rattle.steps.specs.TermFaults.{improper, term_cause}
use Rattle.term_classes.specs.Finding.{find_polynomial}
use Rattle.term_classes.specs.Walk.{place_of}
use Rattle.tree_polynomials.proofs.PolynomialMeanings.{meaning_of}
use Rattle.term_walk.proofs.PlacesOfK.{same_place}
use Rattle.term_walk.proofs.RecurrenceLaws.{k_refused, without_k, polynomial_in_n}
use Rattle.term_walk.proofs.recurrences.coefficient_of_tree.Goals as goal

pub returns-in-Some : goal.returns-in-Some
returns-in-Some c = record {
  answers = k_refused (tree_of c.args.tree.now) c.in-Some.at (same_place (Some c.in-Some.at) (tree_of c.args.tree.now) c.in-Some.ensures.least);
}

pub returns-in_err-polynomial : goal.returns-in_err-polynomial
returns-in_err-polynomial c =
    let t = tree_of c.args.tree.now in
    let fault = c.in_err-polynomial.field-0.0 in record {
      answers = fault_answer term_cause polynomial_in_n (find_coefficient t) c.from_residual.result fault c.from_residual.ensures.1
          (subst (λ s. HasCause s (term_cause fault)) (sym (without_k t (same_place None t c.in_default.ensures.least)))
          (first_cause (find_polynomial t) (polynomial_or_refused t) (term_cause fault) c.in_err-polynomial.ensures.answers));
    }

-- no polynomial
pub returns-in_default-2 : goal.returns-in_default-2
returns-in_default-2 c =
    let t = tree_of c.args.tree.now in record {
      answers = ap (λ s. s.outcome) (without_k t (same_place None t c.in_default.ensures.least))
          ∙ later_outcome (find_polynomial t) (polynomial_or_refused t) None (Err (improper 6 c.args.tree.now.at))
          (c.in_ok-polynomial.ensures.answers ∙ ap (λ p. Ok (found meaning_of p)) c.in_default-2.is)
          (ap (λ tree. Err (improper 6 (place_of tree))) (tree_of-at c.args.tree.now));
    }

pub returns-in-Ok : goal.returns-in-Ok
returns-in-Ok c =
    let t = tree_of c.args.tree.now in record {
      answers = ap (λ s. s.outcome) (without_k t (same_place None t c.in_default.ensures.least))
          ∙ later_outcome (find_polynomial t) (polynomial_or_refused t) (Some (meaning_of c.in-Some-2.polynomial))
          (Ok (polynomial_in_n c.in-Ok.coefficient))
          (c.in_ok-polynomial.ensures.answers ∙ ap (λ p. Ok (found meaning_of p)) c.in-Some-2.is)
          (ap Ok (sym c.in-Ok.ensures.gives));
    }
