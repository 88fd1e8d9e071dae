use Rattle.std.proofs.Common.{ap, w64}
use Rattle.std.proofs.lemmas.Int.{to_z-of_z}
use Rattle.std.proofs.lemmas.Result.{err_from_is_err_and}
use Rattle.term_text.specs.View.{tree_of}
use Rattle.term_text.proofs.Views.{tree_of-at}
use Rattle.term_classes.specs.Finding.{find_polynomial}
use Rattle.term_classes.specs.Walk.{times_found, place_of}
use Rattle.steps.proofs.AnswerLaws.{first_cause}
use Rattle.steps.proofs.Leading.{leads_answer}
use Rattle.steps.specs.TermFaults.{term_cause}
use Rattle.term_walk.specs.Views.{gathered_of}
use Rattle.term_walk.proofs.RowLeads.{finding_leads}
use Rattle.term_walk.proofs.walk.times_polynomial_of.Goals as goal

-- no polynomial is sought
pub returns-in_err-polynomial : goal.returns-in_err-polynomial
returns-in_err-polynomial c =
    let p = err_from_is_err_and c.from_residual.result c.from_residual.ensures.1 in
    rw (p.1, p.2) (record {
      answers = first_cause (find_polynomial (tree_of c.args.tree.now))
          (times_found (place_of (tree_of c.args.tree.now)) c.args.power (gathered_of c.args.gathered)) (term_cause c.in_err-polynomial.field-0.0)
          c.in_err-polynomial.ensures.answers;
    })

-- what was sought
pub returns : goal.returns
returns c =
    let known = rw (to_z-of_z w64 c.args.power c.ranges.power) at c.times_found.ensures.answers in
    record {
      answers = leads_answer term_cause gathered_of c.times_found.result
          (finding_leads (tree_of c.args.tree.now) c.args.tree.now.at c.args.power (gathered_of c.args.gathered) _
          (ap place_of (tree_of-at c.args.tree.now)) c.in_ok-polynomial.ensures.answers) known;
    }
