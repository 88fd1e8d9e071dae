use Rattle.std.proofs.Common.{sym, subst}
use Rattle.proper_term.specs.TermOf.{term_of}
use Rattle.ekhad_cli.specs.Commands.{IsCause}
use Rattle.ekhad_cli.specs.declared.words.Command.TheVariants.{Gosper}
use Rattle.ekhad_cli.proofs.OrderAnswers.{unbuilt_cause, order_cause}
use Rattle.ekhad_cli.proofs.answering.refusal_of_further.Goals as goal

-- no limit is passed
pub returns-in-Ok-clause-cause : goal.returns-in-Ok-clause-cause
returns-in-Ok-clause-cause c = λ text tree few read class further.
    unbuilt_cause text tree (term_of c.args.term.now) few read class further c.in-Ok.ensures.steps

-- a limit is passed, or an operation is out of bounds
pub returns-in-Err-clause-cause : goal.returns-in-Err-clause-cause
returns-in-Err-clause-cause c = λ text tree few read class further.
    subst (IsCause Gosper text) (sym c.refusal_of_order.ensures.exact)
    (order_cause text tree (term_of c.args.term.now) few read class further c.in-Err.fault c.in-Err.ensures.steps)
