use Rattle.std.proofs.Common.{sym, subst}
use Rattle.lin_form.specs.ListOf.{list_of}
use Rattle.term_pieces.specs.NormalForm.{IsNormalFormOf}
use Rattle.gosper_form.specs.PiecesOf.{pieces_held}
use Rattle.gosper_form.proofs.normal.normal_form.Goals as goal

-- the lists are those of the pieces
pub returns-clause-steps : goal.returns-clause-steps
returns-clause-steps c = λ normal is. c.normal_form_of.ensures.steps normal
    (subst (λ q. IsNormalFormOf normal q (list_of c.r0.result.now)) (sym c.q0.ensures.q0)
    (subst (λ r. IsNormalFormOf normal (pieces_held c.args.pieces.now).q0 r) (sym c.r0.ensures.r0) is))
