use Rattle.std.proofs.Common.{Err, ap, sym, subst}
use Rattle.ekhad_cli.specs.declared.words.Command.TheVariants.{Check}
use Rattle.ekhad_cli.specs.Refusals.{IsInside}
use Rattle.ekhad_cli.specs.Commands.{IsCause}
use Rattle.ekhad_cli.proofs.Converters.{document_cause, document_inside, known_claim, claim_cause, claim_inside}
use Rattle.ekhad_cli.proofs.checking.check.Goals as goal

-- the text is no document
pub returns-in-Err-clause-cause : goal.returns-in-Err-clause-cause
returns-in-Err-clause-cause c = λ few. subst (IsCause Check c.args.text.now) (sym c.refusal_of.ensures.exact)
    (document_cause c.args.text.now c.in-Err.fault few (λ at e. c.in-Err.ensures.line at (ap Err e)))

pub returns-in-Err-clause-inside : goal.returns-in-Err-clause-inside
returns-in-Err-clause-inside c = subst IsInside (sym c.refusal_of.ensures.exact) (document_inside c.in-Err.fault)

-- or its claim isn't checked
pub refusal_of_claim-requires : goal.refusal_of_claim-requires
refusal_of_claim-requires c = record {
  known = known_claim c.in-Err-check_poly.fault (λ place e. (c.in-Err-check_poly.ensures.too_large place (ap Err e)).0)
      (λ name counted e. c.in-Err-check_poly.ensures.no_limit name counted (ap Err e));
}

pub returns-in-Err-check_poly-clause-cause : goal.returns-in-Err-check_poly-clause-cause
returns-in-Err-check_poly-clause-cause c = λ few. claim_cause c.args.text.now _ c.in-Err-check_poly.fault c.refusal_of_claim.result few
    c.in-Ok.ensures.document (λ place e. c.in-Err-check_poly.ensures.too_large place (ap Err e)) c.refusal_of_claim.ensures.exact

pub returns-in-Err-check_poly-clause-inside : goal.returns-in-Err-check_poly-clause-inside
returns-in-Err-check_poly-clause-inside c = claim_inside c.in-Err-check_poly.fault c.refusal_of_claim.result c.refusal_of_claim.ensures.exact
