use Rattle.std.proofs.Common.{sym, subst, true≢false}
use Rattle.documents.specs.WellFormed.{IsCarrierIn}
use Rattle.term_lines.specs.TermLaws.{carrier_is_proper}
use Rattle.term_lines.proofs.terms.CarriersSpelling.read.Goals as goal

-- the carrier
pub returns-then-is_carrier-clause-read : goal.returns-then-is_carrier-clause-read
returns-then-is_carrier-clause-read c = λ t h e.
    rw c.in-Some.is at (c.in_ok-term.ensures.read t (carrier_is_proper c.args.self.now.version t h) e)

-- none that is no carrier
pub returns-clause-read : goal.returns-clause-read
returns-clause-read c = λ t h e.
    let told = rw c.in-Some.is at (c.in_ok-term.ensures.read t (carrier_is_proper c.args.self.now.version t h) e) in
    true≢false (sym (c.if-is_carrier.ensures.test.1 (subst (IsCarrierIn c.args.self.now.version) (sym told) h)))
