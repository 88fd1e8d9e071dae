use Rattle.document_lines.proofs.ClaimWrites.{has_at, written_more}
use Rattle.document_lines.proofs.claim_lists.write_claims.Goals as goal

-- each claim has lines
pub write_claim-requires : goal.write_claim-requires
write_claim-requires c = has_at c.args.version c.args.claims.now c.loop-claim.claim-index c.claim-item.result c.requires
    c.loop-claim-test.true c.claim-item.is

-- one claim more is written
pub loop-claim-preserved : goal.loop-claim-preserved
loop-claim-preserved c = written_more c.args.version _ _ _ c.args.claims.now c.loop-claim.claim-index c.claim-item.result c.in_ok-write_claim.ensures
    c.loop-claim-test.true c.claim-item.is c.loop-claim.invariant
