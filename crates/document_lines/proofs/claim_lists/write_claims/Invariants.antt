use Rattle.std.proofs.Common.{◌≡◌, ◌++◌, map, drop}
use Rattle.std.specs.Prelude.{string_bytes}
use Rattle.documents.specs.Views.{claim_said}
use Rattle.document_lines.specs.ClaimTexts.{claims_text}
use Rattle.document_lines.proofs.claim_lists.write_claims.Given as goal

-- the text so far with the claims to come is the whole
abbrev pub invariant-loop-claim : goal.invariant-loop-claim
invariant-loop-claim l =
    string_bytes l.text ++ claims_text l.version (map claim_said (drop l.claim-index l.claims))
    ≡ string_bytes l.fn.text ++ claims_text l.version (map claim_said l.claims)
