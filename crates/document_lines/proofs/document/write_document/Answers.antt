use Rattle.std.specs.List.{AllByRecursion}
use Rattle.std.proofs.Common.{List, map, sym, subst}
use Rattle.documents.specs.Views.{claim_said, command_said}
use Rattle.documents.specs.declared.claims.Claim.{Claim}
use Rattle.document_lines.specs.ClaimTexts.{HasLines}
use Rattle.document_lines.proofs.ClaimWrites.{claims_have}
use Rattle.document_lines.proofs.document.write_document.Goals as goal

-- the claims of a command can be written
pub write_claims-requires : goal.write_claims-requires
write_claims-requires c =
    let d = c.args.document.now in
    subst (λ (xs : List Claim). AllByRecursion (HasLines c.args.version) (map claim_said xs)) (sym c.deref.ensures.value)
    (claims_have c.args.version (command_said d.command) (map claim_said d.claims.items) c.requires.claims)
