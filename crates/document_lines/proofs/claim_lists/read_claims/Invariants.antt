use Rattle.std.proofs.Common.{◌≤◌, ◌-◌, ℕ, List, ◌++◌, map}
use Rattle.exact_texts.specs.Lines.{StopsAt, Takes}
use Rattle.documents.specs.Documents.{Claim}
use Rattle.documents.specs.Views.{claim_said}
use Rattle.document_lines.specs.ClaimTexts.{claims_from}
use Rattle.document_lines.proofs.claim_lists.read_claims.Given as goal

-- What is read of the claims from this order on is read of all.
abbrev pub invariant-loop-claims : goal.invariant-loop-claims
invariant-loop-claims l =
    let whole = claims_from l.version l.first (l.last - l.first) in
    let ahead = claims_from l.version l.order (l.last - l.order) in
    record {
      begun : l.first ≤ l.order;
      within : l.order ≤ l.last;
      stops : (new : List ℕ) → StopsAt ahead l.lines.rest.now new → StopsAt whole l.fn.lines.rest.now new;
      takes : (cs : List Claim) (new : List ℕ) → Takes ahead l.lines.rest.now cs new
          → Takes whole l.fn.lines.rest.now (map claim_said l.claims.items ++ cs) new;
    }

abbrev pub decreases-loop-claims : goal.decreases-loop-claims
decreases-loop-claims l = l.last - l.order
