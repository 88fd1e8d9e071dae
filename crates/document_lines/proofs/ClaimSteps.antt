-- Where reading a claim stops, and what it takes.
use Rattle.std.specs.Prelude.{ℕ, ◌≤◌, List}
use Rattle.exact_texts.specs.Lines.{Takes}
use Rattle.exact_texts.proofs.Alike.{alike_stops, alike_takes}
use Rattle.exact_texts.proofs.Formats.{takes_in_turn}
use Rattle.exact_texts.proofs.Sequences.{Leaves, leaves_first, leaves_behind}
use Rattle.documents.specs.Documents.{Found, Empty, found, empty}
use Rattle.documents.specs.declared.documents.Version.{Version}
use Rattle.document_lines.specs.ClaimTexts.{found_lines, empty_lines, claim_at}
use Rattle.document_lines.specs.ClaimLaws.{Solution, Ratio, found_sequence, found_made, found_alike, found_body, empty_body}
use Rattle.document_lines.specs.ClaimLaws.{body_at, body_texts, heading_line, heading_texts, claim_sequence, claim_alike}
use Rattle.document_lines.specs.declared.headings.Heading.TheVariants.{Found as FoundHeading, Empty as EmptyHeading}

-- the lines of a recurrence are taken
pub takes_lines : (version : Version) (order : ℕ) → order ≤ 6 → (old new : List ℕ) (p : Solution × Ratio) → Takes (found_sequence version) old p new
    → Takes (found_lines version order) old (found_made order p) new
unfolding found_alike
takes_lines version order small old new p t = alike_takes (found_alike version order small) old new p t

module _ (version : Version) (order : ℕ) where
  claim_left : (old : List ℕ) → Leaves (claim_at version order) old (claim_sequence version order) old
  claim_left old new s = alike_stops (claim_alike version order) old new s

  pub at_heading : order ≤ 6 → (old : List ℕ) → Leaves (claim_at version order) old (heading_line order) old
  at_heading small old = leaves_first (heading_line order) (body_at version order) old (claim_left old) (λ h _. body_texts version order small h)

  pub at_found : order ≤ 6 → (old mid : List ℕ) → Takes (heading_line order) old FoundHeading mid
      → Leaves (claim_at version order) old (found_lines version order) mid
  at_found small old mid t new s =
      leaves_behind (heading_line order) (body_at version order) old mid FoundHeading (claim_left old) (heading_texts order small) t new
      (alike_stops (found_body version order) mid new s)

  pub at_empty : order ≤ 6 → (old mid : List ℕ) → Takes (heading_line order) old EmptyHeading mid
      → Leaves (claim_at version order) old (empty_lines order) mid
  at_empty small old mid t new s =
      leaves_behind (heading_line order) (body_at version order) old mid EmptyHeading (claim_left old) (heading_texts order small) t new
      (alike_stops (empty_body version order) mid new s)

  pub takes_found : (old mid new : List ℕ) (f : Found) → Takes (heading_line order) old FoundHeading mid
      → Takes (found_lines version order) mid f new → Takes (claim_at version order) old (found f) new
  unfolding found_body claim_alike
  takes_found old mid new f t u = alike_takes (claim_alike version order) old new (FoundHeading, found f)
      (takes_in_turn (heading_line order) (body_at version order) old mid new FoundHeading (found f) t
      (alike_takes (found_body version order) mid new f u))

  pub takes_empty : (old mid new : List ℕ) (e : Empty) → Takes (heading_line order) old EmptyHeading mid
      → Takes (empty_lines order) mid e new → Takes (claim_at version order) old (empty e) new
  unfolding empty_body claim_alike
  takes_empty old mid new e t u = alike_takes (claim_alike version order) old new (EmptyHeading, empty e)
      (takes_in_turn (heading_line order) (body_at version order) old mid new EmptyHeading (empty e) t
      (alike_takes (empty_body version order) mid new e u))
