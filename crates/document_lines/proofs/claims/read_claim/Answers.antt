use Rattle.std.proofs.Common.{subst}
use Rattle.exact_texts.specs.Lines.{Takes}
use Rattle.spelled.proofs.Exits.{handed_on}
use Rattle.documents.specs.Views.{claim_said}
use Rattle.document_lines.specs.ClaimTexts.{found_lines, empty_lines, claim_at}
use Rattle.document_lines.specs.ClaimLaws.{heading_line}
use Rattle.document_lines.specs.declared.headings.Heading.{Heading}
use Rattle.document_lines.proofs.ClaimSteps.{at_heading, at_found, at_empty, takes_found, takes_empty}
use Rattle.document_lines.proofs.claims.read_claim.Goals as goal

-- the heading isn't there
pub returns-in_err-read_line : goal.returns-in_err-read_line
returns-in_err-read_line c = handed_on (heading_line c.args.order) (claim_at c.args.version c.args.order) claim_said _ _ _ _
    c.in_err-read_line.field-0.0 c.from_residual.ensures.1 (at_heading _ _ c.requires _ _) c.in_err-read_line.ensures

-- what is found isn't there
pub returns-in_err-found-in-Found : goal.returns-in_err-found-in-Found
returns-in_err-found-in-Found c =
    let t = subst (λ (h : Heading). Takes (heading_line c.args.order) c.args.lines.now.rest.now h c.read_line.new.lines.rest.now) c.in-Found.is
    c.in_ok-read_line.ensures in
    handed_on (found_lines c.args.version c.args.order) (claim_at c.args.version c.args.order) claim_said _ _ _ _
    c.in_err-found-in-Found.field-0.0 c.from_residual-in_err-found-in-Found.ensures.1
    (at_found _ _ c.requires _ _ t _) c.in_err-found-in-Found.ensures

-- what is said of an empty order isn't there
pub returns-in_err-empty-in-Empty : goal.returns-in_err-empty-in-Empty
returns-in_err-empty-in-Empty c =
    let t = subst (λ (h : Heading). Takes (heading_line c.args.order) c.args.lines.now.rest.now h c.read_line.new.lines.rest.now) c.in-Empty.is
    c.in_ok-read_line.ensures in
    handed_on (empty_lines c.args.order) (claim_at c.args.version c.args.order) claim_said _ _ _ _
    c.in_err-empty-in-Empty.field-0.0 c.from_residual-in_err-empty-in-Empty.ensures.1
    (at_empty _ _ c.requires _ _ t _) c.in_err-empty-in-Empty.ensures

-- a recurrence
pub returns-in_ok-found-in-Found : goal.returns-in_ok-found-in-Found
returns-in_ok-found-in-Found c =
    let t = subst (λ (h : Heading). Takes (heading_line c.args.order) c.args.lines.now.rest.now h c.read_line.new.lines.rest.now) c.in-Found.is
    c.in_ok-read_line.ensures in
    takes_found c.args.version c.args.order _ _ _ _ t c.in_ok-found-in-Found.ensures

-- an empty order
pub returns-in_ok-empty-in-Empty : goal.returns-in_ok-empty-in-Empty
returns-in_ok-empty-in-Empty c =
    let t = subst (λ (h : Heading). Takes (heading_line c.args.order) c.args.lines.now.rest.now h c.read_line.new.lines.rest.now) c.in-Empty.is
    c.in_ok-read_line.ensures in
    takes_empty c.args.version c.args.order _ _ _ _ t c.in_ok-empty-in-Empty.ensures
