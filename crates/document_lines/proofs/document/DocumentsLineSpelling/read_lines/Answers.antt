use Rattle.spelled.proofs.Exits.{handed_on}
use Rattle.documents.specs.Documents.{Document}
use Rattle.documents.specs.Views.{document_of, command_said}
use Rattle.documents.specs.declared.documents.Doc.{Doc}
use Rattle.documents.specs.declared.documents.Version.{Version}
use Rattle.document_lines.specs.DocumentTexts.{claims_of, document_lines}
use Rattle.document_lines.specs.DocumentLaws.{version_line, command_line, term_line, end_line}
use Rattle.document_lines.proofs.DocumentSteps.{at_version, at_command, at_term, at_claims, at_end, takes_document}
use Rattle.document_lines.proofs.document.DocumentsLineSpelling.read_lines.Goals as goal

abbrev value_of : Version × Doc → Version × Document
value_of p = (p.0, document_of p.1)

-- the version isn't there
pub returns-in_err-version : goal.returns-in_err-version
returns-in_err-version c = handed_on version_line document_lines value_of _ _ _ _ c.in_err-version.field-0.0 c.from_residual.ensures.1
    (at_version _ _) c.in_err-version.ensures

-- the command isn't there
pub returns-in_err-command : goal.returns-in_err-command
returns-in_err-command c = handed_on command_line document_lines value_of _ _ _ _ c.in_err-command.field-0.0 c.from_residual-in_err-command.ensures.1
    (at_command _ _ _ c.in_ok-version.ensures _) c.in_err-command.ensures

-- the term isn't there
pub returns-in_err-term : goal.returns-in_err-term
returns-in_err-term c = handed_on (term_line c.in_ok-version.version) document_lines value_of _ _ _ _ c.in_err-term.field-0.0
    c.from_residual-in_err-term.ensures.1 (at_term _ _ _ _ _ c.in_ok-version.ensures c.in_ok-command.ensures _) c.in_err-term.ensures

-- a claim isn't there
pub returns-in_err-claims : goal.returns-in_err-claims
returns-in_err-claims c = handed_on (claims_of c.in_ok-version.version (command_said c.in_ok-command.command)) document_lines value_of _ _ _ _
    c.in_err-claims.field-0.0 c.from_residual-in_err-claims.ensures.1
    (at_claims _ _ _ _ _ c.in_ok-version.ensures c.in_ok-command.ensures _ _ c.in_ok-term.ensures _) c.in_err-claims.ensures

-- the end isn't there
pub returns-in_err-read_lines : goal.returns-in_err-read_lines
returns-in_err-read_lines c = handed_on end_line document_lines value_of _ _ _ _ c.in_err-read_lines.field-0.0
    c.from_residual-in_err-read_lines.ensures.1
    (at_end _ _ _ _ _ c.in_ok-version.ensures c.in_ok-command.ensures _ _ c.in_ok-term.ensures _ _ c.in_ok-claims.ensures _)
    c.in_err-read_lines.ensures

-- all lines are there
pub returns : goal.returns
returns c = takes_document _ _ _ _ _ c.in_ok-version.ensures c.in_ok-command.ensures _ _ c.in_ok-term.ensures _ _ c.in_ok-claims.ensures _
    c.in_ok-read_lines.ensures
