-- The lines of documents: a version, a command, a subject, the claims, and the end.
use Rattle.std.specs.Prelude.{ℕ, codes, List, []}
use Rattle.std.specs.Fmt.{decimal}
use Rattle.exact_texts.specs.Texts.{◌⧺◌, line}
use Rattle.exact_texts.specs.Formats.{Format}
use Rattle.exact_texts.specs.Lists.{parts_of}
use Rattle.polynomial_sums.specs.PolynomialSums.{polynomials, in_n}
use Rattle.term_lines.specs.TermTexts.{terms}
use Rattle.documents.specs.Documents.{Claim, Command, gosper, ct, zeil, wz, companion, hyper, Subject, of_term, of_recurrence, Document}
use Rattle.documents.specs.WellFormed.{IsOrder, AreClaimsOf, IsWellFormed}
use Rattle.documents.specs.declared.documents.Version.{Version}
use Rattle.documents.specs.declared.documents.Version.TheVariants.{One}
use Rattle.document_lines.specs.ClaimTexts.{claims_text}

-- a version by its number
abbrev pub version_text : Version → List ℕ
version_text One = codes "1"

-- every version
abbrev pub versions : Format Version
versions = record { Has = λ _. Unit {0}; text = version_text }

-- the commands of which documents are known, with orders of at most 6
abbrev pub IsCommand : Command → Type 0
IsCommand gosper = Unit {0}
IsCommand (ct order) = IsOrder order
IsCommand (zeil most) = IsOrder most
IsCommand wz = ⊥
IsCommand (companion b) = ⊥
IsCommand hyper = ⊥

-- a command by its word, and the order where it has one; the others have no text yet
abbrev pub command_text : Command → List ℕ
command_text gosper = codes "gosper"
command_text (ct order) = codes "ct " ⧺ decimal order
command_text (zeil most) = codes "zeil " ⧺ decimal most
command_text wz = []
command_text (companion b) = []
command_text hyper = []

-- these commands
abbrev pub commands : Format Command
commands = record { Has = IsCommand; text = command_text }

-- the line of a subject
abbrev pub subject_text : Version → Subject → List ℕ
subject_text version (of_term t) = line (codes "term ") ((terms version).text t)
subject_text version (of_recurrence ps) = line (codes "recurrence ") ((parts_of (polynomials in_n)).text ps)

-- the claims that belong to a command
abbrev pub claims_of : Version → Command → Format (List Claim)
claims_of version command = record { Has = AreClaimsOf version command; text = claims_text version }

-- the text of a document in a version
abbrev pub document_text : Version → Document → List ℕ
document_text version d = line (codes "ekhad ") (version_text version)
    ⧺ line (codes "command ") (command_text d.command)
    ⧺ subject_text version d.subject
    ⧺ claims_text version d.claims
    ⧺ line (codes "end") []

-- well-formed documents, each in its version
abbrev pub document_lines : Format (Version × Document)
document_lines = record { Has = λ p. IsWellFormed p.0 p.1; text = λ p. document_text p.0 p.1 }
