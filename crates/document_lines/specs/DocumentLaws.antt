-- The lines of a document tell the document.
-- These are lemmas: they stand here, and not in proofs/, since the spelling of documents names the last of them.
use Rattle.std.specs.Prelude.{◌≡◌, ℕ, codes, List}
use Rattle.std.proofs.Common.{refl, sym, arith}
use Rattle.hypergeometric.specs.ProperTerm.{ProperTerm}
use Rattle.exact_texts.specs.Formats.{Format, line_of, in_turn}
use Rattle.exact_texts.specs.Lines.{AreLineTexts}
use Rattle.exact_texts.specs.Nothing.{nothing}
use Rattle.exact_texts.proofs.Alike.{AreAlike, alike_texts}
use Rattle.exact_texts.proofs.Formats.{line_texts_in_turn}
use Rattle.exact_texts.proofs.Nothing.{nothing_within_line}
use Rattle.exact_texts.proofs.OneLine.{one_line_texts}
use Rattle.term_lines.specs.TermTexts.{terms}
use Rattle.term_lines.specs.TermLaws.{terms_within_line}
use Rattle.documents.specs.Documents.{Claim, Command, gosper, ct, zeil, wz, companion, hyper, Subject, of_term, of_recurrence, Document}
use Rattle.documents.specs.WellFormed.{IsOrder, AreClaimsOf, IsSubject}
use Rattle.documents.specs.declared.documents.Version.{Version}
use Rattle.document_lines.specs.ClaimTexts.{claims_from}
use Rattle.document_lines.specs.ClaimListLaws.{claims_texts}
use Rattle.document_lines.specs.CommandLaws.{versions_within_line, commands_within_line}
use Rattle.document_lines.specs.DocumentTexts.{versions, IsCommand, commands, claims_of, document_lines}
use Rattle.document_lines.specs.Sequences.{◌⨟◌, both_texts}

-- the line of the version
abbrev pub version_line : Format Version
version_line = line_of (codes "ekhad ") versions

-- the line of the command
abbrev pub command_line : Format Command
command_line = line_of (codes "command ") commands

-- the line of the term
abbrev pub term_line : Version → Format ProperTerm
term_line version = line_of (codes "term ") (terms version)

-- the last line
abbrev pub end_line : Format (Unit {0})
end_line = line_of (codes "end") nothing

-- the line of the version tells it
pub version_texts : AreLineTexts version_line
version_texts = one_line_texts versions (codes "ekhad ") refl versions_within_line

-- the line of the command tells it
pub command_texts : AreLineTexts command_line
command_texts = one_line_texts commands (codes "command ") refl commands_within_line

-- the line of the term tells it
pub term_texts : (version : Version) → AreLineTexts (term_line version)
term_texts version = one_line_texts (terms version) (codes "term ") refl (terms_within_line version)

-- the last line is one
pub end_texts : AreLineTexts end_line
end_texts = one_line_texts nothing (codes "end") refl nothing_within_line

-- the claims of ct are those of its order
unfoldable pub alike_of_ct : (version : Version) (order : ℕ) → IsOrder order → AreAlike (claims_from version order 0) (claims_of version (ct order))
alike_of_ct version order small = record { make = λ cs. cs; made = λ cs h. ((small, h), refl); back = λ cs h. (cs, h.1, refl) }

-- the claims of zeil are those of the orders from 0 on
unfoldable pub alike_of_zeil : (version : Version) (most : ℕ) → IsOrder most → AreAlike (claims_from version 0 most) (claims_of version (zeil most))
alike_of_zeil version most small = record { make = λ cs. cs; made = λ cs h. ((small, h), refl); back = λ cs h. (cs, h.1, refl) }

-- the lines of the claims of a command tell them
pub claims_of_texts : (version : Version) (c : Command) → IsCommand c → AreLineTexts (claims_of version c)
claims_of_texts version gosper h = claims_texts version 0 0 (omega arith)
claims_of_texts version (ct order) h = alike_texts (alike_of_ct version order h) (claims_texts version order 0 (omega arith))
claims_of_texts version (zeil most) h = alike_texts (alike_of_zeil version most h) (claims_texts version 0 most (omega arith))
claims_of_texts version wz h = absurd h
claims_of_texts version (companion b) h = absurd h
claims_of_texts version hyper h = absurd h

-- the claims and the end
abbrev pub ending : Version → Command → Format (List Claim × Unit {0})
ending version c = claims_of version c ⨟ end_line

-- what stands behind the command
abbrev pub body : Version → Command → Format (ProperTerm × (List Claim × Unit {0}))
body version c = term_line version ⨟ ending version c

-- the command and what stands behind it
abbrev pub commanded : Version → Format (Command × (ProperTerm × (List Claim × Unit {0})))
commanded version = in_turn command_line (body version)

-- all lines of a document
abbrev pub document_sequence : Format (Version × (Command × (ProperTerm × (List Claim × Unit {0}))))
document_sequence = in_turn version_line commanded

-- the lines of the claims and of the end tell them
pub ending_texts : (version : Version) (c : Command) → IsCommand c → AreLineTexts (ending version c)
ending_texts version c h = both_texts (claims_of version c) end_line (claims_of_texts version c h) end_texts

-- the lines behind the command tell what they say
pub body_texts : (version : Version) (c : Command) → IsCommand c → AreLineTexts (body version c)
body_texts version c h = both_texts (term_line version) (ending version c) (term_texts version) (ending_texts version c h)

-- the lines behind the version tell what they say
pub commanded_texts : (version : Version) → AreLineTexts (commanded version)
commanded_texts version = line_texts_in_turn command_line (body version) command_texts (body_texts version)

-- the command of a document whose claims belong to it
is_command : (version : Version) (c : Command) (cs : List Claim) → AreClaimsOf version c cs → IsCommand c
is_command version gosper cs h = tt
is_command version (ct order) cs h = h.0
is_command version (zeil most) cs h = h.0
is_command version wz cs h = h
is_command version (companion b) cs h = h
is_command version hyper cs h = h

-- the document with these lines
abbrev pub document_made : Version × (Command × (ProperTerm × (List Claim × Unit {0}))) → Version × Document
document_made p = (p.0, record { command = p.1.0; subject = of_term p.1.1.0; claims = p.1.1.1.0 })

-- a well-formed document is made of what its lines say
pub document_back : (version : Version) (d : Document) (s : Subject) → d.subject ≡ s → IsSubject s → AreClaimsOf version d.command d.claims
    → (p : Version × (Command × (ProperTerm × (List Claim × Unit {0})))) × document_sequence.Has p × (document_made p ≡ (version, d))
document_back version d (of_term t) e h claims = (
  (version, (d.command, (t, (d.claims, tt)))),
  (tt, (is_command version d.command d.claims claims, (h, (claims, tt)))),
  λ i. (version, record { command = d.command; subject = sym e i; claims = d.claims }),
)
document_back version d (of_recurrence ps) e h claims = absurd h

-- documents are what their lines make
unfoldable pub document_alike : AreAlike document_sequence document_lines
document_alike = record {
  make = document_made;
  made = λ p h. (record { subject = h.1.1.0; claims = h.1.1.1.0 }, refl);
  back = λ p h. document_back p.0 p.1 p.1.subject refl h.subject h.claims;
}

-- the lines of a document tell it
pub document_line_texts : AreLineTexts document_lines
document_line_texts = alike_texts document_alike (line_texts_in_turn version_line commanded version_texts (λ v _. commanded_texts v))
