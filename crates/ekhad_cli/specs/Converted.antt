-- The refusal that each fault of the layers below becomes. Want of memory becomes want of memory, and nothing else does.
use Rattle.std.specs.Prelude.{◌≡◌, ℕ}
use Rattle.ek_io.specs.declared.transfer.ReadEnd.{ReadEnd}
use Rattle.ek_io.specs.declared.transfer.ReadEnd.TheVariants as read
use Rattle.term_text.specs.declared.fault.TextFault.{TextFault}
use Rattle.term_text.specs.declared.fault.TextFault.TheVariants as text
use Rattle.steps.specs.declared.faults.TermFault.{TermFault}
use Rattle.steps.specs.declared.faults.TermFault.TheVariants as term
use Rattle.steps.specs.declared.faults.StepFault.{StepFault}
use Rattle.steps.specs.declared.faults.StepFault.TheVariants as step
use Rattle.cert_text.specs.declared.faults.DocFault.{DocFault}
use Rattle.cert_text.specs.declared.faults.DocFault.TheVariants as document
use Rattle.documents.specs.declared.faults.EngineFault.{EngineFault}
use Rattle.documents.specs.declared.faults.EngineFault.TheVariants as engine
use Rattle.documents.specs.declared.faults.Place.TheVariants.{Claim}
use Rattle.ekhad_cli.specs.declared.words.Command.{Command}
use Rattle.ekhad_cli.specs.declared.refusal.SyntaxKind.TheVariants as kind
use Rattle.ekhad_cli.specs.declared.refusal.Refusal.{Refusal}
use Rattle.ekhad_cli.specs.declared.refusal.Refusal.TheVariants as refusal
use Rattle.ekhad_cli.specs.Commands.{byte_limit}

-- of a source that isn't read to its end
abbrev pub refusal_of_end : Command → ReadEnd → Refusal
refusal_of_end command read.Fault = refusal.ReadFault
refusal_of_end command (read.Limit counted) = refusal.Limit (byte_limit command) counted
refusal_of_end command read.Memory = refusal.Memory

-- of a text that has no tree
abbrev pub refusal_of_text : TextFault → Refusal
refusal_of_text (text.Unexpected at) = refusal.Syntax kind.Unexpected at
refusal_of_text (text.UnknownName at) = refusal.Syntax kind.UnknownName at
refusal_of_text (text.UnclosedParen at) = refusal.Syntax kind.Unclosed at
refusal_of_text text.EmptyInput = refusal.EmptyInput
refusal_of_text (text.NotAscii at) = refusal.Syntax kind.NotAscii at
refusal_of_text (text.Nesting at) = refusal.Syntax kind.Nesting at
refusal_of_text (text.LiteralTooLarge at) = refusal.LiteralTooLarge at
refusal_of_text text.Memory = refusal.Memory

-- of a tree that has no class
abbrev pub refusal_of_term : TermFault → Refusal
refusal_of_term (term.Improper reason at) = refusal.Improper reason at
refusal_of_term (term.Limit name counted) = refusal.TermLimit name counted
refusal_of_term (term.TooLarge at) = refusal.TermTooLarge at
refusal_of_term term.Memory = refusal.Memory

-- of a term whose steps at an order give no normal form
abbrev pub refusal_of_order : ℕ → StepFault → Refusal
refusal_of_order order (step.Limit name counted) = refusal.OrderLimit name counted
refusal_of_order order step.TooLarge = refusal.OrderTooLarge order
refusal_of_order order step.Memory = refusal.Memory

-- of a text that is no document
abbrev pub refusal_of_document : DocFault → Refusal
refusal_of_document (document.Line at) = refusal.Line at
refusal_of_document document.Memory = refusal.Memory

-- of a claim that isn't checked: no other fault comes there
abbrev pub IsRefusalOfClaim : EngineFault → Refusal → Type 0
IsRefusalOfClaim (engine.TooLarge (Claim claim)) said = said ≡ refusal.ClaimTooLarge claim
IsRefusalOfClaim engine.Memory said = said ≡ refusal.Memory
IsRefusalOfClaim _ said = ⊥
