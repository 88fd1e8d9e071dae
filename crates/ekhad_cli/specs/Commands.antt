-- The commands: their words, what each writes of the bytes that it reads, and why it refuses them.
use Rattle.std.specs.Prelude.{codes, ◌≡◌, ◌<◌, ◌≤◌, ℕ, suc, List, [], ◌∷◌, length}
use Rattle.steps.specs.Steps.{limit}
use Rattle.steps.specs.Answers.{refused, too_large}
use Rattle.steps.specs.TermFaults.{improper}
use Rattle.cert_text.specs.Readable.{Contents, IsTextOf, IsFirstBadLine, carried}
use Rattle.cert_checker.specs.Checks.{HasCarrier, HasMultiplier, AreInBounds}
use Rattle.grammar.specs.Several.{a_term}
use Rattle.grammar.specs.Reading.{IsFirstFault, empty_input, literal_too_large_at}
use Rattle.ekhad_cli.specs.Gosper.{IsAnswerText, fault_of, IsRefusedBy, IsTermTooLarge, IsRefusedAtOrder, IsUnbuilt}
use Rattle.ekhad_cli.specs.Check.{IsVerdictText}
use Rattle.ekhad_cli.specs.Refusals.{IsOutside}
use Rattle.ekhad_cli.specs.declared.words.Command.{Command}
use Rattle.ekhad_cli.specs.declared.words.Command.TheVariants.{Gosper, Check}
use Rattle.ekhad_cli.specs.declared.status.Status.{Status}
use Rattle.ekhad_cli.specs.declared.status.Status.TheVariants.{Found}
use Rattle.ekhad_cli.specs.declared.refusal.RunLimit.{RunLimit}
use Rattle.ekhad_cli.specs.declared.refusal.RunLimit.TheVariants.{InputBytes, DocumentBytes}
use Rattle.ekhad_cli.specs.declared.refusal.Refusal.{Refusal}
use Rattle.ekhad_cli.specs.declared.refusal.Refusal.TheVariants.{Usage, EmptyInput, Line, LiteralTooLarge, TermTooLarge, OrderTooLarge, ClaimTooLarge, Improper, TermLimit, OrderLimit, Unbuilt, Memory, ReadFault, WriteFault}
use Rattle.ekhad_cli.specs.declared.refusal.Refusal.TheVariants as refusal

-- the words of a command
abbrev pub AreWordsOf : Command → List (List ℕ) → Type 0
AreWordsOf Gosper words = words ≡ codes "gosper" ∷ []
AreWordsOf Check words = words ≡ codes "check" ∷ []

-- the most bytes that a command reads
abbrev pub most_bytes : Command → ℕ
most_bytes Gosper = 65536
most_bytes Check = 16777216

-- the limit on the bytes that a command reads
abbrev pub byte_limit : Command → RunLimit
byte_limit Gosper = InputBytes
byte_limit Check = DocumentBytes

-- what a command writes of the bytes that it has read, by the status with which it ends
abbrev pub IsOutput : Command → List ℕ → Status → List ℕ → Type 0
IsOutput Gosper bytes status text = (status ≡ Found) × IsAnswerText bytes text
IsOutput Check bytes status text = IsVerdictText bytes status text

-- Why a command refuses the bytes that it reads: they are too many, or it read them all. A fault of the outside, or want of memory,
-- may come whatever they are.
abbrev pub IsCause : Command → List ℕ → Refusal → Type 0
IsCause command bytes (refusal.Limit name counted) =
    (name ≡ byte_limit command) × (most_bytes command < length bytes) × (counted ≡ suc (most_bytes command))
IsCause Gosper bytes EmptyInput = (length bytes ≤ most_bytes Gosper) × IsFirstFault a_term bytes empty_input
IsCause Gosper bytes (refusal.Syntax kind at) = (length bytes ≤ most_bytes Gosper) × IsFirstFault a_term bytes (fault_of kind at)
IsCause Gosper bytes (LiteralTooLarge at) = (length bytes ≤ most_bytes Gosper) × IsFirstFault a_term bytes (literal_too_large_at at)
IsCause Gosper bytes (Improper reason at) = (length bytes ≤ most_bytes Gosper) × IsRefusedBy bytes (improper reason at)
IsCause Gosper bytes (TermLimit name counted) = (length bytes ≤ most_bytes Gosper) × IsRefusedBy bytes (limit name counted)
IsCause Gosper bytes (TermTooLarge at) = (length bytes ≤ most_bytes Gosper) × IsTermTooLarge bytes at
IsCause Gosper bytes (OrderLimit name counted) = (length bytes ≤ most_bytes Gosper) × IsRefusedAtOrder bytes (refused (limit name counted))
IsCause Gosper bytes (OrderTooLarge order) = (length bytes ≤ most_bytes Gosper) × (order ≡ 0) × IsRefusedAtOrder bytes (too_large tt)
IsCause Gosper bytes Unbuilt = (length bytes ≤ most_bytes Gosper) × IsUnbuilt bytes
IsCause Check bytes (Line at) = (length bytes ≤ most_bytes Check) × (line : ℕ) × IsFirstBadLine bytes line × (at ≡ carried line)
IsCause Check bytes (ClaimTooLarge claim) = (length bytes ≤ most_bytes Check) × (claim ≡ 0)
    × (d : Contents) × IsTextOf bytes d × HasCarrier d × HasMultiplier d × (¬ AreInBounds d)
IsCause command bytes Memory = Unit {0}
IsCause command bytes ReadFault = Unit {0}
IsCause command bytes WriteFault = Unit {0}
IsCause command bytes refusal = ⊥

-- Whatever `check` writes of the text, it accepts it; and it refuses it only where memory or the outside fail, if it reads it all.
pub record IsAlwaysAccepted (text : List ℕ) : Type 0 where
  pub output : (status : Status) (written : List ℕ) → IsOutput Check text status written → (status ≡ Found) × (written ≡ codes "accepted\n")
  pub cause : length text ≤ most_bytes Check → (refusal : Refusal) → IsCause Check text refusal → IsOutside refusal
