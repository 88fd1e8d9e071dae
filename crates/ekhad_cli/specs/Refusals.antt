-- The line that each refusal says, and the status that it ends with.
use Rattle.std.specs.Prelude.{codes, ◌⊎◌, ◌++◌, ℕ, List}
use Rattle.std.specs.Fmt.{decimal}
use Rattle.std.specs.declared.option.Option.{Option}
use Rattle.std.specs.Io.KnownBytes.{Appends}
use Rattle.ek_io.specs.Transfer.{AppendsFront}
use Rattle.steps.specs.declared.limits.LimitName.{LimitName}
use Rattle.steps.specs.declared.limits.LimitName.TheVariants.{Factors, Slope, Offset, Exponent, Order, Degree, MatchShifts, Columns, HyperPairs, BoxSide}
use Rattle.ekhad_cli.specs.declared.status.Status.{Status}
use Rattle.ekhad_cli.specs.declared.status.Status.TheVariants as status
use Rattle.ekhad_cli.specs.declared.refusal.RunLimit.{RunLimit}
use Rattle.ekhad_cli.specs.declared.refusal.RunLimit.TheVariants.{InputBytes, DocumentBytes}
use Rattle.ekhad_cli.specs.declared.refusal.SyntaxKind.{SyntaxKind}
use Rattle.ekhad_cli.specs.declared.refusal.SyntaxKind.TheVariants.{Unexpected, UnknownName, Unclosed, NotAscii, Nesting}
use Rattle.ekhad_cli.specs.declared.refusal.Refusal.{Refusal}
use Rattle.ekhad_cli.specs.declared.refusal.Refusal.TheVariants.{Usage, EmptyInput, Line, LiteralTooLarge, TermTooLarge, OrderTooLarge, ClaimTooLarge, Improper, TermLimit, OrderLimit, Unbuilt, Memory, ReadFault, WriteFault}
use Rattle.ekhad_cli.specs.declared.refusal.Refusal.TheVariants as refusal

-- the exit status
abbrev pub code_of : Status → ℕ
code_of status.Found = 0
code_of status.Empty = 1
code_of status.Usage = 2
code_of status.Syntax = 3
code_of status.Improper = 4
code_of status.TooLarge = 5
code_of status.Limit = 6
code_of status.Memory = 7
code_of status.ReadFault = 8
code_of status.WriteFault = 9

-- the status that a run with this refusal ends with
abbrev pub status_of : Refusal → Status
status_of Usage = status.Usage
status_of EmptyInput = status.Syntax
status_of (refusal.Syntax kind at) = status.Syntax
status_of (Line at) = status.Syntax
status_of (LiteralTooLarge at) = status.TooLarge
status_of (Improper reason at) = status.Improper
status_of (TermTooLarge at) = status.TooLarge
status_of (OrderTooLarge order) = status.TooLarge
status_of (ClaimTooLarge claim) = status.TooLarge
status_of (refusal.Limit limit counted) = status.Limit
status_of (TermLimit name counted) = status.Limit
status_of (OrderLimit name counted) = status.Limit
status_of Unbuilt = status.Limit
status_of Memory = status.Memory
status_of ReadFault = status.ReadFault
status_of WriteFault = status.WriteFault

-- the name of a limit on the bytes that a command reads
abbrev pub limit_name : RunLimit → List ℕ
limit_name InputBytes = codes "input bytes"
limit_name DocumentBytes = codes "document bytes"

-- the name of a limit on terms
abbrev pub term_limit_name : LimitName → List ℕ
term_limit_name Factors = codes "factors"
term_limit_name Slope = codes "slope"
term_limit_name Offset = codes "offset"
term_limit_name Exponent = codes "exponent"
term_limit_name Order = codes "order"
term_limit_name Degree = codes "degree"
term_limit_name MatchShifts = codes "match shifts"
term_limit_name Columns = codes "columns"
term_limit_name HyperPairs = codes "hyper pairs"
term_limit_name BoxSide = codes "box"

-- the words for what is wrong in the text of a term
abbrev pub kind_name : SyntaxKind → List ℕ
kind_name Unexpected = codes "unexpected"
kind_name UnknownName = codes "unknown name"
kind_name Unclosed = codes "unclosed"
kind_name NotAscii = codes "not ascii"
kind_name Nesting = codes "nesting"

-- the line of a limit on terms, or on the steps of an order
abbrev pub limit_line : LimitName → ℕ → List ℕ
limit_line name counted = codes "ekhad: limit: " ++ term_limit_name name ++ codes " " ++ decimal counted ++ codes "\n"

-- the one line on err
abbrev pub line_text : Refusal → List ℕ
line_text Usage = codes "ekhad: usage\n"
line_text EmptyInput = codes "ekhad: syntax: empty input\n"
line_text (refusal.Syntax kind at) = codes "ekhad: syntax: " ++ kind_name kind ++ codes " at " ++ decimal at ++ codes "\n"
line_text (Line at) = codes "ekhad: syntax: line " ++ decimal at ++ codes "\n"
line_text (LiteralTooLarge at) = codes "ekhad: too large: literal at " ++ decimal at ++ codes "\n"
line_text (Improper reason at) = codes "ekhad: improper: reason " ++ decimal reason ++ codes " at " ++ decimal at ++ codes "\n"
line_text (TermTooLarge at) = codes "ekhad: too large: term at " ++ decimal at ++ codes "\n"
line_text (OrderTooLarge order) = codes "ekhad: too large: order " ++ decimal order ++ codes "\n"
line_text (ClaimTooLarge claim) = codes "ekhad: too large: claim " ++ decimal claim ++ codes "\n"
line_text (refusal.Limit limit counted) = codes "ekhad: limit: " ++ limit_name limit ++ codes " " ++ decimal counted ++ codes "\n"
line_text (TermLimit name counted) = limit_line name counted
line_text (OrderLimit name counted) = limit_line name counted
line_text Unbuilt = codes "ekhad: limit: unbuilt 1\n"
line_text Memory = codes "ekhad: memory\n"
line_text ReadFault = codes "ekhad: read fault\n"
line_text WriteFault = codes "ekhad: write fault\n"

-- the refusals whose line has no number
abbrev pub IsFixed : Refusal → Type 0
IsFixed (refusal.Syntax kind at) = ⊥
IsFixed (Line at) = ⊥
IsFixed (LiteralTooLarge at) = ⊥
IsFixed (Improper reason at) = ⊥
IsFixed (TermTooLarge at) = ⊥
IsFixed (OrderTooLarge order) = ⊥
IsFixed (ClaimTooLarge claim) = ⊥
IsFixed (TermLimit name counted) = ⊥
IsFixed (OrderLimit name counted) = ⊥
IsFixed (refusal.Limit limit counted) = ⊥
IsFixed _ = Unit {0}

-- the refusals that come after the whole input was read; want of memory may come before
abbrev pub ComesLate : Refusal → Type 0
ComesLate Usage = ⊥
ComesLate (refusal.Limit limit counted) = ⊥
ComesLate Memory = ⊥
ComesLate ReadFault = ⊥
ComesLate _ = Unit {0}

-- the refusals of the bytes that were read: the words and the outside are in order
abbrev pub IsInside : Refusal → Type 0
IsInside Usage = ⊥
IsInside ReadFault = ⊥
IsInside WriteFault = ⊥
IsInside _ = Unit {0}

-- memory or the outside failed
abbrev pub IsOutside : Refusal → Type 0
IsOutside Memory = Unit {0}
IsOutside ReadFault = Unit {0}
IsOutside WriteFault = Unit {0}
IsOutside _ = ⊥

-- the known bytes grew by the line, or by a front of it, and then only where the fact holds
abbrev pub GrewByLine : Option (List ℕ) → Option (List ℕ) → List ℕ → Type 0 → Type 0
GrewByLine before after line fault = Appends before after line ⊎ (fault × AppendsFront before after line)
