-- What a run of the program claims of its outputs.
use Rattle.std.specs.Prelude.{◌≡◌, ◌≢◌, ◌⊎◌, ◌≤◌, ◌<◌, ◌↔◌, ℕ, suc, List, length, IfSome}
use Rattle.std.specs.declared.option.Option.{Option}
use Rattle.std.specs.Io.KnownBytes.{Appends}
use Rattle.std.specs.Io.KnownBytes.{IsAtEnd}
use Rattle.ek_io.specs.Faults.{Rose}
use Rattle.ek_io.specs.Transfer.{AppendsFront, TakesBytes}
use Rattle.ekhad_cli.specs.declared.words.Command.{Command}
use Rattle.ekhad_cli.specs.declared.status.Status.{Status}
use Rattle.ekhad_cli.specs.declared.status.Status.TheVariants.{Found, Empty, Syntax, Improper, TooLarge, WriteFault, Limit, ReadFault}
use Rattle.ekhad_cli.specs.declared.refusal.Refusal.{Refusal}
use Rattle.ekhad_cli.specs.declared.refusal.Refusal.TheVariants.{Usage}
use Rattle.ekhad_cli.specs.Refusals.{line_text, status_of, ComesLate, GrewByLine}
use Rattle.ekhad_cli.specs.Commands.{AreWordsOf, most_bytes, IsOutput, IsCause}

-- the run ends with an answer
abbrev pub IsAnswered : Status → Type 0
IsAnswered status = (status ≡ Found) ⊎ (status ≡ Empty)

-- with these answers the whole input was read; with Limit, where it was the bytes that were too many, it was not
abbrev pub HasReadAll : Status → Type 0
HasReadAll Found = Unit {0}
HasReadAll Empty = Unit {0}
HasReadAll Syntax = Unit {0}
HasReadAll Improper = Unit {0}
HasReadAll TooLarge = Unit {0}
HasReadAll WriteFault = Unit {0}
HasReadAll _ = ⊥

-- these are the bytes that the source held, where it tells them
abbrev pub AreHeld : Option (List ℕ) → List ℕ → Type 0
AreHeld held bytes = IfSome held (λ told. bytes ≡ told)

-- the bytes that were read are within the limit, and the known bytes grew by what the command writes of them with this status
abbrev pub GrewByOutput : Command → List ℕ → Status → Option (List ℕ) → Option (List ℕ) → Type 0
GrewByOutput command bytes status before after =
    (length bytes ≤ most_bytes command) × (text : List ℕ) × IsOutput command bytes status text × Appends before after text

-- the bytes that were read are within the limit, and the known bytes grew by a front of what the command writes, and not by all of it
abbrev pub GrewByFront : Command → List ℕ → Option (List ℕ) → Option (List ℕ) → Type 0
GrewByFront command bytes before after =
    (length bytes ≤ most_bytes command) × (status : Status) × (text : List ℕ) × IsOutput command bytes status text × AppendsFront before after text

-- the words are none of the program's, or their command refuses bytes that are those of the source
abbrev pub IsCaused : List (List ℕ) → Option (List ℕ) → Refusal → Type 0
IsCaused words held refusal =
    ((refusal ≡ Usage) × ((command : Command) → ¬ AreWordsOf command words))
    ⊎ ((command : Command) × (bytes : List ℕ) × AreWordsOf command words × AreHeld held bytes × IsCause command bytes refusal)

-- where the bytes of the source are more than the command reads, one more than those are taken
abbrev pub TakesTooMany : List (List ℕ) → Option (List ℕ) → Option (List ℕ) → Type 0
TakesTooMany words held left = (command : Command) × AreWordsOf command words
    × IfSome held (λ bytes. most_bytes command < length bytes → TakesBytes held left (suc (most_bytes command)))

-- What is claimed of a run as a whole, of any kind of source (its bytes still to come, its faults), of sink for the output and of sink for
-- the lines (their bytes, their faults): of its words, its status, and each of the three before it and after it. `run` has each part as a
-- clause.
pub record IsRun {S O E : Type 0} (left : S → Option (List ℕ)) (read_faults : S → ℕ) (bytes_out : O → Option (List ℕ)) (write_faults : O → ℕ)
    (bytes_err : E → Option (List ℕ)) (say_faults : E → ℕ) (words : List (List ℕ)) (status : Status) (input later_input : S) (out later_out : O)
    (err later_err : E) : Type 0 where
  pub written : IsAnswered status → (command : Command) × (bytes : List ℕ) × AreWordsOf command words × AreHeld (left input) bytes
      × GrewByOutput command bytes status (bytes_out out) (bytes_out later_out)
  pub no_line : IsAnswered status → later_err ≡ err
  pub end : HasReadAll status → IsAtEnd (left later_input)
  pub quiet : ¬ IsAnswered status → status ≢ WriteFault → later_out ≡ out
  pub front : status ≡ WriteFault → (command : Command) × (bytes : List ℕ) × AreWordsOf command words × AreHeld (left input) bytes
      × GrewByFront command bytes (bytes_out out) (bytes_out later_out)
  pub line : ¬ IsAnswered status → (refusal : Refusal) × (status ≡ status_of refusal) × IsCaused words (left input) refusal
      × (ComesLate refusal → IsAtEnd (left later_input))
      × GrewByLine (bytes_err err) (bytes_err later_err) (line_text refusal) (Rose (say_faults err) (say_faults later_err))
  pub usage : status ≡ Status.Usage ↔ ((command : Command) → ¬ AreWordsOf command words)
  pub unread : status ≡ Status.Usage → later_input ≡ input
  pub limit_taken : status ≡ Limit → TakesTooMany words (left input) (left later_input)
  pub read_fault : status ≡ ReadFault → Rose (read_faults input) (read_faults later_input)
  pub write_fault : status ≡ WriteFault → Rose (write_faults out) (write_faults later_out)

-- Memory was refused before there were words: nothing was read or written, and the line says so.
pub record HasNoWords {S O E : Type 0} (bytes_err : E → Option (List ℕ)) (say_faults : E → ℕ) (status : Status) (input later_input : S)
    (out later_out : O) (err later_err : E) : Type 0 where
  pub memory : status ≡ Status.Memory
  pub unread : later_input ≡ input
  pub quiet : later_out ≡ out
  pub line : GrewByLine (bytes_err err) (bytes_err later_err) (line_text Refusal.Memory) (Rose (say_faults err) (say_faults later_err))
