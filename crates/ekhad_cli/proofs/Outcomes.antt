-- What was read, written and said, put together.
use Rattle.std.proofs.Common.{◌≡◌, ◌≢◌, ◌⊎◌, ◌≤◌, ◌<◌, ◌+◌, ℕ, suc, true, false, List, [], length, Option, Some, None, inl, inr, refl, sym, subst, arith}
use Rattle.std.specs.Prelude.{IfSome}
use Rattle.std.specs.Io.KnownBytes.{Appends, IsAtEnd}
use Rattle.ek_io.specs.Transfer.{AppendsFront, TakesBytes}
use Rattle.ek_io.specs.declared.transfer.ReadEnd.{ReadEnd}
use Rattle.ek_io.specs.declared.transfer.ReadEnd.TheVariants as read
use Rattle.ekhad_cli.specs.declared.words.Command.{Command}
use Rattle.ekhad_cli.specs.declared.status.Status.{Status}
use Rattle.ekhad_cli.specs.declared.status.Status.TheVariants as status
use Rattle.ekhad_cli.specs.declared.refusal.Refusal.{Refusal}
use Rattle.ekhad_cli.specs.declared.refusal.Refusal.TheVariants.{Usage, EmptyInput, Line, LiteralTooLarge, TermTooLarge, OrderTooLarge, ClaimTooLarge, Improper, TermLimit, OrderLimit, Unbuilt, Memory, ReadFault, WriteFault}
use Rattle.ekhad_cli.specs.declared.refusal.Refusal.TheVariants as refusal
use Rattle.ekhad_cli.specs.Refusals.{status_of, IsFixed, ComesLate}
use Rattle.ekhad_cli.specs.Commands.{AreWordsOf, most_bytes, byte_limit, IsOutput, IsCause}
use Rattle.ekhad_cli.specs.Converted.{refusal_of_end}
use Rattle.ekhad_cli.specs.Run.{HasReadAll, AreHeld, IsCaused, GrewByOutput, GrewByFront}

-- Some bytes are those of the source, whatever it tells.
pub some_held : (held : Option (List ℕ)) → (bytes : List ℕ) × AreHeld held bytes
some_held None = ([], tt)
some_held (Some bytes) = (bytes, refl)

-- More bytes came than the command reads.
pub too_many : (command : Command) (held left : Option (List ℕ)) (counted : ℕ) → IfSome held (λ bytes. most_bytes command < length bytes)
    → TakesBytes held left counted → counted ≡ suc (most_bytes command)
    → (bytes : List ℕ) × AreHeld held bytes × IsCause command bytes (refusal.Limit (byte_limit command) counted)
too_many command None left counted beyond taken is = (taken.0, tt, (refl, omega (arith, taken.2, is), is))
too_many command (Some bytes) left counted beyond taken is = (bytes, refl, (refl, beyond, is))

-- A source that isn't read to its end is refused with a cause, and before the whole input was read.
pub end_caused : (command : Command) (held left : Option (List ℕ)) (end : ReadEnd) (limit : ℕ) → limit ≡ most_bytes command
    → ((n : ℕ) → end ≡ read.Limit n → IfSome held (λ bytes. limit < length bytes)) → ((n : ℕ) → end ≡ read.Limit n → TakesBytes held left n)
    → ((n : ℕ) → end ≡ read.Limit n → n ≡ limit + 1)
    → (bytes : List ℕ) × AreHeld held bytes × IsCause command bytes (refusal_of_end command end)
end_caused command held left read.Fault limit same beyond taken is = let some = some_held held in (some.0, some.1, tt)
end_caused command held left (read.Limit n) limit same beyond taken is =
    too_many command held left n (subst (λ m. IfSome held (λ bytes. m < length bytes)) same (beyond n refl)) (taken n refl)
    (omega (arith, same, is n refl))
end_caused command held left read.Memory limit same beyond taken is = let some = some_held held in (some.0, some.1, tt)

pub end_early : (command : Command) (end : ReadEnd) → ¬ ComesLate (refusal_of_end command end)
end_early command read.Fault late = late
end_early command (read.Limit n) late = late
end_early command read.Memory late = late

-- what failed isn't right
pub differ : false ≡ true → ⊥
differ e = cc

-- What is said is the refusal, or want of memory where its line has a number.
abbrev pub IsSaid : Refusal → Refusal → Type 0
IsSaid refusal said = (said ≡ refusal) ⊎ ((said ≡ Memory) × (¬ IsFixed refusal))

-- What is said has a cause where the refusal has one.
pub caused : (words : List (List ℕ)) (held : Option (List ℕ)) (refusal said : Refusal) → IsCaused words held refusal → IsSaid refusal said
    → IsCaused words held said
caused words held refusal said cause (inl e) = subst (IsCaused words held) (sym e) cause
caused words held refusal said (inl u) (inr e) = absurd (e.1 (subst IsFixed (sym u.0) tt))
caused words held refusal said (inr (command, bytes, is, those, c)) (inr e) =
    subst (IsCaused words held) (sym e.0) (inr (command, bytes, is, those, tt))

-- A status that isn't that of want of memory is said of the refusal alone.
said_itself : (refusal said : Refusal) (s : Status) → s ≢ status.Memory → IsSaid refusal said → status_of said ≡ s → status_of refusal ≡ s
said_itself refusal said s other (inl e) is = subst (λ (r : Refusal). status_of r ≡ s) e is
said_itself refusal said s other (inr e) is = absurd (other (sym (subst (λ (r : Refusal). status_of r ≡ s) e.0 is)))

-- And it comes after the whole input was read where the refusal does.
pub late : (left : Option (List ℕ)) (refusal said : Refusal) → (ComesLate refusal → IsAtEnd left) → IsSaid refusal said
    → ComesLate said → IsAtEnd left
late left refusal said h (inl e) l = h (subst ComesLate e l)
late left refusal said h (inr e) l = absurd (subst ComesLate e.0 l)

pub comes_late : (r : Refusal) → HasReadAll (status_of r) → ComesLate r
comes_late Usage h = h
comes_late EmptyInput h = tt
comes_late (refusal.Syntax kind at) h = tt
comes_late (Line at) h = tt
comes_late (LiteralTooLarge at) h = tt
comes_late (Improper reason at) h = tt
comes_late (TermTooLarge at) h = tt
comes_late (OrderTooLarge order) h = tt
comes_late (ClaimTooLarge claim) h = tt
comes_late (refusal.Limit limit counted) h = h
comes_late (TermLimit name counted) h = tt
comes_late (OrderLimit name counted) h = tt
comes_late Unbuilt h = tt
comes_late Memory h = h
comes_late ReadFault h = h
comes_late WriteFault h = tt

is_read_fault : (r : Refusal) → status_of r ≡ status.ReadFault → r ≡ ReadFault
is_read_fault ReadFault e = refl
is_read_fault Usage e = cc
is_read_fault EmptyInput e = cc
is_read_fault (refusal.Syntax kind at) e = cc
is_read_fault (Line at) e = cc
is_read_fault (LiteralTooLarge at) e = cc
is_read_fault (Improper reason at) e = cc
is_read_fault (TermTooLarge at) e = cc
is_read_fault (OrderTooLarge order) e = cc
is_read_fault (ClaimTooLarge claim) e = cc
is_read_fault (refusal.Limit limit counted) e = cc
is_read_fault (TermLimit name counted) e = cc
is_read_fault (OrderLimit name counted) e = cc
is_read_fault Unbuilt e = cc
is_read_fault Memory e = cc
is_read_fault WriteFault e = cc

pub limit_said : (refusal said : Refusal) → IsSaid refusal said → status_of said ≡ status.Limit → status_of refusal ≡ status.Limit
limit_said refusal said = said_itself refusal said status.Limit (λ e. cc)

pub read_fault_said : (refusal said : Refusal) → IsSaid refusal said → status_of said ≡ status.ReadFault → refusal ≡ ReadFault
read_fault_said refusal said is e = is_read_fault refusal (said_itself refusal said status.ReadFault (λ f. cc) is e)

-- the command of the words writes this text of bytes that are those of the source, and ends with this status
abbrev pub HasOutput : List (List ℕ) → Option (List ℕ) → Status → List ℕ → Type 0
HasOutput words held status text = (command : Command) × (bytes : List ℕ) × AreWordsOf command words
    × AreHeld held bytes × (length bytes ≤ most_bytes command) × IsOutput command bytes status text

-- the text was written
pub grew : (words : List (List ℕ)) (held before after : Option (List ℕ)) (status : Status) (text seen : List ℕ)
    → HasOutput words held status text → seen ≡ text → Appends before after seen
    → (command : Command) × (bytes : List ℕ) × AreWordsOf command words × AreHeld held bytes × GrewByOutput command bytes status before after
grew words held before after status text seen (command, bytes, is, those, few, output) same appends =
    (command, bytes, is, those, (few, text, output, subst (Appends before after) same appends))

-- or a front of it
pub grew_by_front : (words : List (List ℕ)) (held before after : Option (List ℕ)) (status : Status) (text seen : List ℕ)
    → HasOutput words held status text → seen ≡ text → AppendsFront before after seen
    → (command : Command) × (bytes : List ℕ) × AreWordsOf command words × AreHeld held bytes × GrewByFront command bytes before after
grew_by_front words held before after status text seen (command, bytes, is, those, few, output) same front =
    (command, bytes, is, those, (few, status, text, output, subst (AppendsFront before after) same front))

-- and then the fault in writing has its cause
pub write_fault_caused : (words : List (List ℕ)) (held : Option (List ℕ)) (status : Status) (text : List ℕ)
    → HasOutput words held status text → IsCaused words held WriteFault
write_fault_caused words held status text (command, bytes, is, those, few, output) = inr (command, bytes, is, those, tt)
