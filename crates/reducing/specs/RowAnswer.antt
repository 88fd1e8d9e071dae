-- What the calls on rows answer.
use Rattle.std.specs.Prelude.{List, map, Result, Ok, Err, Option, Some, None, Vec}
use Rattle.ring_laws.specs.Meaning.{Meaning}
use Rattle.ring_laws.specs.Algebra.{Algebra}
use Rattle.ring_laws.specs.Answer.{OnFault}
use Rattle.ring_laws.specs.declared.faults.RingFault.{RingFault}
use Rattle.kernel_laws.specs.RowSteps.{Quotients, NoQuotients, QuotientsInBounds}

-- a row of which P holds; `TooLarge` comes only where a step is not in bounds
abbrev pub GivesRow : {T Z : Type 0} → (T → Meaning) → (List Meaning → Type 0) → Type 0 → Result (Vec T Z) RingFault → Type 0
GivesRow meaning P InBounds (Ok row) = P (map meaning row.items)
GivesRow meaning P InBounds (Err fault) = OnFault (¬ InBounds) fault

-- a part of which P holds; `TooLarge` comes only where a step is not in bounds
abbrev pub GivesPart : {T : Type 0} → (T → Meaning) → (Meaning → Type 0) → Type 0 → Result T RingFault → Type 0
GivesPart meaning P InBounds (Ok part) = P (meaning part)
GivesPart meaning P InBounds (Err fault) = OnFault (¬ InBounds) fault

-- two parts of which P holds; `TooLarge` comes only where a step is not in bounds
abbrev pub GivesParts : {T : Type 0} → (T → Meaning) → (Meaning → Meaning → Type 0) → Type 0 → Result (record { 0 : T; 1 : T }) RingFault → Type 0
GivesParts meaning P InBounds (Ok parts) = P (meaning parts.0) (meaning parts.1)
GivesParts meaning P InBounds (Err fault) = OnFault (¬ InBounds) fault

-- the quotients of the entries by t, or none where t doesn't divide each; `TooLarge` only where a division is not in bounds
abbrev pub DividesRow : {T Z : Type 0} → (T → Meaning) → (a : Algebra) → (Meaning → Meaning → Type 0) → List Meaning → Meaning
    → Result (Option (Vec T Z)) RingFault → Type 0
DividesRow meaning a InBounds xs t (Ok (Some quotients)) = Quotients a t xs (map meaning quotients.items)
DividesRow meaning a InBounds xs t (Ok None) = NoQuotients a t xs
DividesRow meaning a InBounds xs t (Err fault) = OnFault (¬ (QuotientsInBounds InBounds a t xs)) fault
