-- What the calls on rows answer.
use Rattle.std.specs.Prelude.{List, map, Result, Ok, Err, Vec}
use Rattle.ring_laws.specs.Meaning.{Meaning}
use Rattle.ring_laws.specs.Answer.{OnFault}
use Rattle.ring_laws.specs.declared.faults.RingFault.{RingFault}

-- rows as lists of meanings
abbrev pub rows_meant : {T Z : Type 0} → (T → Meaning) → List (Vec T Z) → List (List Meaning)
rows_meant meaning rows = map (λ row. map meaning row.items) rows

-- rows of which P holds; `TooLarge` only where a step is not in bounds
abbrev pub GivesRows : {T Z : Type 0} → (T → Meaning) → (List (List Meaning) → Type 0) → Type 0 → Result (Vec (Vec T Z) Z) RingFault → Type 0
GivesRows meaning P InBounds (Ok rows) = P (rows_meant meaning rows.items)
GivesRows meaning P InBounds (Err fault) = OnFault (¬ InBounds) fault
