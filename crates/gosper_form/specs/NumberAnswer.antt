-- What a product of numbers answers, of which none is 0.
use Rattle.std.specs.Prelude.{◌≡◌, ◌^◌, ◌<◌, ℤ, unsigned_abs, Result, Ok, Err}
use Rattle.ring_laws.specs.Answer.{OnFault}
use Rattle.ring_laws.specs.declared.faults.RingFault.{RingFault}

-- the number z; `TooLarge` comes only where it isn't in bounds
abbrev pub GivesNumber : {T : Type 0} → (T → ℤ) → ℤ → Result T RingFault → Type 0
GivesNumber number z (Ok value) = number value ≡ z
GivesNumber number z (Err fault) = OnFault (¬ (unsigned_abs z < 2 ^ 127)) fault
