-- What a call of a ring answers.
use Rattle.std.specs.Prelude.{◌≡◌, Result, Ok, Err}
use Rattle.ring_laws.specs.Meaning.{Meaning}
use Rattle.ring_laws.specs.declared.faults.RingFault.{RingFault}
use Rattle.ring_laws.specs.declared.faults.RingFault.TheVariants.{TooLarge, Memory}

-- what is said of an error: `TooLarge` comes only where P holds, and `Memory` freely
abbrev pub OnFault : Type 0 → RingFault → Type 0
OnFault P TooLarge = P
OnFault P Memory = Unit {0}

-- a value of this meaning, or no memory
abbrev pub Gives : {T : Type 0} → (T → Meaning) → Meaning → Result T RingFault → Type 0
Gives meaning m (Ok r) = meaning r ≡ m
Gives meaning m (Err fault) = OnFault ⊥ fault

-- a value of this meaning where the operation is in bounds, `TooLarge` where it isn't, or no memory
abbrev pub GivesInBounds : {T : Type 0} → (T → Meaning) → Type 0 → Meaning → Result T RingFault → Type 0
GivesInBounds meaning InBounds m (Ok r) = InBounds × (meaning r ≡ m)
GivesInBounds meaning InBounds m (Err fault) = OnFault (¬ InBounds) fault

-- a fault that owes a fact owes whatever follows from it
pub fault_weaker : {P Q : Type 0} (fault : RingFault) → (P → Q) → OnFault P fault → OnFault Q fault
fault_weaker TooLarge f h = f h
fault_weaker Memory f h = tt

-- a fault of memory owes nothing
pub fault_memory : (P : Type 0) (fault : RingFault) → fault ≡ Memory → OnFault P fault
fault_memory P TooLarge e = cc
fault_memory P Memory e = tt
