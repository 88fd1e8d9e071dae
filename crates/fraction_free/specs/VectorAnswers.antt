-- What the calls on a vector answer.
use Rattle.std.specs.Prelude.{List, map, Result, Ok, Err}
use Rattle.ring_laws.specs.Meaning.{Meaning}
use Rattle.ring_laws.specs.Algebra.{Algebra}
use Rattle.ring_laws.specs.Answer.{OnFault}
use Rattle.ring_laws.specs.declared.faults.RingFault.{RingFault}
use Rattle.kernel_laws.specs.BackSubstitution.{Absorbed as IsAbsorbed}
use Rattle.fraction_free.specs.declared.vectors.Absorbed.{Absorbed}

-- what is left of the number, and the vector; `TooLarge` only where a step is not in bounds
abbrev pub GivesAbsorbed : {T : Type 0} → (T → Meaning) → (a : Algebra) → (divisor amount : Meaning) → List Meaning → Type 0
    → Result (Absorbed T) RingFault → Type 0
GivesAbsorbed meaning a divisor amount vector InBounds (Ok left) =
    IsAbsorbed a divisor amount vector (meaning left.rest) (map meaning left.vector.items)
GivesAbsorbed meaning a divisor amount vector InBounds (Err fault) = OnFault (¬ InBounds) fault
