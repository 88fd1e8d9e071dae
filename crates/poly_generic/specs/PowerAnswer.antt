-- What a product with a power answers.
use Rattle.std.specs.Prelude.{◌≡◌, Result, Ok, Err}
use Rattle.ring_laws.specs.Meaning.{Meaning}
use Rattle.ring_laws.specs.Algebra.{Algebra, Passing}
use Rattle.ring_laws.specs.Answer.{OnFault}
use Rattle.ring_laws.specs.declared.faults.RingFault.{RingFault}
use Rattle.poly_laws.specs.Powers.{IsBound}

-- m times f; `TooLarge` comes only where no bound of m times the bound of f fits
abbrev pub GivesTimes : {T : Type 0} → (T → Meaning) → Algebra → Meaning → Meaning → Meaning → Result T RingFault → Type 0
GivesTimes meaning a m f bound (Ok r) = meaning r ≡ a.ops.product m f
GivesTimes meaning a m f bound (Err fault) = OnFault ((b : Passing a) → IsBound a b m → ¬ a.ops.Fits (a.ops.product b.0 bound)) fault
