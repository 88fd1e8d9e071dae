-- What a call of a fraction answers.
use Rattle.std.specs.Prelude.{◌≡◌, ◌↔◌, Bool, IsTrue, Result, Ok, Err}
use Rattle.ring_laws.specs.Meaning.{Meaning}
use Rattle.ring_laws.specs.Algebra.{Algebra}
use Rattle.ring_laws.specs.Answer.{OnFault}
use Rattle.ring_laws.specs.declared.faults.RingFault.{RingFault}
use Rattle.poly_fraction.specs.Fractions.{RingFraction}

-- this fraction where the operation is in bounds, `TooLarge` where it isn't, or no memory
abbrev pub GivesFraction : {T : Type 0} → (T → RingFraction) → Type 0 → RingFraction → Result T RingFault → Type 0
GivesFraction fraction InBounds f (Ok r) = InBounds × (fraction r ≡ f)
GivesFraction fraction InBounds f (Err fault) = OnFault (¬ InBounds) fault

-- this fraction, or no memory
abbrev pub MakesFraction : {T : Type 0} → (T → RingFraction) → RingFraction → Result T RingFault → Type 0
MakesFraction fraction f (Ok r) = fraction r ≡ f
MakesFraction fraction f (Err fault) = OnFault ⊥ fault

-- whether P holds, where the operation is in bounds, `TooLarge` where it isn't, or no memory
abbrev pub TellsInBounds : Type 0 → Type 0 → Result Bool RingFault → Type 0
TellsInBounds InBounds P (Ok b) = InBounds × (IsTrue b ↔ P)
TellsInBounds InBounds P (Err fault) = OnFault (¬ InBounds) fault

-- |x|*|y| + |z|*|w| fits: the counterpart on magnitudes of a sum and of a difference of two products
abbrev pub ProductsInBounds : Algebra → Meaning → Meaning → Meaning → Meaning → Type 0
ProductsInBounds a x y z w =
    a.ops.Fits (a.ops.sum (a.ops.product (a.ops.magnitude x) (a.ops.magnitude y)) (a.ops.product (a.ops.magnitude z) (a.ops.magnitude w)))
