-- What a ring without divisors of zero is, and what its exact division answers.
use Rattle.std.specs.Prelude.{◌≡◌, ℤ, pos, ◌⊎◌, Option, Some, None, Result, Ok, Err}
use Rattle.ring_laws.specs.Meaning.{Meaning}
use Rattle.ring_laws.specs.Algebra.{Algebra, Passing}
use Rattle.ring_laws.specs.Answer.{OnFault}
use Rattle.ring_laws.specs.declared.faults.RingFault.{RingFault}

-- what each domain proves
pub record DomainLaws (a : Algebra) : Type 0 where
  -- a product is nought only where a factor is
  pub no_divisors : (x y : Passing a) → a.ops.product x.0 y.0 ≡ a.ops.nought → (x.0 ≡ a.ops.nought) ⊎ (y.0 ≡ a.ops.nought)
  -- a whole number is nought in the ring only where it is 0
  pub whole_nought : (w : ℤ) → a.ops.whole w ≡ a.ops.nought → w ≡ pos 0

-- the quotient, or none where no meaning of the ring is one; `TooLarge` only where the division is not in bounds
abbrev pub Divides : {T : Type 0} → (T → Meaning) → Algebra → Type 0 → Meaning → Meaning → Result (Option T) RingFault → Type 0
Divides meaning a InBounds x y (Ok (Some quotient)) = a.ops.product (meaning quotient) y ≡ x
Divides meaning a InBounds x y (Ok None) = (quotient : Passing a) → ¬ (a.ops.product quotient.0 y ≡ x)
Divides meaning a InBounds x y (Err fault) = OnFault (¬ InBounds) fault

-- c*y is x, for a whole number c
abbrev pub IsTimes : Algebra → ℤ → Meaning → Meaning → Type 0
IsTimes a c y x = a.ops.product (a.ops.whole c) y ≡ x
