-- Powers in a ring, and bounds of magnitudes that aren't zero: a product of such bounds only grows with each factor.
use Rattle.std.specs.Prelude.{◌≡◌, ℕ, zero, suc, cond}
use Rattle.ring_laws.specs.Meaning.{Meaning}
use Rattle.ring_laws.specs.Algebra.{Ops, Algebra, Passing}

-- x as often as the power says
abbrev pub power_in : {A : Type 0} → Ops A → A → ℕ → A
power_in o x zero = o.unit
power_in o x (suc n) = o.product x (power_in o x n)

-- the magnitude, and one for zero
abbrev pub nonzero_magnitude : {A : Type 0} → Ops A → A → A
nonzero_magnitude o x = cond (o.is_nought x) o.unit (o.magnitude x)

-- a magnitude, not zero, that is at least that of m
pub record IsBound (a : Algebra) (bound : Passing a) (m : Meaning) : Type 0 where
  pub covers : a.ops.Covers bound.0 (a.ops.magnitude m)
  pub magnitude : a.ops.magnitude bound.0 ≡ bound.0
  pub not_zero : ¬ (bound.0 ≡ a.ops.nought)
