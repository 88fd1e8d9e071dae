-- What it means that a term has a value: it is defined exactly where the value is, and there they are equal.
use Rattle.std.specs.Prelude.{◌↔◌}
use Rattle.hypergeometric.specs.Point.{Point}
use Rattle.hypergeometric.specs.Fraction.{Fraction, IsDefined, ◌≈◌}
use Rattle.hypergeometric.specs.ProperTerm.{ProperTerm, IsDefinedAt, proper_value}

-- at all whole n and k
pub record HasValue (f : ProperTerm) (value : Point → Fraction) : Type 0 where
  pub defined : (p : Point) → IsDefinedAt f p ↔ IsDefined (value p)
  pub equal : (p : Point) → IsDefinedAt f p → proper_value f p ≈ value p
