-- What contracts see of a reader or a writer of std that counts its faults.
use Rattle.std.specs.Prelude.{ℕ}

-- the reader or writer itself, and how many calls failed
pub record StdState (Inner : Type 0) : Type 0 where
  pub inner : Inner
  pub faults : ℕ
