-- What two products of forms have in common up to a shift in k, as Gosper's normal form takes it from both.
use Rattle.std.specs.Prelude.{ℕ}
use Rattle.hypergeometric.specs.LinearForm.{LinearForm}

-- a form of q0, and the shift h at which the form at k - h is taken from r0 with it, each to a power
pub record Match : Type 0 where
  pub form : LinearForm
  pub shift : ℕ
  pub power : ℕ
