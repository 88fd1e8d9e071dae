-- A row whose entries have neither a whole number above 1 nor a form of the profile in common.
use Rattle.std.specs.Prelude.{ℕ, ◌<◌, ℤ, pos, List, length}
use Rattle.ring_laws.specs.Meaning.{Meaning}
use Rattle.poly_divide.specs.Forms.{linear}
use Rattle.whole_roots.specs.Differences.{polynomials}
use Rattle.whole_roots.specs.LinearFactors.{IsProfileForm}
use Rattle.kernel_laws.specs.Rows.{entry_at}
use Rattle.kernel_laws.specs.RowSteps.{HasQuotient}

-- t divides each entry
abbrev pub DividesEntries : Meaning → List Meaning → Type 0
DividesEntries t row = (k : ℕ) → k < length row → HasQuotient polynomials t (entry_at polynomials.ops row k)

-- neither a number above 1 nor a form of the profile divides each entry
pub record HasNothingCommon (row : List Meaning) : Type 0 where
  pub numbers : (c : ℕ) → 1 < c → ¬ (DividesEntries (polynomials.ops.whole (pos c)) row)
  pub forms : (u : ℕ) (v : ℤ) → IsProfileForm u v → ¬ (DividesEntries (linear (pos u) v) row)
