-- A factorial to a power stands above or below.
use Rattle.std.proofs.Common.{◌≡◌, ◌≢◌, refl, arith}
use Rattle.std.proofs.lemmas.Int.{ints}
use Rattle.std.specs.Prelude.{ℤ, pos, negsuc, ◌<ℤ◌, unsigned_abs}
use Rattle.hypergeometric.specs.LinearForm.{LinearForm}
use Rattle.hypergeometric.specs.ProperTerm.{ProperTerm}
use Rattle.hypergeometric.specs.FactorLists as lists
use Rattle.term_classes.specs.Walk.{with_lists, few_factors, with_factorial}

-- a factorial to a positive power stands above, and one to another power below
pub above : (a : LinearForm) (w : ℤ) (f : ProperTerm) → pos 0 <ℤ w
    → with_factorial a w f ≡ few_factors (with_lists (lists.with_factor a (unsigned_abs w) f.up) f.down f.over f.guard f)
above a (pos w) f h = refl
above a (negsuc w) f h = absurd (omega (arith, ints, h))

pub below : (a : LinearForm) (w : ℤ) (f : ProperTerm) → w ≢ pos 0 → ¬ (pos 0 <ℤ w)
    → with_factorial a w f ≡ few_factors (with_lists f.up (lists.with_factor a (unsigned_abs w) f.down) f.over f.guard f)
below a (pos w) f n h = absurd (n (omega (arith, ints, h)))
below a (negsuc w) f n h = refl
