-- What a product of whole numbers says of the sign of a factor.
use Rattle.std.specs.Prelude.{◌≡◌, ◌≢◌, zero, suc, ℤ, pos, negsuc, ◌*ℤ◌, ◌<ℤ◌, refl}
use Rattle.std.proofs.Common.{arith}
use Rattle.std.proofs.lemmas.Int.{ints}

-- a factor above 0 keeps the sign, one below 0 turns it, and neither makes a 0
pub same_sign : (e a : ℤ) → pos 0 <ℤ e → pos 0 <ℤ (e *ℤ a) → pos 0 <ℤ a
same_sign (pos zero) a p q = absurd (omega (arith, ints))
same_sign (pos (suc m)) (pos zero) p q = absurd (omega (arith, ints))
same_sign (pos (suc m)) (pos (suc n)) p q = omega (arith, ints)
same_sign (pos (suc m)) (negsuc n) p q = absurd (omega (arith, ints))
same_sign (negsuc m) a p q = absurd (omega (arith, ints))

pub turned_sign : (e a : ℤ) → e <ℤ pos 0 → (e *ℤ a) <ℤ pos 0 → pos 0 <ℤ a
turned_sign (pos m) a p q = absurd (omega (arith, ints))
turned_sign (negsuc m) (pos zero) p q = absurd (omega (arith, ints))
turned_sign (negsuc m) (pos (suc n)) p q = omega (arith, ints)
turned_sign (negsuc m) (negsuc n) p q = absurd (omega (arith, ints))

pub zero_of : (e a : ℤ) → e ≢ pos 0 → e *ℤ a ≡ pos 0 → a ≡ pos 0
zero_of (pos zero) a n q = absurd (n refl)
zero_of (pos (suc m)) (pos zero) n q = refl
zero_of (pos (suc m)) (pos (suc k)) n q = absurd (omega (arith, ints))
zero_of (pos (suc m)) (negsuc k) n q = absurd (omega (arith, ints))
zero_of (negsuc m) (pos zero) n q = refl
zero_of (negsuc m) (pos (suc k)) n q = absurd (omega (arith, ints))
zero_of (negsuc m) (negsuc k) n q = absurd (omega (arith, ints))
