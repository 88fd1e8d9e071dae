-- The sign of a number.
use Rattle.std.specs.Prelude.{zero, suc, ℤ, pos, negsuc}
use Rattle.ring_laws.specs.declared.wholes.Sign.{Sign}
use Rattle.ring_laws.specs.declared.wholes.Sign.TheVariants.{Negative, Zero, Positive}

-- the sign of a whole number
abbrev pub sign_of : ℤ → Sign
sign_of (pos zero) = Zero
sign_of (pos (suc n)) = Positive
sign_of (negsuc n) = Negative
