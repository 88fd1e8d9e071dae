-- The sign of a whole number of any size.
use Rattle.std.specs.Prelude.{zero, suc, ℤ, pos, negsuc, [], ◌∷◌}
use Rattle.ring_laws.specs.Meaning.{Meaning}
use Rattle.ring_laws.specs.declared.wholes.Sign.{Sign}
use Rattle.ring_laws.specs.declared.wholes.Sign.TheVariants.{Negative, Zero, Positive}
use Rattle.poly_laws.specs.Values.{value_at}

-- whether a number is zero, positive or negative
abbrev pub sign_of : ℤ → Sign
sign_of (pos zero) = Zero
sign_of (pos (suc n)) = Positive
sign_of (negsuc n) = Negative

-- the value of a polynomial in one variable
abbrev pub value : Meaning → ℤ → ℤ
value f z = value_at (z ∷ []) f
