-- Lists of coefficients that are known to be some, and one that is none.
use Rattle.std.specs.Prelude.{◌^◌, pos, negsuc, [], ◌∷◌}
use Rattle.std.proofs.Common.{refl, arith, lit<}
use Rattle.ring_laws.specs.Meaning.{listed, number}
use Rattle.polynomial_lines.specs.Coefficients.{AreCoefficients}

-- those of n^2 - 3
known_in_n : AreCoefficients 0 (number (negsuc 2) ∷ number (pos 0) ∷ number (pos 1) ∷ [])
known_in_n = record { passes = refl; trimmed = refl; fits = (lit< tt, (lit< tt, (lit< tt, tt))) }

-- a 0 at the end, an item that isn't a number, and a number that is too large
known_untrimmed : ¬ AreCoefficients 0 (number (pos 1) ∷ number (pos 0) ∷ [])
known_untrimmed h = let e = h.trimmed in cc

known_list : ¬ AreCoefficients 0 (listed [] ∷ number (pos 1) ∷ [])
known_list h = let e = h.passes in cc

known_too_large : ¬ AreCoefficients 0 (number (pos (2 ^ 127)) ∷ [])
known_too_large h = omega (arith, h.fits.0)
