-- Texts of fractions as known, and fractions that have none.
use Rattle.std.specs.Prelude.{◌≡◌, codes, pos, negsuc, refl, ◌^◌}
use Rattle.std.specs.Fmt.{digits}
use Rattle.std.proofs.Common.{arith}
use Rattle.std.proofs.lemmas.Int.{ints}
use Rattle.std.proofs.lemmas.Nat.Gcd.{dvd_refl, dvd_of_mod-eq-zero}
use Rattle.proper_term.specs.Fields.{number_fraction}
use Rattle.number_lines.specs.Fractions.{fractions, nonzero_fractions}

-- -3/2, 7 and 0
known_fraction : fractions.text (number_fraction (negsuc 2) (pos 2)) ≡ codes "-3/2"
unfolding digits
known_fraction = refl

known_whole : fractions.text (number_fraction (pos 7) (pos 1)) ≡ codes "7"
unfolding digits
known_whole = refl

known_zero : fractions.text (number_fraction (pos 0) (pos 1)) ≡ codes "0"
unfolding digits
known_zero = refl

-- 4/2 isn't in lowest terms, and 1/-2 and 1/0 have no positive denominator
not_lowest : ¬ fractions.Has (number_fraction (pos 4) (pos 2))
not_lowest has = omega (arith, has.1.coprime 2 (dvd_of_mod-eq-zero 2 refl) (dvd_refl 2))

not_positive : ¬ fractions.Has (number_fraction (pos 1) (negsuc 1))
not_positive has = omega (arith, ints, has.1.positive)

not_over_zero : ¬ fractions.Has (number_fraction (pos 1) (pos 0))
not_over_zero has = omega (arith, ints, has.1.positive)

-- 0 is a fraction, but not one other than 0
zero_is_none : ¬ nonzero_fractions.Has (number_fraction (pos 0) (pos 1))
zero_is_none has = has.not_zero refl

-- 2^127 is too large
too_large : ¬ fractions.Has (number_fraction (pos (2 ^ 127)) (pos 1))
too_large has = omega (arith, has.0.top)
