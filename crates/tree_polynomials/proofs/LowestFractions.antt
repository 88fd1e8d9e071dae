-- Lowest terms of the code are those of the definition.
use Rattle.std.proofs.Common.{◌≡◌, ap}
use Rattle.std.specs.Prelude.{pos, ◌≢◌}
use Rattle.ring_laws.specs.Wholes.{number_of, whole_algebra}
use Rattle.poly_fraction.specs.Fractions.{RingFraction, AreSame}
use Rattle.poly_fraction.specs.LowestTerms.{IsInLowestTerms}
use Rattle.hypergeometric.specs.Divisors.{lowest_terms}
use Rattle.hypergeometric.proofs.OnlyLowest.{only_lowest}
use Rattle.proper_term.specs.Fields.{number_fraction_of}

pub lowest_is : (f g : RingFraction) → number_of f.bottom ≢ pos 0 → AreSame whole_algebra.ops g f → IsInLowestTerms g
    → number_fraction_of g ≡ lowest_terms (number_fraction_of f)
lowest_is f g d same lowest =
    only_lowest (number_fraction_of f) (number_fraction_of g) d (record { positive = lowest.positive; coprime = lowest.coprime }) (ap number_of same)
