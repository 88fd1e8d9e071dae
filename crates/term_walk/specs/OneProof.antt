-- That a fraction is in lowest terms is proved in one way.
-- A lemma: it stands here, and not in proofs/, since a ghost field names it.
use Rattle.std.proofs.Props.{props}
use Rattle.poly_fraction.specs.Fractions.{RingFraction}
use Rattle.poly_fraction.specs.LowestTerms.{IsInLowestTerms}

-- any two proofs that a fraction is in lowest terms are equal
pub lowest_once : (f : RingFraction) → IsProp (IsInLowestTerms f)
lowest_once f = Prim.hlevel props
