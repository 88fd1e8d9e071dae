-- The meaning of a polynomial of the code.
use Rattle.std.proofs.Common.{map}
use Rattle.ring_laws.specs.Meaning.{Meaning, listed}
use Rattle.ring_laws.specs.declared.rings.Ring.{Ghosts as RingGhosts}
use Rattle.ring_laws.specs.declared.wholes.Whole.{Whole}
use Rattle.ring_laws.specs.contracts.wholes.WholeRing.TheImpl.{ghosts}
use Rattle.poly_generic.specs.declared.polys.Poly.{Poly}
use Rattle.proper_term.proofs.FieldPolynomials.{coefficient}

abbrev pub Polynomial : RingGhosts (Poly Whole ghosts) → Type 0
Polynomial ring = Poly (Poly Whole ghosts) ring

abbrev pub meaning_of : {ring : RingGhosts (Poly Whole ghosts)} → Polynomial ring → Meaning
meaning_of p = listed (map coefficient p.list.items)
