-- The polynomials in n of the code, as meanings that belong to their ring.
use Rattle.std.proofs.Common.{◌≡◌, IsTrue, List, [], ◌∷◌, map, refl, ap}
use Rattle.ring_laws.specs.Meaning.{Meaning, number, listed}
use Rattle.ring_laws.specs.Wholes.{whole_algebra}
use Rattle.ring_laws.specs.declared.wholes.Whole.{Whole}
use Rattle.ring_laws.specs.contracts.wholes.WholeRing.TheImpl.{ghosts}
use Rattle.poly_laws.proofs.Belonging.{value_passes}
use Rattle.poly_generic.specs.declared.polys.Poly.{Poly}
use Rattle.whole_roots.specs.Differences.{polynomials}
use Rattle.reducing.specs.PolynomialRows.{Row, meant}

abbrev pub Zn : Type 0
Zn = Poly Whole ghosts

abbrev pub sense : Zn → Meaning
sense f = listed (map (λ w. number w.value) f.list.items)

pub sense_passes : (f : Zn) → IsTrue (polynomials.passes (sense f))
sense_passes f = value_passes whole_algebra (λ (w : Whole). number w.value) (λ w. refl) f.list.items f.ended

abbrev pub senses : List Zn → List Meaning
senses row = map sense row

-- the row as meanings that belong to the ring
abbrev pub row_of : List Zn → Row
row_of row = map (λ f. (sense f, sense_passes f)) row

pub row_meant : (row : List Zn) → senses row ≡ meant (row_of row)
row_meant [] = refl
row_meant (f ∷ fs) = ap (λ t. sense f ∷ t) (row_meant fs)
