use Rattle.std.proofs.Common.{◌≡◌, map, take}
use Rattle.ring_laws.specs.Meaning.{number, listed}
use Rattle.poly_generic.specs.declared.polys.Poly.{Poly}
use Rattle.key_sides.proofs.form_polynomials.over_ring.Given as goal

-- the coefficients so far, over the ring
abbrev pub invariant-loop-coefficient : goal.invariant-loop-coefficient
invariant-loop-coefficient g l =
    map g.B.Ring.meaning l.list.items
    ≡ map g.B.FormRing.forms.of_n (map (λ (f : Poly _ _). listed (map (λ w. number w.value) f.list.items)) (take l.coefficient-index l.coefficients))
