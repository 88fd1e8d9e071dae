use Rattle.std.proofs.Common.{◌≡◌, ◌++◌, map, take}
use Rattle.ring_laws.specs.Meaning.{listed}
use Rattle.poly_laws.specs.PolyAlgebra.{poly_ops}
use Rattle.poly_generic.specs.declared.polys.Poly.{Poly}
use Rattle.key_system.proofs.columns.with_sides.Given as goal

-- the columns, and the negatives of the sides so far
abbrev pub invariant-loop-side : goal.invariant-loop-side
invariant-loop-side g l =
    map (λ (f : Poly _ _). listed (map g.B.Ring.meaning f.list.items)) l.columns.items
    ≡ map (λ (f : Poly _ _). listed (map g.B.Ring.meaning f.list.items)) l.fn.columns.items
    ++ map (poly_ops g.B.Ring.algebra.ops).neg (map (λ (f : Poly _ _). listed (map g.B.Ring.meaning f.list.items)) (take l.side-index l.sides))
