use Rattle.std.proofs.Common.{◌≡◌, map, take}
use Rattle.ring_laws.specs.Meaning.{items, listed}
use Rattle.poly_generic.specs.declared.polys.Poly.{Poly}
use Rattle.key_laws.specs.KeyRows.{row_at}
use Rattle.key_system.proofs.rows.row_at.Given as goal

-- the coefficients of the columns so far
abbrev pub invariant-loop-column : goal.invariant-loop-column
invariant-loop-column g l =
    map g.B.Ring.meaning l.row.items
    ≡ row_at g.B.Ring.algebra.ops (map items (map (λ (f : Poly _ _). listed (map g.B.Ring.meaning f.list.items)) (take l.column-index l.columns)))
    l.power
