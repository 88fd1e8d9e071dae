use Rattle.std.proofs.Common.{◌≡◌, map, take}
use Rattle.ring_laws.specs.Meaning.{listed}
use Rattle.poly_laws.specs.Values.{level}
use Rattle.poly_generic.specs.declared.polys.Poly.{Poly}
use Rattle.hypergeometric.specs.Products.{list_polynomial}
use Rattle.term_pieces.specs.Tops.{top_polynomial}
use Rattle.gosper_form.specs.PiecesOf.{pieces_held}
use Rattle.gosper_form.specs.NormalView.{normal_of}
use Rattle.key_sides.specs.Lifted.{lifted}
use Rattle.key_sides.proofs.order_sides.multiplied.Given as goal

-- g p_0, .., g p_(j-1)
abbrev pub invariant-loop-j : goal.invariant-loop-j
invariant-loop-j g l =
    map (λ (f : Poly _ _). listed (map g.B.Ring.meaning f.list.items)) l.sides.items
    ≡ map (λ top. lifted g.B.Ring.algebra g.B.FormRing.forms ((level 2).ops.product (list_polynomial (normal_of l.normal).g) (top_polynomial top)))
    (take l.j (pieces_held l.pieces).tops)
