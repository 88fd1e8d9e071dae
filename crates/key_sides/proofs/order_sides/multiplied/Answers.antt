use Rattle.std.proofs.Common.{Vec, Global, ◌≡◌, ◌+◌, map, ap, ◌∙◌, subst, sym, arith}
use Rattle.ring_laws.specs.Meaning.{Meaning, listed}
use Rattle.ring_laws.specs.Answer.{fault_weaker}
use Rattle.poly_laws.specs.PolyAlgebra.{poly_algebra}
use Rattle.poly_laws.specs.Values.{level}
use Rattle.poly_generic.specs.declared.polys.Poly.{Poly}
use Rattle.hypergeometric.specs.Products.{list_polynomial}
use Rattle.term_pieces.specs.Pieces.{Top}
use Rattle.term_pieces.specs.Tops.{top_polynomial}
use Rattle.lin_form.proofs.ListProducts.{fault_list}
use Rattle.gosper_form.specs.PiecesOf.{pieces_held}
use Rattle.gosper_form.specs.NormalView.{normal_of}
use Rattle.key_sides.specs.Lifted.{lifted}
use Rattle.key_sides.specs.Powers.{PowersInBounds}
use Rattle.key_sides.specs.ListPowers.{side_powers}
use Rattle.key_sides.proofs.SideLists.{sides_more, sides_all, all_at}
use Rattle.key_sides.proofs.order_sides.multiplied.Goals as goal
use Rattle.key_sides.proofs.order_sides.multiplied.Goals.{else-loop-j-test, then-loop-j-test+in-Some+in_ok-side+in_ok-push+else-j-j-end}

pub loop-j-init : goal.loop-j-init
loop-j-init g c = ap (map (λ (f : Poly g.row.B.Denot g.B.Ring). listed (map g.B.Ring.meaning f.list.items))) c.new-sides.ensures.items

-- a side is too large
pub returns-in_err-side-clause-too_large : goal.returns-in_err-side-clause-too_large
returns-in_err-side-clause-too_large g c =
    let a = g.B.Ring.algebra in
    let forms = g.B.FormRing.forms in
    let normal = normal_of c.args.normal.now in
    fault_list _ c.from_residual.result c.in_err-side.field-0.0 c.from_residual.ensures.1
    (fault_weaker c.in_err-side.field-0.0
    (λ out all. out (subst (PowersInBounds (poly_algebra a)) (sym (λ i. side_powers a forms (c.g.ensures.g i) (c.in-Some.ensures.top.1 i)))
    (all_at (λ top. PowersInBounds (poly_algebra a) (side_powers a forms normal.g top)) (pieces_held c.args.pieces.now).tops c.loop-j.j
    c.in-Some.ensures.top.0 all)))
    c.in_err-side.ensures.too_large)

-- one side more
pub loop-j-preserved : goal.loop-j-preserved
loop-j-preserved g c =
    let mean : Poly g.row.B.Denot g.B.Ring → Meaning = λ f. listed (map g.B.Ring.meaning f.list.items) in
    let normal = normal_of c.args.normal.now in
    let side : Top → Meaning = λ top.
    lifted g.B.Ring.algebra g.B.FormRing.forms ((level 2).ops.product (list_polynomial normal.g) (top_polynomial top)) in
    sides_more side mean (pieces_held c.args.pieces.now).tops c.loop-j.sides.items c.push.new.self.items c.in_ok-side.field-0 c.loop-j.j
    c.in_ok-push.ensures.items c.in-Some.ensures.top.0
    (c.in_ok-side.ensures.polynomial ∙ (λ i. lifted g.B.Ring.algebra g.B.FormRing.forms ((level 2).ops.product (list_polynomial (c.g.ensures.g i))
    (top_polynomial (c.in-Some.ensures.top.1 i))))) c.loop-j.invariant

pub returns : goal.returns
returns g c =
    let mean : Poly g.row.B.Denot g.B.Ring → Meaning = λ f. listed (map g.B.Ring.meaning f.list.items) in
    let normal = normal_of c.args.normal.now in
    let tops = (pieces_held c.args.pieces.now).tops in
    let side : Top → Meaning = λ top.
    lifted g.B.Ring.algebra g.B.FormRing.forms ((level 2).ops.product (list_polynomial normal.g) (top_polynomial top)) in
    let all : map mean c.loop-j-test.sides.items ≡ map side tops =
    elim c.loop-j-test.branch [
      | else-loop-j-test w ↦ ap (λ (v : Vec (Poly g.row.B.Denot g.B.Ring) Global). map mean v.items) w.sides-is
          ∙ sides_all side mean tops c.loop-j.sides.items c.loop-j.j (omega (arith, w.loop-j-test.false, c.order-j-end.ensures.order)) c.loop-j.invariant
      | then-loop-j-test+in-Some+in_ok-side+in_ok-push+else-j-j-end w ↦ ap (λ (v : Vec (Poly g.row.B.Denot g.B.Ring) Global). map mean v.items) w.sides-is
          ∙ sides_all side mean tops w.push.new.self.items (c.loop-j.j + 1) (omega (arith, w.if-j-j-end.false, c.order-j-end.ensures.order))
          (sides_more side mean tops c.loop-j.sides.items w.push.new.self.items w.in_ok-side.field-0 c.loop-j.j w.in_ok-push.ensures.items
          w.in-Some.ensures.top.0
          (w.in_ok-side.ensures.polynomial ∙ (λ i. lifted g.B.Ring.algebra g.B.FormRing.forms ((level 2).ops.product (list_polynomial (w.g.ensures.g i))
          (top_polynomial (w.in-Some.ensures.top.1 i))))) c.loop-j.invariant)
    ] in
    record { sides = all; too_large = tt }
