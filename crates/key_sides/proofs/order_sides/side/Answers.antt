use Rattle.std.proofs.Common.{pos, map, ap, ◌∙◌, subst}
use Rattle.ring_laws.specs.Meaning.{listed}
use Rattle.poly_laws.specs.PolyAlgebra.{poly_algebra}
use Rattle.poly_generic.specs.PowerAnswer.{GivesTimes}
use Rattle.poly_generic.specs.declared.polys.Poly.{Poly}
use Rattle.lin_form.specs.ListOf.{list_of}
use Rattle.lin_form.proofs.ListProducts.{fault_list}
use Rattle.gosper_form.specs.PiecesOf.{top_of}
use Rattle.key_sides.specs.Lifted.{lifted}
use Rattle.key_sides.specs.Powers.{product_of, counterpart_of}
use Rattle.key_sides.specs.ListPowers.{list_powers, list_at_later_k}
use Rattle.key_sides.proofs.TopPasses.{top_passes}
use Rattle.key_sides.proofs.SideTimes.{after_g, g_fault, after_poly, poly_fault, side_answer}
use Rattle.key_sides.proofs.order_sides.side.Goals as goal

-- g is too large
pub returns-in_err-product-clause-too_large : goal.returns-in_err-product-clause-too_large
returns-in_err-product-clause-too_large g c =
    let mean = λ (f : Poly g.row.B.Denot g.B.Ring). listed (map g.B.Ring.meaning f.list.items) in
    fault_list _ c.from_residual-in_err-product.result c.in_err-product.field-0.0 c.from_residual-in_err-product.ensures.1
    (g_fault g.B.Ring.algebra g.met.B.Ring.laws g.B.FormRing.forms g.met.B.FormRing.form_laws (list_of c.args.g.now) (top_of c.args.top.now)
    (top_passes c.args.top.now) (mean c.in_ok-one.one) c.in_ok-one.ensures.gives c.in_err-product.field-0.0 c.in_err-product.ensures.gives)

-- with the polynomial of p_j
pub returns-in_err-product-2-clause-too_large : goal.returns-in_err-product-2-clause-too_large
returns-in_err-product-2-clause-too_large g c =
    let mean = λ (f : Poly g.row.B.Denot g.B.Ring). listed (map g.B.Ring.meaning f.list.items) in
    let reached = after_g g.B.Ring.algebra g.met.B.Ring.laws g.B.FormRing.forms g.met.B.FormRing.form_laws (list_of c.args.g.now)
    (top_of c.args.top.now) (top_passes c.args.top.now) (mean c.in_ok-one.one) c.in_ok-one.ensures.gives (mean c.in_ok-product.product)
    c.in_ok-product.ensures.gives in
    fault_list _ c.from_residual-in_err-product-2.result c.in_err-product-2.field-0.0 c.from_residual-in_err-product-2.ensures.1
    (poly_fault g.B.Ring.algebra g.met.B.Ring.laws g.B.FormRing.forms g.met.B.FormRing.form_laws (list_of c.args.g.now) (top_of c.args.top.now)
    (top_passes c.args.top.now) (mean c.in_ok-product.product) reached (mean c.in_ok-poly.poly) (c.in_ok-poly.ensures.gives ∙ ap (lifted g.B.Ring.algebra g.B.FormRing.forms) c.poly.ensures.poly)
    c.in_err-product-2.field-0.0 c.in_err-product-2.ensures.gives)

-- with all
pub returns : goal.returns
returns g c =
    let p = poly_algebra g.B.Ring.algebra in
    let mean = λ (f : Poly g.row.B.Denot g.B.Ring). listed (map g.B.Ring.meaning f.list.items) in
    let reached = after_g g.B.Ring.algebra g.met.B.Ring.laws g.B.FormRing.forms g.met.B.FormRing.form_laws (list_of c.args.g.now)
    (top_of c.args.top.now) (top_passes c.args.top.now) (mean c.in_ok-one.one) c.in_ok-one.ensures.gives (mean c.in_ok-product.product)
    c.in_ok-product.ensures.gives in
    let so_far = after_poly g.B.Ring.algebra g.met.B.Ring.laws g.B.FormRing.forms g.met.B.FormRing.form_laws (list_of c.args.g.now)
    (top_of c.args.top.now) (top_passes c.args.top.now) (mean c.in_ok-product.product) reached (mean c.in_ok-poly.poly)
    (c.in_ok-poly.ensures.gives ∙ ap (lifted g.B.Ring.algebra g.B.FormRing.forms) c.poly.ensures.poly) (mean c.in_ok-product-2.product) c.in_ok-product-2.ensures.gives in
    let given = side_answer g.B.Ring.algebra g.met.B.Ring.laws g.B.FormRing.forms g.met.B.FormRing.form_laws (list_of c.args.g.now)
    (top_of c.args.top.now) (top_passes c.args.top.now) (mean c.in_ok-product-2.product) so_far mean c.times_list-2.result
    (subst (λ t. GivesTimes mean p (mean c.in_ok-product-2.product)
    (product_of p.ops (list_powers g.B.Ring.algebra g.B.FormRing.forms (list_at_later_k t (pos 0))))
    (counterpart_of p.ops (list_powers g.B.Ring.algebra g.B.FormRing.forms (list_at_later_k t (pos 0)))) c.times_list-2.result)
    c.factors.ensures.factors c.times_list-2.ensures.gives) in
    record { polynomial = given.0; too_large = given.1 }
