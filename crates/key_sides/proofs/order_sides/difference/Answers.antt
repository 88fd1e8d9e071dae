use Rattle.std.proofs.Common.{IsTrue, map, ◌∙◌, subst}
use Rattle.ring_laws.specs.Meaning.{listed}
use Rattle.ring_laws.specs.Answer.{OnFault}
use Rattle.poly_laws.specs.PolyAlgebra.{poly_algebra}
use Rattle.poly_laws.specs.Values.{level}
use Rattle.poly_generic.specs.declared.polys.Poly.{Poly}
use Rattle.hypergeometric.specs.Products.{list_polynomial}
use Rattle.term_pieces.specs.Pieces.{Top, top_at}
use Rattle.term_pieces.specs.Tops.{top_polynomial}
use Rattle.lin_form.proofs.ListProducts.{fault_list}
use Rattle.gosper_form.specs.PiecesOf.{pieces_held}
use Rattle.gosper_form.specs.NormalView.{normal_of}
use Rattle.key_sides.specs.Lifted.{lifted}
use Rattle.key_sides.specs.Powers.{PowersInBounds}
use Rattle.key_sides.specs.ListPowers.{side_powers}
use Rattle.key_sides.proofs.TopPasses.{top_passes}
use Rattle.key_sides.proofs.PairSides.{first_fault, second_fault, pair_answer}
use Rattle.key_sides.proofs.order_sides.difference.Goals as goal

-- g p_1 is too large
pub returns-in_err-later-clause-too_large : goal.returns-in_err-later-clause-too_large
returns-in_err-later-clause-too_large g c =
    let a = g.B.Ring.algebra in
    let forms = g.B.FormRing.forms in
    let pieces = pieces_held c.args.pieces.now in
    let later = c.in-Some-Some.ensures'.top.1 in
    let sooner = c.in-Some-Some.ensures.top.1 in
    fault_list _ c.from_residual.result c.in_err-later.field-0.0 c.from_residual.ensures.1
    (first_fault a g.met.B.Ring.laws forms g.met.B.FormRing.form_laws (normal_of c.args.normal.now).g (top_at pieces 1) (top_at pieces 0)
    (subst (λ (t : Top). IsTrue ((level 2).passes t.poly)) later (top_passes c.in-Some-Some.second.now))
    (subst (λ (t : Top). IsTrue ((level 2).passes t.poly)) sooner (top_passes c.in-Some-Some.first.now)) c.in_err-later.field-0.0
    (subst (λ out. OnFault out c.in_err-later.field-0.0) (λ i. ¬ PowersInBounds (poly_algebra a) (side_powers a forms (c.g.ensures.g i) (later i)))
    c.in_err-later.ensures.too_large))

-- g p_0 is
pub returns-in_err-sooner-clause-too_large : goal.returns-in_err-sooner-clause-too_large
returns-in_err-sooner-clause-too_large g c =
    let a = g.B.Ring.algebra in
    let forms = g.B.FormRing.forms in
    let pieces = pieces_held c.args.pieces.now in
    let later = c.in-Some-Some.ensures'.top.1 in
    let sooner = c.in-Some-Some.ensures.top.1 in
    fault_list _ c.from_residual-in_err-sooner.result c.in_err-sooner.field-0.0 c.from_residual-in_err-sooner.ensures.1
    (second_fault a g.met.B.Ring.laws forms g.met.B.FormRing.form_laws (normal_of c.args.normal.now).g (top_at pieces 1) (top_at pieces 0)
    (subst (λ (t : Top). IsTrue ((level 2).passes t.poly)) later (top_passes c.in-Some-Some.second.now))
    (subst (λ (t : Top). IsTrue ((level 2).passes t.poly)) sooner (top_passes c.in-Some-Some.first.now)) c.in_err-sooner.field-0.0
    (subst (λ out. OnFault out c.in_err-sooner.field-0.0) (λ i. ¬ PowersInBounds (poly_algebra a) (side_powers a forms (c.g-2.ensures.g i) (sooner i)))
    c.in_err-sooner.ensures.too_large))

pub returns : goal.returns
returns g c =
    let mean = λ (f : Poly g.row.B.Denot g.B.Ring). listed (map g.B.Ring.meaning f.list.items) in
    let a = g.B.Ring.algebra in
    let forms = g.B.FormRing.forms in
    let pieces = pieces_held c.args.pieces.now in
    let later = c.in-Some-Some.ensures'.top.1 in
    let sooner = c.in-Some-Some.ensures.top.1 in
    let given = pair_answer a g.met.B.Ring.laws forms g.met.B.FormRing.form_laws (normal_of c.args.normal.now).g (top_at pieces 1) (top_at pieces 0)
    (subst (λ (t : Top). IsTrue ((level 2).passes t.poly)) later (top_passes c.in-Some-Some.second.now))
    (subst (λ (t : Top). IsTrue ((level 2).passes t.poly)) sooner (top_passes c.in-Some-Some.first.now)) mean c.sub.result (mean c.in_ok-later.later)
    (mean c.in_ok-sooner.sooner)
    (c.in_ok-later.ensures.polynomial
    ∙ (λ i. lifted a forms ((level 2).ops.product (list_polynomial (c.g.ensures.g i)) (top_polynomial (later i)))))
    (c.in_ok-sooner.ensures.polynomial
    ∙ (λ i. lifted a forms ((level 2).ops.product (list_polynomial (c.g-2.ensures.g i)) (top_polynomial (sooner i))))) c.sub.ensures.gives in
    record { polynomial = given.0; too_large = given.1 }
