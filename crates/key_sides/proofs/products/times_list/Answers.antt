use Rattle.std.proofs.Common.{map, ap, sym, subst, ◌∙◌}
use Rattle.ring_laws.specs.Meaning.{listed}
use Rattle.poly_laws.specs.PolyAlgebra.{poly_algebra}
use Rattle.poly_laws.proofs.Belonging.{value_passes}
use Rattle.poly_generic.specs.declared.polys.Poly.{Poly}
use Rattle.division_laws.specs.Polynomials.{Polynomial}
use Rattle.lin_form.specs.ListOf.{list_of}
use Rattle.key_sides.specs.Places.{shift_of}
use Rattle.key_sides.proofs.ListTimes.{Reached, times_scale, scale_fault, times_next, next_fault, times_fault, times_all}
use Rattle.key_sides.proofs.products.times_list.Goals as goal

pub loop-form-init : goal.loop-form-init
loop-form-init g c =
    let mean = λ (f : Poly g.row.B.Denot g.B.Ring). listed (map g.B.Ring.meaning f.list.items) in
    let a = g.B.Ring.algebra in
    let m0 : Polynomial a = (mean c.args.product, value_passes a g.B.Ring.meaning g.met.B.Ring.passes c.args.product.list.items c.args.product.ended) in
    subst (Reached a g.met.B.Ring.laws g.B.FormRing.forms g.met.B.FormRing.form_laws (shift_of c.args.place) (list_of c.args.list.now) m0 _)
    (sym (c.into_iter-form-iterator.ensures.into_iter_gives ∙ c.iter-form-items.ensures.items))
    (times_scale a g.met.B.Ring.laws g.B.FormRing.forms g.met.B.FormRing.form_laws (shift_of c.args.place) (list_of c.args.list.now) m0
    (mean c.in_ok-scale.scale) _ (c.in_ok-scale.ensures.gives ∙ ap (poly_algebra a).ops.whole c.scale.ensures.scale) c.in_ok-product.ensures.gives)

-- the number is too large
pub returns-in_err-product : goal.returns-in_err-product
returns-in_err-product g c = record {
  gives =
      let mean = λ (f : Poly g.row.B.Denot g.B.Ring). listed (map g.B.Ring.meaning f.list.items) in
      let a = g.B.Ring.algebra in
      let m0 : Polynomial a = (mean c.args.product, value_passes a g.B.Ring.meaning g.met.B.Ring.passes c.args.product.list.items c.args.product.ended) in
      times_fault a g.met.B.Ring.laws g.B.FormRing.forms g.met.B.FormRing.form_laws (shift_of c.args.place) (list_of c.args.list.now) m0
      mean c.from_residual-in_err-product.result c.in_err-product.field-0.0 c.from_residual-in_err-product.ensures.1
      (scale_fault a g.met.B.Ring.laws g.B.FormRing.forms g.met.B.FormRing.form_laws (shift_of c.args.place) (list_of c.args.list.now) m0
      (mean c.in_ok-scale.scale) c.in_err-product.field-0.0 (c.in_ok-scale.ensures.gives ∙ ap (poly_algebra a).ops.whole c.scale.ensures.scale) c.in_err-product.ensures.gives);
}

-- a form is
pub returns-in_err-product-2 : goal.returns-in_err-product-2
returns-in_err-product-2 g c = record {
  gives =
      let mean = λ (f : Poly g.row.B.Denot g.B.Ring). listed (map g.B.Ring.meaning f.list.items) in
      let a = g.B.Ring.algebra in
      let m0 : Polynomial a = (mean c.args.product, value_passes a g.B.Ring.meaning g.met.B.Ring.passes c.args.product.list.items c.args.product.ended) in
      times_fault a g.met.B.Ring.laws g.B.FormRing.forms g.met.B.FormRing.form_laws (shift_of c.args.place) (list_of c.args.list.now) m0
      mean c.from_residual-in_err-product-2.result c.in_err-product-2.field-0.0
      c.from_residual-in_err-product-2.ensures.1
      (next_fault a g.met.B.Ring.laws g.B.FormRing.forms g.met.B.FormRing.form_laws (shift_of c.args.place) (list_of c.args.list.now) m0
      _ _ _ _ c.in-Some.ensures.steps c.loop-form.invariant c.in_err-product-2.field-0.0 c.in_err-product-2.ensures.gives);
}

pub loop-form-preserved : goal.loop-form-preserved
loop-form-preserved g c =
    let mean = λ (f : Poly g.row.B.Denot g.B.Ring). listed (map g.B.Ring.meaning f.list.items) in
    let a = g.B.Ring.algebra in
    let m0 : Polynomial a = (mean c.args.product, value_passes a g.B.Ring.meaning g.met.B.Ring.passes c.args.product.list.items c.args.product.ended) in
    times_next a g.met.B.Ring.laws g.B.FormRing.forms g.met.B.FormRing.form_laws (shift_of c.args.place) (list_of c.args.list.now) m0
    _ _ _ _ c.in-Some.ensures.steps c.loop-form.invariant _ c.in_ok-product-2.ensures.gives

pub returns : goal.returns
returns g c = record {
  gives =
      let mean = λ (f : Poly g.row.B.Denot g.B.Ring). listed (map g.B.Ring.meaning f.list.items) in
      let a = g.B.Ring.algebra in
      let m0 : Polynomial a = (mean c.args.product, value_passes a g.B.Ring.meaning g.met.B.Ring.passes c.args.product.list.items c.args.product.ended) in
      times_all a g.met.B.Ring.laws g.B.FormRing.forms g.met.B.FormRing.form_laws (shift_of c.args.place) (list_of c.args.list.now) m0
      _ _ c.in-None.ensures.steps.0 c.loop-form.invariant;
}
