use Rattle.std.proofs.Common.{◌≡◌, map, ap, ◌∙◌, subst}
use Rattle.ring_laws.specs.Answer.{OnFault}
use Rattle.poly_laws.specs.Evaluation.{list_value, ValueInBounds}
use Rattle.poly_generic.proofs.PolyAnswers.{fault_poly}
use Rattle.poly_generic.proofs.EvalAnswers.{eval_bound_fault, eval_fault, eval_given}
use Rattle.poly_generic.proofs.polys.Poly.eval.Goals as goal

-- the value of the magnitudes doesn't fit
pub returns-in_err-_bound : goal.returns-in_err-_bound
returns-in_err-_bound g c =
    let a = g.R.Ring.algebra in
    let M = g.R.Ring.meaning in
    let sizes : map g.R.Ring.meaning c.in_ok-sizes.sizes.items
    ≡ map g.R.Ring.algebra.ops.magnitude (map g.R.Ring.meaning c.args.self.now.list.items) =
    c.in_ok-sizes.ensures ∙ ap (λ t. map a.ops.magnitude (map M t)) c.deref.ensures.value in
    record {
      gives =
          fault_poly _ _ _ c.from_residual-in_err-_bound.result c.in_err-_bound.field-0.0 c.from_residual-in_err-_bound.ensures.1
          (eval_bound_fault a g.met.R.Ring.laws M g.met.R.Ring.passes g.met.R.Ring.fits c.args.at.now c.args.self.now.list.items (M c.in_ok-size.size)
          (map M c.in_ok-sizes.sizes.items) c.in_err-_bound.field-0.0 c.in_ok-size.ensures.gives sizes
          (subst (λ t. OnFault (¬
          (ValueInBounds a (M c.in_ok-size.size) (map M t))) c.in_err-_bound.field-0.0) c.deref-2.ensures.value c.in_err-_bound.ensures));
    }

-- a step doesn't fit, so the value of the magnitudes doesn't
pub returns-in_err-value : goal.returns-in_err-value
returns-in_err-value g c =
    let a = g.R.Ring.algebra in
    let M = g.R.Ring.meaning in
    record {
      gives =
          fault_poly _ _ _ c.from_residual-in_err-value.result c.in_err-value.field-0.0 c.from_residual-in_err-value.ensures.1
          (eval_fault a g.met.R.Ring.laws M g.met.R.Ring.passes g.met.R.Ring.fits c.args.at.now c.args.self.now.list.items c.in_err-value.field-0.0
          (subst (λ t. OnFault (¬
          (ValueInBounds a (M c.args.at.now) (map M t))) c.in_err-value.field-0.0) c.deref-3.ensures.value c.in_err-value.ensures));
    }

-- the value, where that of the magnitudes is a value too
pub returns : goal.returns
returns g c =
    let a = g.R.Ring.algebra in
    let M = g.R.Ring.meaning in
    let sizes : map g.R.Ring.meaning c.in_ok-sizes.sizes.items
    ≡ map g.R.Ring.algebra.ops.magnitude (map g.R.Ring.meaning c.args.self.now.list.items) =
    c.in_ok-sizes.ensures ∙ ap (λ t. map a.ops.magnitude (map M t)) c.deref.ensures.value in
    record {
      gives =
          eval_given a g.met.R.Ring.laws M g.met.R.Ring.passes g.met.R.Ring.fits c.args.at.now c.args.self.now.list.items (M c.in_ok-size.size)
          (map M c.in_ok-sizes.sizes.items) c.in_ok-_bound._bound c.in_ok-value.value c.in_ok-size.ensures.gives sizes
          (c.in_ok-_bound.ensures ∙ ap (λ t. list_value a.ops (M c.in_ok-size.size) (map M t)) c.deref-2.ensures.value)
          (c.in_ok-value.ensures ∙ ap (λ t. list_value a.ops (M c.args.at.now) (map M t)) c.deref-3.ensures.value);
    }
