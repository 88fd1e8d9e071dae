use Rattle.std.proofs.Common.{◌≡◌, map, ap, sym, ◌∙◌, subst, IsFalse, ◌++◌}
use Rattle.std.specs.List.{AllByRecursion}
use Rattle.ring_laws.specs.Meaning.{listed}
use Rattle.ring_laws.specs.Answer.{OnFault}
use Rattle.poly_laws.specs.LongDivision.{DivisionInBounds}
use Rattle.poly_laws.specs.PolyAlgebra.{poly_algebra}
use Rattle.poly_laws.proofs.Belonging.{value_passes}
use Rattle.poly_generic.specs.declared.polys.Poly.{Poly}
use Rattle.division_laws.specs.Polynomials.{Polynomial}
use Rattle.hypergeometric.specs.LinearForm.{Factor}
use Rattle.hypergeometric.specs.FactorLists.{factor_with}
use Rattle.hypergeometric.specs.Products.{form_polynomial}
use Rattle.poly_laws.specs.Values.{level}
use Rattle.lin_form.specs.Forms.{form_of}
use Rattle.lin_form.specs.ListOf.{list_of}
use Rattle.key_equation.specs.Cancelling.{IsDividedOut}
use Rattle.key_equation.specs.Polynomials.{form_over}
use Rattle.key_equation.specs.Reckoning.{DividingInBounds}
use Rattle.key_equation.proofs.Dividing.{returned}
use Rattle.key_equation.proofs.Cancels.{begins, ends, absent, goes_on, cancelling_fault}
use Rattle.key_equation.proofs.NormalParts.{each_some, at_middle, form_over_some}
use Rattle.key_equation.proofs.poles.cancel_forms.Given.{Over}
use Rattle.key_equation.proofs.poles.cancel_forms.Goals as goal

-- a polynomial of the code as one of the ring
abbrev in_ring : (g : Over) → Poly g.row.B.Denot g.B.Ring → Polynomial g.B.Ring.algebra
in_ring g f = (listed (map g.B.Ring.meaning f.list.items), value_passes g.B.Ring.algebra g.B.Ring.meaning g.met.B.Ring.passes f.list.items f.ended)

pub loop-form-init : goal.loop-form-init
loop-form-init g c =
    let xs = (list_of c.args.poles.now).factors in
    record {
      scale = c.in_ok-left.ensures.scale ∙ c.scale.ensures.scale;
      reached = rw (c.into_iter-form-iterator.ensures.into_iter_gives ∙ c.iter-form-items.ensures.items)
          (begins (poly_algebra g.B.Ring.algebra) (form_over g.B.Ring.algebra g.B.FormRing.forms) xs (in_ring g c.args.y).0
          (list_of c.in_ok-left.left).factors c.in_ok-left.ensures.factors);
    }

pub divide_out-requires : goal.divide_out-requires
divide_out-requires g c =
    let a = g.B.Ring.algebra in
    let xs = list_of c.args.poles.now in
    let x : Factor = factor_with (form_of c.in-Some.form) c.in-Some.power in
    let reached = c.loop-form.invariant.reached in
    let some : ¬ (form_polynomial x.form ≡ (level 2).ops.nought) =
    at_middle (λ z. ¬ (form_polynomial z.form ≡ (level 2).ops.nought)) reached.before c.next.new.self x
    (subst (λ l. AllByRecursion (λ (z : Factor). ¬ (form_polynomial z.form ≡ (level 2).ops.nought)) l)
    (reached.split ∙ ap (λ t. reached.before ++ t) c.in-Some.ensures.steps)
    (each_some xs c.args.poles.now.factors.each c.requires.some)) in
    record {
      not_zero = subst (λ m. IsFalse ((poly_algebra a).ops.is_nought m)) (sym c.in_ok-by.ensures.gives)
          (form_over_some a g.met.B.Ring.laws g.B.FormRing.forms g.met.B.FormRing.form_laws x.form some);
    }

pub returns-in_err-divided-clause-too_large : goal.returns-in_err-divided-clause-too_large
returns-in_err-divided-clause-too_large g c =
    let a = g.B.Ring.algebra in
    let x : Factor = factor_with (form_of c.in-Some.form) c.in-Some.power in
    returned _ c.from_residual-in_err-divided.result c.in_err-divided.field-0.0 c.from_residual-in_err-divided.ensures.1
    (cancelling_fault (poly_algebra a) (form_over a g.B.FormRing.forms) (list_of c.args.poles.now).factors c.loop-form.form-iterator
    (in_ring g c.args.y).0 (in_ring g c.loop-form.rest).0 (list_of c.loop-form.left).factors x c.next.new.self c.in-Some.ensures.steps
    c.loop-form.invariant.reached (DivisionInBounds a g.B.Domain.division_in_bounds) c.in_err-divided.field-0.0
    (subst (λ m. OnFault (¬ DividingInBounds (poly_algebra a) (DivisionInBounds a g.B.Domain.division_in_bounds) m c.in-Some.power
    (in_ring g c.loop-form.rest).0) c.in_err-divided.field-0.0) c.in_ok-by.ensures.gives c.in_err-divided.ensures.too_large))

pub with_form-requires : goal.with_form-requires
with_form-requires g c =
    let a = g.B.Ring.algebra in
    let x : Factor = factor_with (form_of c.in-Some.form) c.in-Some.power in
    record {
      absent = absent (poly_algebra a) (form_over a g.B.FormRing.forms) (list_of c.args.poles.now).factors c.loop-form.form-iterator
          (in_ring g c.args.y).0 (in_ring g c.loop-form.rest).0 (list_of c.loop-form.left).factors x c.next.new.self c.in-Some.ensures.steps
          c.loop-form.invariant.reached c.args.poles.now.factors.distinct;
    }

pub loop-form-preserved : goal.loop-form-preserved
loop-form-preserved g c =
    let a = g.B.Ring.algebra in
    let x : Factor = factor_with (form_of c.in-Some.form) c.in-Some.power in
    record {
      scale = c.in_ok-left-2.ensures.scale ∙ c.loop-form.invariant.scale;
      reached = goes_on (poly_algebra a) (form_over a g.B.FormRing.forms) (list_of c.args.poles.now).factors c.loop-form.form-iterator
          (in_ring g c.args.y).0 (in_ring g c.loop-form.rest).0 (list_of c.loop-form.left).factors x c.next.new.self c.in-Some.ensures.steps
          c.loop-form.invariant.reached c.args.poles.now.factors.distinct (in_ring g c.in_ok-divided.divided.rest) c.in_ok-divided.divided.times
          (list_of c.in_ok-left-2.left).factors
          (subst (λ m. IsDividedOut (poly_algebra a) m c.in-Some.power (in_ring g c.loop-form.rest).0 (in_ring g c.in_ok-divided.divided.rest).0
          c.in_ok-divided.divided.times) c.in_ok-by.ensures.gives c.in_ok-divided.ensures.divided)
          c.in_ok-left-2.ensures.none c.in_ok-left-2.ensures.some;
    }

pub returns-clause-cancels : goal.returns-clause-cancels
returns-clause-cancels g c =
    ends (poly_algebra g.B.Ring.algebra) (form_over g.B.Ring.algebra g.B.FormRing.forms) (list_of c.args.poles.now).factors c.loop-form.form-iterator
    (in_ring g c.args.y).0 (in_ring g c.loop-form.rest).0 (list_of c.loop-form.left).factors c.in-None.ensures.steps.0
    c.loop-form.invariant.reached
