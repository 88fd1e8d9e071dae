use Rattle.std.proofs.Common.{◌≡◌, map, subst}
use Rattle.ring_laws.specs.Answer.{OnFault}
use Rattle.poly_laws.specs.Shift.{list_shift, ListShiftInBounds}
use Rattle.poly_generic.proofs.PolyAnswers.{fault_poly}
use Rattle.poly_generic.proofs.EvalAnswers.{shift_list_fault, shift_given}
use Rattle.poly_generic.proofs.polys.Poly.shifted.Goals as goal

-- the shift is out of bounds
pub returns-in_err-list : goal.returns-in_err-list
returns-in_err-list g c =
    let a = g.R.Ring.algebra in
    let M = g.R.Ring.meaning in
    record {
      gives =
          fault_poly _ _ _ c.from_residual-in_err-list.result c.in_err-list.field-0.0 c.from_residual-in_err-list.ensures.1
          (shift_list_fault a g.met.R.Ring.laws M g.met.R.Ring.passes g.met.R.Ring.fits c.in_ok-by.by
          (a.ops.whole c.args.by.value) c.args.self.now.list.items c.in_err-list.field-0.0 c.in_ok-by.ensures.gives
          (subst (λ t. OnFault (¬ (ListShiftInBounds a (M c.in_ok-by.by) (map M t))) c.in_err-list.field-0.0) c.deref.ensures.value
          c.in_err-list.ensures));
    }

-- the shift
pub returns : goal.returns
returns g c =
    let a = g.R.Ring.algebra in
    let M = g.R.Ring.meaning in
    let h = subst (λ t. ListShiftInBounds a (M c.in_ok-by.by) (map M t)
    × (map M c.in_ok-list.list.items ≡ list_shift a.ops (M c.in_ok-by.by) (map M t))) c.deref.ensures.value c.in_ok-list.ensures in
    record {
      gives =
          shift_given a g.met.R.Ring.laws M g.met.R.Ring.passes g.met.R.Ring.fits _ c.in_ok-by.by c.args.by.value c.args.self.now.list.items
          (map M c.in_ok-list.list.items) c.from_coefficients.result c.in_ok-by.ensures.gives c.args.self.now.short h.0 h.1
          c.from_coefficients.ensures.gives;
    }
