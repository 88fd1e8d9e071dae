use Rattle.fraction_free.proofs.Crossing.{fault_value, left_not, right_not, difference}
use Rattle.fraction_free.proofs.rows.cross_entries.Goals as goal

pub returns-in_err-left : goal.returns-in_err-left
returns-in_err-left g c =
    let M = g.R.Ring.meaning in
    let P = g.met.R.Ring.passes in
    record {
      gives = fault_value M _ _ c.from_residual.result c.in_err-left.field-0.0 c.from_residual.ensures.1
          (left_not g.R.Ring.algebra g.met.R.Ring.laws (M c.args.p.now, P c.args.p.now) (M c.args.x.now, P c.args.x.now)
          (M c.args.e.now, P c.args.e.now) (M c.args.y.now, P c.args.y.now) c.in_err-left.field-0.0 c.in_err-left.ensures.gives);
    }

pub returns-in_err-right : goal.returns-in_err-right
returns-in_err-right g c =
    let M = g.R.Ring.meaning in
    let P = g.met.R.Ring.passes in
    record {
      gives = fault_value M _ _ c.from_residual-in_err-right.result c.in_err-right.field-0.0 c.from_residual-in_err-right.ensures.1
          (right_not g.R.Ring.algebra g.met.R.Ring.laws (M c.args.p.now, P c.args.p.now) (M c.args.x.now, P c.args.x.now)
          (M c.args.e.now, P c.args.e.now) (M c.args.y.now, P c.args.y.now) c.in_err-right.field-0.0 c.in_err-right.ensures.gives);
    }

pub returns : goal.returns
returns g c =
    let M = g.R.Ring.meaning in
    let P = g.met.R.Ring.passes in
    record {
      gives = difference g.R.Ring.algebra g.met.R.Ring.laws (M c.args.p.now, P c.args.p.now) (M c.args.x.now, P c.args.x.now)
          (M c.args.e.now, P c.args.e.now) (M c.args.y.now, P c.args.y.now) M c.in_ok-left.left c.in_ok-right.right c.sub.result
          c.in_ok-left.ensures.gives.1 c.in_ok-right.ensures.gives.1 c.sub.ensures.gives;
    }
