use Rattle.std.proofs.Common.{map, ◌∙◌, arith}
use Rattle.std.proofs.lemmas.List.{length-map, take_all}
use Rattle.poly_generic.proofs.AnswerLemmas.{fault_list, push_made}
use Rattle.kernel_laws.specs.RowSteps.{crossed}
use Rattle.kernel_laws.proofs.Crossed.{length-crossed}
use Rattle.fraction_free.proofs.RowLemmas.{crossed_not, crossed_item}
use Rattle.fraction_free.proofs.rows.cross_rows.Goals as goal

pub returns-in_err-entry : goal.returns-in_err-entry
returns-in_err-entry g c =
    let M = g.R.Ring.meaning in
    record {
      gives = fault_list g.R.Ring.algebra M _ _ c.from_residual.result c.in_err-entry.field-0.0 c.from_residual.ensures.1
          (crossed_not g.R.Ring.algebra M (M c.args.p.now) (M c.args.e.now) c.args.row.now c.args.pivot.now c.loop-column.column
          c.index-row-column.result c.index-pivot-column.result c.in_err-entry.field-0.0 c.loop-column-test.true
          (omega (arith, c.requires.same_length, c.loop-column-test.true)) c.index-row-column.is c.index-pivot-column.is c.in_err-entry.ensures.gives);
    }

pub loop-column-preserved : goal.loop-column-preserved
loop-column-preserved g c =
    let M = g.R.Ring.meaning in
    let o = g.R.Ring.algebra.ops in
    let zs = crossed o (M c.args.p.now) (map M c.args.row.now) (M c.args.e.now) (map M c.args.pivot.now) in
    push_made g.R.Ring.algebra M zs c.loop-column.out.items c.push.new.self.items c.in_ok-entry.entry c.loop-column.column o.nought
    c.in_ok-push.ensures.items c.loop-column.invariant
    (crossed_item g.R.Ring.algebra M (M c.args.p.now) (M c.args.e.now) c.args.row.now c.args.pivot.now c.loop-column.column
    c.index-row-column.result c.index-pivot-column.result (M c.in_ok-entry.entry) c.loop-column-test.true
    (omega (arith, c.requires.same_length, c.loop-column-test.true)) c.index-row-column.is c.index-pivot-column.is c.in_ok-entry.ensures.gives)
    (omega (
      arith,
      c.requires.same_length,
      c.loop-column-test.true,
      length-map c.args.row.now M,
      length-map c.args.pivot.now M,
      length-crossed o (M c.args.p.now) (map M c.args.row.now) (M c.args.e.now) (map M c.args.pivot.now),
    ))

pub returns : goal.returns
returns g c =
    let M = g.R.Ring.meaning in
    let o = g.R.Ring.algebra.ops in
    let zs = crossed o (M c.args.p.now) (map M c.args.row.now) (M c.args.e.now) (map M c.args.pivot.now) in
    record {
      gives = c.loop-column.invariant ∙ take_all c.loop-column.column zs
          (omega (
            arith,
            c.requires.same_length,
            c.loop-column-test.false,
            length-map c.args.row.now M,
            length-map c.args.pivot.now M,
            length-crossed o (M c.args.p.now) (map M c.args.row.now) (M c.args.e.now) (map M c.args.pivot.now),
          ));
    }
