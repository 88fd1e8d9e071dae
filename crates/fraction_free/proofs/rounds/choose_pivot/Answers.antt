use Rattle.std.proofs.Common.{◌≡◌, length, arith}
use Rattle.std.proofs.lemmas.List.{length-map}
use Rattle.fraction_free.specs.RowAnswers.{rows_meant}
use Rattle.fraction_free.proofs.Choices.{picks}
use Rattle.fraction_free.proofs.rounds.choose_pivot.Goals as goal

pub returns : goal.returns
returns g c =
    let M = g.R.Ring.meaning in
    record {
      picks = picks g.R.Ring.algebra g.R.Reducing.reduction c.args.column (rows_meant M c.args.rows.now) c.loop-next.next c.loop-next.best
          (omega (arith, c.loop-next-test.false, c.loop-next.invariant.within, length-map c.args.rows.now (λ row. Rattle.std.proofs.Common.map M row.items)))
          c.loop-next.invariant.best;
    }
