use Rattle.std.specs.Prelude.{unsigned_abs}
use Rattle.reducing.proofs.RowContents.{divides_entry}
use Rattle.reducing.proofs.row_contents.quotients_by.Goals as goal

pub quotient_by-requires-clause-divides : goal.quotient_by-requires-clause-divides
quotient_by-requires-clause-divides c =
    divides_entry c.args.row.now c.loop-entry.entry-index c.entry-item.result (unsigned_abs c.args.divisor.value) c.loop-entry-test.true
    c.entry-item.is c.requires.divides
