use Rattle.reducing.proofs.WholeRows.{core_alone}
use Rattle.reducing.proofs.whole_rows.WholeReducing.core.Goals as goal

pub returns-clause-core : goal.returns-clause-core
returns-clause-core c = core_alone c.args.self.now.value c.one.result c.one.ensures.gives
