use Rattle.reducing.proofs.Polynomials.{sense}
use Rattle.reducing.proofs.PlainParts.{core_alone}
use Rattle.reducing.proofs.polynomial_rows.ZnReducing.core.Goals as goal

pub returns : goal.returns
returns c = record { core = core_alone (sense c.args.self.now) c.core_of.result c.core_of.ensures.core }
