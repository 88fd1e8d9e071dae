use Rattle.ring_laws.proofs.Quotients.{divides_given}
use Rattle.ring_laws.proofs.wholes.WholeDomain.divide_exact.Goals as goal

pub returns-clause-divides : goal.returns-clause-divides
returns-clause-divides c = divides_given c.args.self.now.value c.args.by.now.value c.exact_quotient.result c.exact_quotient.ensures.quotient
