use Rattle.std.proofs.Common.{[], ◌∷◌, ◌++◌, subst, arith}
use Rattle.proper_term.proofs.NextArguments.{passed, found_first, found_lesser}
use Rattle.proper_term.specs.Cursors.{IsNext}
use Rattle.proper_term.proofs.arguments.nearer.Goals as goal

pub returns-then-number-from-clause-next : goal.returns-then-number-from-clause-next
returns-then-number-from-clause-next c = λ before x is h.
    passed before x c.args.from c.args.found (omega (arith, is, c.if-number-from.true)) h

pub returns-in-Some-clause-next : goal.returns-in-Some-clause-next
returns-in-Some-clause-next c = λ before x is h.
    found_lesser before x c.args.from c.args.found c.in-Some.nearest c.min.result c.in-Some.is (omega (arith, is, c.min.ensures))
    (omega (arith, is, c.if-number-from.false)) h

pub returns-in-None-clause-next : goal.returns-in-None-clause-next
returns-in-None-clause-next c = λ before x is h.
    subst (λ v. IsNext v c.args.from (before ++ x ∷ [])) is (found_first before x c.args.from c.args.found c.in-None.is (omega
    (arith, is, c.if-number-from.false)) h)
