use Rattle.ekhad_cli.proofs.Quotients.{IsDividedTo}
use Rattle.ekhad_cli.proofs.antidifference.divide_all.Given as goal

abbrev pub invariant-loop-number : goal.invariant-loop-number
invariant-loop-number l = IsDividedTo l.fn.divisor l.fn.numbers l.numbers l.number-index
