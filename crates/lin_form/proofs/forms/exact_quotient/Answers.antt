use Rattle.std.specs.Int.{w64}
use Rattle.std.proofs.Common.{rules, FitsSigned}
use Rattle.lin_form.proofs.Quotients.{coded_quotient}
use Rattle.lin_form.proofs.forms.exact_quotient.Goals as goal

pub returns-clause-quotient : goal.returns-clause-quotient
returns-clause-quotient c =
    let f : FitsSigned w64 c.args.number = search rules in
    let g : FitsSigned w64 c.args.divisor = search rules in
    coded_quotient c.args.number c.args.divisor f g c.requires.small c.requires.divides
