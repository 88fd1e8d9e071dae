use Rattle.std.proofs.Common.{map, sym, subst}
use Rattle.std.specs.Prelude.{pos}
use Rattle.ring_laws.specs.Meaning.{listed}
use Rattle.proper_term.proofs.FieldPolynomials.{coefficient, polynomial_kept}
use Rattle.term_classes.specs.Walk.{times_polynomial}
use Rattle.steps.specs.Answers.{HasCause}
use Rattle.steps.specs.TermFaults.{term_cause}
use Rattle.term_walk.specs.Views.{gathered_of}
use Rattle.term_walk.proofs.PolynomialPowers.{power_made, power_not_zero, power_fault}
use Rattle.term_walk.proofs.gathered.Gathered.times_natural_power.Goals as goal

pub invariant_of-result : goal.invariant_of-result
invariant_of-result c = record {
  not_zero = power_not_zero (gathered_of c.args.self).poly (listed (map coefficient c.args.polynomial.list.items))
      (listed (map coefficient c.in-Ok.poly.list.items)) c.args.power
      (polynomial_kept c.args.self.poly.list.items c.args.self.poly.ended c.args.self.poly.short).passes c.args.self.not_zero
      (record {
        belongs = (polynomial_kept c.args.polynomial.list.items c.args.polynomial.ended c.args.polynomial.short).passes;
        no_number = c.requires.no_number;
      }) c.in-Ok.ensures.gives;
  lowest = c.args.self.lowest;
}

pub returns-in-Err : goal.returns-in-Err
returns-in-Err c = record {
  answers = subst (λ fault. HasCause (times_polynomial c.args.at (listed (map coefficient c.args.polynomial.list.items)) (pos c.args.power)
      (gathered_of c.args.self)) (term_cause fault))
      (sym c.fault_at.ensures.fault) (power_fault c.args.at (listed (map coefficient c.args.polynomial.list.items)) c.args.power
      (gathered_of c.args.self)
      (polynomial_kept c.args.self.poly.list.items c.args.self.poly.ended c.args.self.poly.short).passes c.args.self.not_zero c.in-Err.fault
      c.in-Err.ensures.gives);
}

pub returns-in-Ok : goal.returns-in-Ok
returns-in-Ok c = record {
  answers = power_made c.args.at (listed (map coefficient c.args.polynomial.list.items)) c.args.power (gathered_of c.args.self)
      (listed (map coefficient c.in-Ok.poly.list.items)) c.in-Ok.ensures.gives;
}
