use Rattle.std.proofs.Common.{map, subst, w64}
use Rattle.std.proofs.lemmas.Int.{to_z-of_z}
use Rattle.ring_laws.specs.Meaning.{listed}
use Rattle.proper_term.proofs.FieldPolynomials.{coefficient}
use Rattle.term_classes.specs.Walk.{times_number, times_polynomial}
use Rattle.steps.specs.Answers.{Answers}
use Rattle.steps.specs.TermFaults.{term_cause}
use Rattle.term_walk.specs.Views.{gathered_of}
use Rattle.term_walk.proofs.FindingPowers.{finding_number, finding_polynomial}
use Rattle.term_walk.proofs.gathered.Gathered.times_found.Goals as goal

pub returns-in-Some-constant_of : goal.returns-in-Some-constant_of
returns-in-Some-constant_of c = record {
  answers = finding_number _ gathered_of c.times_number.result c.args.at c.args.power (gathered_of c.args.self) c.args.polynomial c.in-Some.polynomial
      c.in-Some.is c.in-Some-constant_of.number.value c.in-Some-constant_of.ensures.constant
      (subst (λ w. Answers term_cause gathered_of (times_number c.args.at c.in-Some-constant_of.number.value w
      (gathered_of c.args.self)) c.times_number.result)
      (to_z-of_z w64 c.args.power c.ranges.power) c.times_number.ensures.answers);
}

pub returns-in-None : goal.returns-in-None
returns-in-None c = record {
  answers = finding_polynomial _ gathered_of c.times_polynomial.result c.args.at c.args.power
      (gathered_of c.args.self) c.args.polynomial c.in-Some.polynomial
      c.in-Some.is c.in-None.ensures.constant
      (subst (λ w. Answers term_cause gathered_of (times_polynomial c.args.at (listed (map coefficient c.in-Some.polynomial.list.items)) w
      (gathered_of c.args.self))
      c.times_polynomial.result) (to_z-of_z w64 c.args.power c.ranges.power) c.times_polynomial.ensures.answers);
}
