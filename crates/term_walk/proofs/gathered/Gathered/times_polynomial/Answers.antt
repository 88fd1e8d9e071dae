use Rattle.std.proofs.Common.{◌≡◌, map, subst}
use Rattle.std.specs.Prelude.{pos, neg_ℤ, unsigned_abs}
use Rattle.ring_laws.specs.Meaning.{listed}
use Rattle.proper_term.proofs.FieldPolynomials.{coefficient}
use Rattle.term_classes.specs.Walk.{times_polynomial}
use Rattle.steps.specs.Answers.{Answers}
use Rattle.steps.specs.TermFaults.{term_cause}
use Rattle.term_walk.specs.Views.{gathered_of}
use Rattle.term_walk.proofs.CodePowers.{is_positive, is_not_positive, size_is, positive_is, negative_is}
use Rattle.term_walk.proofs.gathered.Gathered.times_polynomial.Goals as goal

pub returns-then-power-gt0 : goal.returns-then-power-gt0
returns-then-power-gt0 c =
    let same : c.unsigned_abs-count.result ≡ unsigned_abs c.args.power = size_is c.args.power _ c.ranges.power c.unsigned_abs-count.ensures.value in
    record {
      answers = subst (λ w. Answers term_cause gathered_of (times_polynomial c.args.at (listed (map coefficient c.args.polynomial.list.items)) w
          (gathered_of c.args.self)) c.times_natural_power.result)
          (positive_is c.args.power c.unsigned_abs-count.result (is_positive c.args.power c.ranges.power c.if-power-gt0.true) same)
          c.times_natural_power.ensures.answers;
    }

pub returns-else-power-gt0 : goal.returns-else-power-gt0
returns-else-power-gt0 c =
    let same : c.unsigned_abs-count.result ≡ unsigned_abs c.args.power = size_is c.args.power _ c.ranges.power c.unsigned_abs-count.ensures.value in
    record {
      answers = subst (λ w. Answers term_cause gathered_of (times_polynomial c.args.at (listed (map coefficient c.args.polynomial.list.items)) w
          (gathered_of c.args.self)) c.over_natural_power.result)
          (negative_is c.args.power c.unsigned_abs-count.result (is_not_positive c.args.power c.ranges.power c.if-power-gt0.false) same)
          c.over_natural_power.ensures.answers;
    }
