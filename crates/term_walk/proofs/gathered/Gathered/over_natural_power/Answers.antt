use Rattle.std.proofs.Common.{map, sym}
use Rattle.ring_laws.specs.Meaning.{listed}
use Rattle.lin_form.specs.Forms.{form_of}
use Rattle.proper_term.proofs.FieldPolynomials.{coefficient, polynomial_kept}
use Rattle.term_walk.specs.Views.{gathered_of, wide_form_of}
use Rattle.term_walk.proofs.OverPolynomials.{varying_some, linear_answer}
use Rattle.term_walk.proofs.gathered.Gathered.over_natural_power.Goals as goal

-- the form of a polynomial that is no number isn't 0
pub with_denominator-requires-clause-not_zero : goal.with_denominator-requires-clause-not_zero
with_denominator-requires-clause-not_zero c =
    varying_some (listed (map coefficient c.args.polynomial.list.items)) (wide_form_of c.in-Some.form) (form_of c.in_ok-form.form)
    (record {
      belongs = (polynomial_kept c.args.polynomial.list.items c.args.polynomial.ended c.args.polynomial.short).passes;
      no_number = c.requires.no_number;
    }) c.in-Some.ensures.form c.in_ok-form.ensures.answers

pub returns : goal.returns
returns c = record {
  answers = linear_answer c.args.at (listed (map coefficient c.args.polynomial.list.items))
      (gathered_of c.args.self) gathered_of c.with_denominator.result c.args.power
      (wide_form_of c.in-Some.form) (form_of c.in_ok-form.form) c.requires.some (sym c.in-Some.ensures.form) c.in_ok-form.ensures.answers
      c.with_denominator.ensures.answers;
}
