use Rattle.std.proofs.Common.{◌<◌, length, subst, arith}
use Rattle.whole_roots.specs.Differences.{polynomials}
use Rattle.poly_generic.proofs.ListLemmas.{at_item}
use Rattle.reducing.specs.PolynomialAnswers.{LeastOf}
use Rattle.reducing.proofs.Polynomials.{sense, senses}
use Rattle.reducing.proofs.LeastEntries.{refused, least_zero, least_next, least_stays}
use Rattle.reducing.proofs.least_entries.lesser.Goals as goal

pub returns-then-is_zero : goal.returns-then-is_zero
returns-then-is_zero c = record {
  least =
      least_zero (senses c.args.row.now) c.args.next c.args.least (sense c.index-row-next.result)
      (at_item polynomials.ops sense c.args.row.now c.args.next c.index-row-next.result c.requires.within c.index-row-next.is)
      (c.is_zero.ensures.test.0 c.if-is_zero.true) c.requires.least;
}

pub returns-then-degree_of : goal.returns-then-degree_of
returns-then-degree_of c =
    let row = c.args.row.now in
    let least = subst (λ o. LeastOf (senses row) c.args.next o) c.in-Some.is c.requires.least in
    let inside : c.in-Some.place < length row = omega (arith, least.within, c.requires.within) in
    record {
      least =
          least_next (senses row) c.args.next c.in-Some.place c.degree_of.result c.degree_of-in-Some.result (sense c.index-row-next.result)
          (sense c.index-row-place.result)
          (at_item polynomials.ops sense row c.args.next c.index-row-next.result c.requires.within c.index-row-next.is)
          (at_item polynomials.ops sense row c.in-Some.place c.index-row-place.result inside c.index-row-place.is)
          (refused c.is_zero.result c.if-is_zero.false c.is_zero.ensures.test.1) c.degree_of.ensures.degree c.degree_of-in-Some.ensures.degree
          (omega (arith, c.if-degree_of.true)) least;
    }

pub returns-else-degree_of : goal.returns-else-degree_of
returns-else-degree_of c =
    let row = c.args.row.now in
    let least = subst (λ o. LeastOf (senses row) c.args.next o) c.in-Some.is c.requires.least in
    let inside : c.in-Some.place < length row = omega (arith, least.within, c.requires.within) in
    record {
      least =
          least_stays (senses row) c.args.next c.in-Some.place c.degree_of.result c.degree_of-in-Some.result (sense c.index-row-next.result)
          (sense c.index-row-place.result)
          (at_item polynomials.ops sense row c.args.next c.index-row-next.result c.requires.within c.index-row-next.is)
          (at_item polynomials.ops sense row c.in-Some.place c.index-row-place.result inside c.index-row-place.is)
          c.degree_of.ensures.degree c.degree_of-in-Some.ensures.degree (omega (arith, c.if-degree_of.false)) least;
    }
