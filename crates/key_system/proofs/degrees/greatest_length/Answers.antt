use Rattle.std.proofs.Common.{◌≡◌, ◌+◌, ◌∙◌, max, map, drop, length, ap, arith}
use Rattle.std.proofs.Math.ListN.{drop_of_length-le}
use Rattle.ring_laws.specs.Meaning.{Meaning, items, listed}
use Rattle.poly_generic.specs.declared.polys.Poly.{Poly}
use Rattle.key_system.proofs.BoundDegrees.{longest_of, as_long, one_longer}
use Rattle.key_system.proofs.degrees.greatest_length.Goals as goal

pub loop-polynomial-init : goal.loop-polynomial-init
loop-polynomial-init g c = record { greatest = omega arith; short = omega arith }

pub loop-polynomial-preserved : goal.loop-polynomial-preserved
loop-polynomial-preserved g c =
    let mean : Poly g.row.B.Denot g.B.Ring → Meaning = λ v. listed (map g.B.Ring.meaning v.list.items) in
    let long : length c.coefficients.result.now ≡ length (items (mean c.polynomial-item.result)) =
    as_long g.B.Ring.meaning c.coefficients.result.now (mean c.polynomial-item.result) c.coefficients.ensures.coefficients in
    let more = one_longer mean c.loop-polynomial.length c.args.polynomials.now c.loop-polynomial.polynomial-index c.polynomial-item.result
    c.loop-polynomial-test.true c.polynomial-item.is in
    record {
      greatest = ap (λ n. max n (longest_of mean (drop (c.loop-polynomial.polynomial-index + 1) c.args.polynomials.now)))
          (c.max-length.ensures ∙ ap (max c.loop-polynomial.length) long)
          ∙ more ∙ c.loop-polynomial.invariant.greatest;
      short = omega (arith, c.max-length.ensures, c.coefficients.ensures.short, c.loop-polynomial.invariant.short);
    }

pub returns-clause-greatest : goal.returns-clause-greatest
returns-clause-greatest g c =
    let mean : Poly g.row.B.Denot g.B.Ring → Meaning = λ v. listed (map g.B.Ring.meaning v.list.items) in
    let none : longest_of mean (drop c.loop-polynomial.polynomial-index c.args.polynomials.now) ≡ 0 =
    ap (longest_of mean) (drop_of_length-le c.args.polynomials.now c.loop-polynomial-test.false) in
    omega (arith, none, c.loop-polynomial.invariant.greatest)

pub returns-clause-short : goal.returns-clause-short
returns-clause-short g c = c.loop-polynomial.invariant.short
