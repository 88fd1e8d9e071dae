use Rattle.std.proofs.Common.{◌≡◌, arith, length, map, ap, sym, ◌∙◌}
use Rattle.spelled.specs.Monomials.{monomial_of}
use Rattle.polynomial_lines.specs.Letters.{letter_of}
use Rattle.polynomial_lines.proofs.PowerCuts.{one_less, exactly, cut_here}
use Rattle.polynomial_lines.proofs.polys.cut_at_power.Goals as goal
use Rattle.polynomial_lines.proofs.polys.cut_at_power.Goals.{then-loop-end-test+else-power_in-power, else-loop-end-test}

pub loop-end-preserved : goal.loop-end-preserved
loop-end-preserved c = record {
  within = omega (arith, c.loop-end.invariant.within);
  front = λ xs ys p q e.
      one_less (letter_of c.args.letter) c.args.power _ c.args.monomials.now xs ys p q e c.loop-end.end
      (c.loop-end.invariant.front xs ys p q e) c.loop-end.invariant.within (omega (arith, c.loop-end-test.true))
      (sym c.power_in.ensures.power ∙ c.if-power_in-power.true);
}

pub returns-clause-cut : goal.returns-clause-cut
returns-clause-cut c = λ xs ys p q e.
    let l = letter_of c.args.letter in
    let enough = c.loop-end.invariant.front xs ys p q e in
    let within = c.loop-end.invariant.within in
    let same : length xs ≡ c.loop-end.end =
    elim c.loop-end-test.branch [
      | then-loop-end-test+else-power_in-power w ↦ exactly l c.args.power _ c.args.monomials.now xs ys p q e c.loop-end.end enough within
          (omega (arith, w.loop-end-test.true)) (λ s. w.if-power_in-power.false (w.power_in.ensures.power ∙ s))
      | else-loop-end-test w ↦ omega (arith, enough, w.loop-end-test.false)
    ] in
    let parts = cut_here c.args.monomials.now xs ys e c.loop-end.end same in
    (ap (map monomial_of) c.split_at.ensures.front ∙ parts.0, ap (map monomial_of) c.split_at.ensures.back ∙ parts.1)
