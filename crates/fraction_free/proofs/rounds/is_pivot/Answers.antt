use Rattle.std.proofs.Common.{refl, subst, arith}
use Rattle.std.proofs.lemmas.List.{drop_all}
use Rattle.kernel_laws.specs.Pivots.{IsPivotColumn}
use Rattle.fraction_free.specs.RoundAnswers.{pivots_meant}
use Rattle.fraction_free.proofs.PivotColumns.{among_at, among_later}
use Rattle.fraction_free.proofs.rounds.is_pivot.Goals as goal

pub returns-then-pivot-column : goal.returns-then-pivot-column
returns-then-pivot-column g c = record {
  test = (
    (λ h. among_at g.R.Ring.meaning c.args.pivots.now c.loop-pivot.pivot-index c.args.column c.pivot-item.result c.loop-pivot-test.true
        c.pivot-item.is (omega arith)),
    (λ h. refl),
  );
}

pub loop-pivot-preserved : goal.loop-pivot-preserved
loop-pivot-preserved g c =
    λ h. among_later g.R.Ring.meaning c.args.pivots.now c.loop-pivot.pivot-index c.args.column c.pivot-item.result c.loop-pivot-test.true
    c.pivot-item.is (λ e. omega arith) (c.loop-pivot.invariant h)

pub returns : goal.returns
returns g c = record {
  test = (
    (λ h. cc),
    (λ h. absurd (subst (λ v. IsPivotColumn c.args.column (pivots_meant g.R.Ring.meaning v))
        (drop_all c.loop-pivot.pivot-index c.args.pivots.now (omega (arith, c.loop-pivot-test.false))) (c.loop-pivot.invariant h))),
  );
}
