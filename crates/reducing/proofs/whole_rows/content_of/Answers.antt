use Rattle.std.proofs.Common.{◌≡◌, ◌+◌, ◌-◌, unsigned_abs, map, drop, arith, subst}
use Rattle.poly_divide.specs.Content.{IsContent}
use Rattle.reducing.proofs.Divisors.{content_before}
use Rattle.reducing.proofs.whole_rows.content_of.Goals as goal

-- one number more in front
pub loop-at-preserved : goal.loop-at-preserved
loop-at-preserved c =
    let n : c.loop-at.at ≡ c.loop-at.at - 1 + 1 = omega (arith, c.loop-at-test.true) in
    let sizes = map (λ number. unsigned_abs number.value) c.args.row.now in
    record {
      within = omega (arith, c.loop-at.invariant.within);
      made =
          content_before (λ number. unsigned_abs number.value) c.args.row.now (c.loop-at.at - 1) c.index-row-at.result
          (unsigned_abs c.loop-at.content.value) (unsigned_abs c.common_divisor-content.result.value)
          (omega (arith, c.loop-at.invariant.within, c.loop-at-test.true)) c.index-row-at.is
          (subst (λ k. IsContent (drop k (map (λ number. unsigned_abs number.value) c.args.row.now)) (unsigned_abs c.loop-at.content.value)) n
          c.loop-at.invariant.made)
          c.common_divisor-content.ensures.greatest;
      sign = c.common_divisor-content.ensures.sign;
    }
