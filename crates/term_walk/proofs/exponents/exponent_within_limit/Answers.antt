use Rattle.std.proofs.Common.{◌≡◌, ap, sym, ◌∙◌, arith}
use Rattle.std.specs.Prelude.{◌*ℤ◌, unsigned_abs, Ok}
use Rattle.steps.proofs.StepLaws.{limit_kept}
use Rattle.steps.specs.declared.limits.LimitName.TheVariants.{Exponent}
use Rattle.term_walk.proofs.CappedCounts.{counted_is, count_passed, count_kept, factor_small}
use Rattle.term_walk.proofs.HeldNumbers.{held, cast_fits, cast_held}
use Rattle.term_walk.proofs.exponents.exponent_within_limit.Goals as goal

-- above the limit
pub returns-then-counted-greatest_count : goal.returns-then-counted-greatest_count
returns-then-counted-greatest_count c =
    let magnitude = rw (held c.args.power c.requires.small) at c.unsigned_abs.ensures.value in
    let count = counted_is c.args.power c.args.constant.value _ _ c.saturating_mul-counted.result c.requires.not_zero
    c.capped_magnitude.ensures.count magnitude c.saturating_mul-counted.ensures in
    let limit : c.greatest_count.result ≡ 12 = c.greatest_count.ensures.greatest in
    record {
      answers = count_passed c.args.power c.args.constant.value c.saturating_mul-counted.result count
          (omega (arith, limit, c.if-counted-greatest_count.true));
    }

-- within it, the constant is small too
pub overflow_cast-result : goal.overflow_cast-result
overflow_cast-result c =
    let magnitude = rw (held c.args.power c.requires.small) at c.unsigned_abs.ensures.value in
    let count = counted_is c.args.power c.args.constant.value _ _ c.saturating_mul-counted.result c.requires.not_zero
    c.capped_magnitude.ensures.count magnitude c.saturating_mul-counted.ensures in
    let limit : c.greatest_count.result ≡ 12 = c.greatest_count.ensures.greatest in
    let kept = count_kept c.args.power c.args.constant.value c.saturating_mul-counted.result count
    (omega (arith, limit, c.if-counted-greatest_count.false)) in
    cast_fits c.args.constant.value c.value.result c.value.ensures.value (factor_small c.args.power c.args.constant.value 12 c.requires.not_zero kept)

pub returns : goal.returns
returns c =
    let magnitude = rw (held c.args.power c.requires.small) at c.unsigned_abs.ensures.value in
    let count = counted_is c.args.power c.args.constant.value _ _ c.saturating_mul-counted.result c.requires.not_zero
    c.capped_magnitude.ensures.count magnitude c.saturating_mul-counted.ensures in
    let limit : c.greatest_count.result ≡ 12 = c.greatest_count.ensures.greatest in
    let kept = count_kept c.args.power c.args.constant.value c.saturating_mul-counted.result count
    (omega (arith, limit, c.if-counted-greatest_count.false)) in
    let small = factor_small c.args.power c.args.constant.value 12 c.requires.not_zero kept in
    record {
      answers = limit_kept Exponent (unsigned_abs (c.args.power *ℤ c.args.constant.value)) c.args.constant.value kept
          ∙ ap Ok (sym (cast_held c.args.constant.value c.value.result c.value.ensures.value small));
    }
