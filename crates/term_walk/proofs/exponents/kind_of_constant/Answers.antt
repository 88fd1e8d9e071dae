use Rattle.std.proofs.Common.{◌≢◌, ◌≤◌, ap, sym, subst, w64, of_z}
use Rattle.std.specs.Prelude.{pos, unsigned_abs}
use Rattle.hypergeometric.proofs.FractionLaws.{product_not_zero}
use Rattle.term_walk.proofs.CappedCounts.{factor_small}
use Rattle.term_walk.proofs.HeldNumbers.{product_held}
use Rattle.term_walk.proofs.exponents.kind_of_constant.Goals as goal

-- the product is as small as it is asked to be
pub invariant_of-result : goal.invariant_of-result
invariant_of-result c =
    let held = product_held c.args.power.value c.args.constant c.args.power.small
    (factor_small c.args.power.value c.args.constant 12 c.args.power.some c.requires.small) c.requires.small in
    record {
      some = subst (λ z. z ≢ pos 0) (sym held) (product_not_zero c.args.power.value c.args.constant c.args.power.some
          (λ e. c.if-constant-eq0.false (ap (of_z w64) e)));
      small = subst (λ z. unsigned_abs z ≤ 12) (sym held) c.requires.small;
    }
