use Rattle.std.proofs.Common.{◌*◌, pos, neg_ℤ, ap, sym, ◌∙◌, unsigned_abs, arith}
use mathlib.Core.Bool.{beq}
use lib.Signed.{lt_z}
use Rattle.std.specs.Int.{w128}
use Rattle.std.proofs.lemmas.Int.{ints, to_z-of_z}
use Rattle.whole_roots.proofs.Clamping.{turned_sum, opposite_product}
use Rattle.whole_roots.proofs.signs.clamped_step.Goals as goal

-- with the opposite sign, from the sum with the opposite coefficient
pub returns-else-at-held-2 : goal.returns-else-at-held-2
returns-else-at-held-2 c = record {
  clamped =
      turned_sum c.args.coefficient _ _ c.clamped_sum-else-at-held-2.result _ c.in-Some.size c.clamped_sum-else-at-held-2.ensures.clamped
      (grind (arith, ints, to_z-of_z, c.requires.coefficient, c.ranges.coefficient))
      (grind (arith, ints, to_z-of_z, c.clamped_sum-else-at-held-2.type_inv))
      (opposite_product c.args.at c.args.held
      ((λ i. beq (lt_z (sym (to_z-of_z w128 c.args.at c.ranges.at) i) (pos 0)) (lt_z (sym (to_z-of_z w128 c.args.held c.ranges.held) i) (pos 0)))
      ∙ c.if-at-held-2.false)
      ∙ ap (λ n. neg_ℤ (pos n))
      ((λ i. unsigned_abs (sym (to_z-of_z w128 c.args.at c.ranges.at) i) * unsigned_abs (sym (to_z-of_z w128 c.args.held c.ranges.held) i))
      ∙ (λ i. sym c.unsigned_abs.ensures.value i * sym c.unsigned_abs-2.ensures.value i) ∙ sym c.in-Some.ensures.1));
}
