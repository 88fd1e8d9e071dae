use Rattle.std.proofs.Common.{◌≡◌, ◌≤◌, ◌-◌, ◌*◌, ◌^◌, ◌+ℤ◌, ◌*ℤ◌, pos, unsigned_abs, length, drop, ap, sym, ◌∙◌, subst, arith, to_z, of_z}
use Rattle.std.specs.Int.{w128}
use Rattle.std.proofs.lemmas.Int.{to_z-of_z, fits_signed_from_abs}
use Rattle.ring_laws.specs.declared.wholes.Whole.{Whole}
use Rattle.poly_laws.specs.Values.{horner}
use Rattle.whole_roots.specs.Signs.{sign_of}
use Rattle.whole_roots.proofs.Values.{value_before}
use Rattle.whole_roots.proofs.Words.{sum_held, words_step, near_bound}
use Rattle.whole_roots.proofs.signs.sign_near.Goals as goal

-- the coefficient of the power comes in front, word by word
pub loop-power-preserved : goal.loop-power-preserved
loop-power-preserved c =
    let at = to_z w128 (of_z w128 c.args.at) in
    let item = c.value.result in
    let high = to_z w128 c.loop-power.high-bits in
    let low = to_z w128 c.loop-power.low-bits in
    let l = length c.args.list.now in
    let p = c.loop-power.power in
    let upper = near_bound c.words-above.result.0 c.times_near.result high (2 ^ 63) l p (omega arith) c.requires.short c.loop-power-test.true
    c.loop-power.invariant.within c.words-above.ensures.high c.times_near.ensures.bound c.loop-power.invariant.high_bound in
    let lower = near_bound c.words-above.result.1 c.times_near-in-loop-power.result low (2 ^ 64) l p (omega arith) c.requires.short c.loop-power-test.true
    c.loop-power.invariant.within (omega (arith, c.words-above.ensures.low)) c.times_near-in-loop-power.ensures.bound c.loop-power.invariant.low_bound in
    let above = sum_held c.words-above.result.0 c.times_near.result upper.0 upper.1.0 in
    let below = sum_held c.words-above.result.1 c.times_near-in-loop-power.result lower.0 lower.1.0 in
    let number : c.index-list-power.result.value ≡ c.words-above.result.0 *ℤ pos (2 ^ 64) +ℤ c.words-above.result.1 =
    sym c.value.ensures.value ∙ sym (to_z-of_z w128 item (fits_signed_from_abs w128 item c.value.ensures.small)) ∙ c.words-above.ensures.number in
    record {
      within = omega (arith, c.loop-power.invariant.within);
      words =
          value_before at c.args.list.now p c.index-list-power.result c.loop-power-test.true c.loop-power.invariant.within c.index-list-power.is
          ∙ words_step c.index-list-power.result.value at (horner (λ (w : Whole). w.value) at (drop p c.args.list.now))
          c.words-above.result.0 c.words-above.result.1 high low number c.loop-power.invariant.words
          ∙ (λ i. (c.words-above.result.0 +ℤ sym c.times_near.ensures.product i) *ℤ pos (2 ^ 64)
          +ℤ (c.words-above.result.1 +ℤ sym c.times_near-in-loop-power.ensures.product i))
          ∙ (λ i. sym above i *ℤ pos (2 ^ 64) +ℤ sym below i);
      high_bound = subst (λ z. unsigned_abs z ≤ (l - (p - 1)) * 2 ^ 63) (sym above) upper.1.1;
      low_bound = subst (λ z. unsigned_abs z ≤ (l - (p - 1)) * 2 ^ 64) (sym below) lower.1.1;
    }

-- no coefficient is left
pub returns : goal.returns
returns c =
    let none : c.loop-power.power ≡ 0 = omega (arith, c.loop-power-test.false) in
    record {
      sign =
          c.sign_of_words.ensures.sign
          ∙ ap sign_of (sym c.loop-power.invariant.words
          ∙ (λ i. horner (λ (w : Whole). w.value) (to_z-of_z w128 c.args.at c.ranges.at i) (drop (none i) c.args.list.now)));
    }
