use Rattle.std.proofs.Common.{ap, sym, ◌∙◌, arith, w64}
use Rattle.std.proofs.lemmas.Int.{ints, to_z-of_z}
use Rattle.std.specs.Prelude.{ℤ}
use Rattle.hypergeometric.specs.NaturalRange.{first_with_slope}
use Rattle.lin_form.specs.ListOf.{list_of}
use Rattle.proper_term.proofs.ListItems.{first_here, first_later}
use Rattle.proper_term.proofs.range.first_with.Goals as goal

-- the item here has the slope
pub returns-then-k_slope-slope : goal.returns-then-k_slope-slope
returns-then-k_slope-slope c =
    let kept = to_z-of_z w64 c.args.slope c.ranges.slope in
    let xs = (list_of c.args.list.now).factors in
    record {
      first = ap (λ (s : ℤ). first_with_slope s xs) (sym kept) ∙ sym c.loop-form.invariant
          ∙ ap (λ (s : ℤ). first_with_slope s c.loop-form.form-iterator) kept
          ∙ first_here c.args.slope _ _ _ c.in-Some.ensures.steps
          (omega (arith, ints));
    }

-- the item here has another slope
pub loop-form-preserved : goal.loop-form-preserved
loop-form-preserved c =
    let kept = to_z-of_z w64 c.args.slope c.ranges.slope in
    let xs = (list_of c.args.list.now).factors in
    ap (λ (s : ℤ). first_with_slope s c.next.new.self) kept
    ∙ first_later c.args.slope _ _ _ c.in-Some.ensures.steps
    (λ e. omega (arith, ints, e))
    ∙ ap (λ (s : ℤ). first_with_slope s c.loop-form.form-iterator) (sym kept)
    ∙ c.loop-form.invariant
