use Rattle.std.proofs.Common.{refl}
use Rattle.hypergeometric.specs.TermFacts.{IsWithinLimits}
use Rattle.lin_form.specs.ListOf.{list_of}
use Rattle.proper_term.proofs.ListItems.{all_from}
use Rattle.gosper_form.proofs.plain.are_within_limits.Goals as goal

-- one more form is within the limits
pub loop-form-preserved : goal.loop-form-preserved
loop-form-preserved c =
    all_from (λ x. IsWithinLimits x.form) (list_of c.args.list.now).factors _ _ _ c.in-Some.ensures.steps c.loop-form.invariant
    (c.if-not-is_within_limits.ensures.test.0 refl)
