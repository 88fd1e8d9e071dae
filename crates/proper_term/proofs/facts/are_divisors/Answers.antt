use Rattle.std.proofs.Common.{refl}
use Rattle.hypergeometric.specs.FormOrder.{IsPrimitive}
use Rattle.hypergeometric.specs.TermFacts.{IsNotConstant}
use Rattle.lin_form.specs.ListOf.{list_of}
use Rattle.proper_term.proofs.ListItems.{all_from}
use Rattle.proper_term.proofs.facts.are_divisors.Goals as goal

-- one more item is a divisor
pub loop-form-preserved : goal.loop-form-preserved
loop-form-preserved c =
    all_from (λ x. IsPrimitive x.form × IsNotConstant x.form) (list_of c.args.list.now).factors _ _ _ c.in-Some.ensures.steps c.loop-form.invariant
    (c.if-not-is_divisor.ensures.test.0 refl)
