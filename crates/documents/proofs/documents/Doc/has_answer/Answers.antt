use Rattle.std.proofs.Common.{refl, map, subst, sym}
use Rattle.std.specs.List.{AllByRecursion}
use Rattle.documents.specs.Answers.{IsAnswer}
use Rattle.documents.specs.Views.{claim_said}
use Rattle.documents.proofs.AnswerSteps.{all_at}
use Rattle.documents.proofs.documents.Doc.has_answer.Goals as goal

-- a claim is an answer
pub returns-then-is_answer : goal.returns-then-is_answer
returns-then-is_answer c =
    record {
      test = (
        λ t none. all_at (λ x. ¬ (IsAnswer x)) claim_said _ c.loop-claim.claim-index c.claim-item.result c.loop-claim-test.true c.claim-item.is
            (subst (λ xs. AllByRecursion (λ x. ¬ (IsAnswer x)) (map claim_said xs)) (sym c.deref-claim-items.ensures.value) none) (c.if-is_answer.ensures.test.0 refl),
        λ some. refl,
      );
    }
