-- What steps that lead to others say of an answer.
use Rattle.std.proofs.Common.{◌≡◌, ◌∙◌}
use Rattle.std.specs.Prelude.{Result, Ok, Err}
use Rattle.steps.specs.Steps.{Steps, ◌then◌}
use Rattle.steps.specs.Answers.{Cause, Answers}
use Rattle.steps.specs.Leads.{Leads}
use Rattle.steps.proofs.StepLaws.{then_outcome}
use Rattle.steps.proofs.AnswerLaws.{later_cause}

-- what the first steps gave leads to what follows from it
pub leads : {P R A B : Type 0} (s : Steps P R A) (f : A → Steps P R B) (y : A) → s.outcome ≡ Ok y → Leads (s then f) (f y)
leads s f y e = record { outcome = then_outcome s f y e; cause = λ x h. later_cause s f y x e h }

pub leads_on : {P R A : Type 0} {whole middle rest : Steps P R A} → Leads whole middle → Leads middle rest → Leads whole rest
leads_on a b = record { outcome = a.outcome ∙ b.outcome; cause = λ x h. a.cause x (b.cause x h) }

-- an answer of the rest is one of the whole
pub leads_answer : {P R F T A : Type 0} {whole rest : Steps P R A} (says : F → Cause P R) (view : T → A) (result : Result T F) → Leads whole rest
    → Answers says view rest result → Answers says view whole result
leads_answer says view (Ok x) l h = l.outcome ∙ h
leads_answer says view (Err x) l h = l.cause (says x) h
