use Rattle.std.specs.List.{AllByRecursion}
use Rattle.std.proofs.Common.{map, take}
use Rattle.documents.specs.Answers.{IsAnswer}
use Rattle.documents.specs.Views.{claim_said}
use Rattle.documents.proofs.documents.Doc.has_answer.Given as goal

-- no claim so far is an answer
abbrev pub invariant-loop-claim : goal.invariant-loop-claim
invariant-loop-claim l = AllByRecursion (λ c. ¬ (IsAnswer c)) (map claim_said (take l.claim-index l.claim-items))
