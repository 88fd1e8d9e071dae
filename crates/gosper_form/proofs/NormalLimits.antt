-- When the limit on shifts is passed: the tests after each match.
use Rattle.std.proofs.Common.{◌≡◌, ℕ, ◌+◌, ◌≤◌, ◌<◌, List, [], ◌∷◌, ◌++◌, refl, ap, ◌∙◌, arith}
use Rattle.std.specs.Prelude.{Result, Ok, Err}
use Rattle.hypergeometric.specs.Match.{Match}
use Rattle.term_pieces.specs.NormalForm.{Normal}
use Rattle.steps.specs.Limits.{capped}
use Rattle.steps.specs.Steps.{Refusal, limit, within_limit}
use Rattle.steps.specs.declared.limits.LimitName.TheVariants.{MatchShifts}
use Rattle.steps.proofs.StepLaws.{then_outcome, then_refused, limit_kept, limit_passed}
use Rattle.gosper_form.specs.NormalShifts.{shift_count, shifts_counted, tested_from}

pub tested_kept : (counted : ℕ) (ms : List Match) (normal : Normal) → counted + shifts_counted ms ≤ 256 → (tested_from counted ms normal).outcome ≡ Ok normal
tested_kept counted [] normal few = refl
tested_kept counted (m ∷ ms) normal few =
    then_outcome (within_limit MatchShifts (counted + shift_count m) normal) (λ n. tested_from (counted + shift_count m) ms n) normal
    (limit_kept MatchShifts (counted + shift_count m) normal (omega (arith, few)))
    ∙ tested_kept (counted + shift_count m) ms normal (omega (arith, few))

-- the first sum above the limit is that which is told
pub tested_passed : (counted : ℕ) (ms : List Match) (m : Match) (later : List Match) (normal : Normal) → counted + shifts_counted ms ≤ 256
    → 256 < counted + shifts_counted ms + shift_count m
    → (tested_from counted (ms ++ (m ∷ later)) normal).outcome ≡ Err (limit MatchShifts (capped (counted + shifts_counted ms + shift_count m)))
tested_passed counted [] m later normal few many =
    then_refused (within_limit MatchShifts (counted + shift_count m) normal) (λ n. tested_from (counted + shift_count m) later n)
    (limit MatchShifts (capped (counted + shift_count m))) (limit_passed MatchShifts (counted + shift_count m) normal (omega (arith, many)))
    ∙ ap told (omega arith)
  where
    told : ℕ → Result Normal (Refusal ⊥)
    told n = Err (limit MatchShifts (capped n))
tested_passed counted (x ∷ ms) m later normal few many =
    then_outcome (within_limit MatchShifts (counted + shift_count x) normal) (λ n. tested_from (counted + shift_count x) (ms ++ (m ∷ later)) n) normal
    (limit_kept MatchShifts (counted + shift_count x) normal (omega (arith, few)))
    ∙ tested_passed (counted + shift_count x) ms m later normal (omega (arith, few)) (omega (arith, many))
    ∙ ap told (omega arith)
  where
    told : ℕ → Result Normal (Refusal ⊥)
    told n = Err (limit MatchShifts (capped n))
