-- What the shifts of matches count, and the limit on it: it is tested after each match, over the matches up to and with that one.
use Rattle.std.specs.Prelude.{ℕ, ◌+◌, ◌*◌, List, [], ◌∷◌}
use Rattle.hypergeometric.specs.Match.{Match}
use Rattle.term_pieces.specs.NormalForm.{Normal}
use Rattle.steps.specs.declared.limits.LimitName.TheVariants.{MatchShifts}
use Rattle.steps.specs.Steps.{gives, within_limit, ◌then◌}
use Rattle.steps.specs.StepFaults.{EngineSteps}

-- a match counts as many times its power as there are forms in its chain
abbrev pub shift_count : Match → ℕ
shift_count m = (m.shift + 1) * m.power

-- the counts of several matches, added up
abbrev pub shifts_counted : List Match → ℕ
shifts_counted [] = 0
shifts_counted (m ∷ ms) = shift_count m + shifts_counted ms

-- a normal form, where the limit is not passed by what was counted before and by further matches
abbrev pub tested_from : ℕ → List Match → Normal → EngineSteps Normal
tested_from counted [] normal = gives normal
tested_from counted (m ∷ ms) normal =
    within_limit MatchShifts (counted + shift_count m) normal then λ n. tested_from (counted + shift_count m) ms n

-- a normal form, where the limit is not passed
abbrev pub normal_steps : Normal → EngineSteps Normal
normal_steps normal = tested_from 0 normal.matches normal
