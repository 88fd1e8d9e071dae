-- Counts of shifts that are known from elsewhere: of (k + 3)!/k! within the limit, of (k + 300)!/k! above it.
use Rattle.std.proofs.Common.{◌≡◌, ℕ, [], ◌∷◌, refl}
use Rattle.std.specs.Prelude.{pos, Ok, Err}
use Rattle.hypergeometric.specs.Forms.{form_with}
use Rattle.hypergeometric.specs.Match.{Match}
use Rattle.steps.specs.Steps.{limit}
use Rattle.steps.specs.declared.limits.LimitName.TheVariants.{MatchShifts}
use Rattle.term_pieces.specs.NormalForm.{Normal}
use Rattle.gosper_form.specs.NormalShifts.{shifts_counted, tested_from}

abbrev k_and : ℕ → ℕ → Match
k_and c h = record { form = form_with (pos 0) (pos 1) (pos c); shift = h; power = 1 }

known_counts : (shifts_counted (k_and 4 3 ∷ []) ≡ 4) × (shifts_counted (k_and 3 0 ∷ k_and 2 1 ∷ []) ≡ 3)
known_counts = (refl, refl)

-- the first sum above 256 is told, and 256 itself is within
known_limits : (normal : Normal) → ((tested_from 0 (k_and 301 300 ∷ []) normal).outcome ≡ Err (limit MatchShifts 301))
    × ((tested_from 0 (k_and 5 0 ∷ k_and 301 300 ∷ []) normal).outcome ≡ Err (limit MatchShifts 302))
    × ((tested_from 0 (k_and 256 255 ∷ []) normal).outcome ≡ Ok normal)
known_limits normal = (refl, refl, refl)
