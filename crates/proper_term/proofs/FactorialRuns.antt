-- The runs over the quotients of two lists of numbers.
use Rattle.std.proofs.Common.{◌≡◌, ◌≢◌, ℕ, ◌+◌, ◌<◌, sym, ◌∙◌, subst, List, [], ◌∷◌, ◌++◌, length, ◌⊎◌}
use Rattle.std.specs.Prelude.{ℤ, pos}
use Rattle.hypergeometric.specs.Fraction.{Fraction}
use Rattle.proper_term.specs.Cancelled.{quotients}
use Rattle.proper_term.specs.Cursors.{first_of, rest_of}
use Rattle.proper_term.specs.Fields.{number_fraction}
use Rattle.proper_term.specs.Runs.{Runs, RunsInBounds}
use Rattle.proper_term.proofs.NumbersLeft.{next_pair, fewer}
use Rattle.proper_term.proofs.Runs.{Reached, reached_on, reached_fault}

module _ (start running : Fraction) (all : List Fraction) (ts bs : List ℕ) (t b : ℤ) (some : (ts ≢ []) ⊎ (bs ≢ []))
    (top : t ≡ pos (first_of ts)) (bottom : b ≡ pos (first_of bs)) (h : Reached start all running (quotients ts bs))
  where
    -- a pair of numbers comes next
    next : Reached start all running ((number_fraction t b ∷ []) ++ quotients (rest_of ts) (rest_of bs))
    next = subst (Reached start all running)
        (next_pair ts bs some ∙ (λ i. number_fraction (sym top i) (sym bottom i) ∷ quotients (rest_of ts) (rest_of bs))) h

    pub pair_fault : ¬ RunsInBounds running (number_fraction t b ∷ []) → ¬ RunsInBounds start all
    pair_fault = reached_fault start all running (number_fraction t b ∷ []) (quotients (rest_of ts) (rest_of bs)) next

    pub pair_on : (s : Fraction) → Runs running (number_fraction t b ∷ []) s → (us ds : List ℕ) → us ≡ rest_of ts → ds ≡ rest_of bs
        → Reached start all s (quotients us ds)
    pair_on s r us ds e f =
        subst (Reached start all s) (λ i. quotients (sym e i) (sym f i))
        (reached_on start all running (number_fraction t b ∷ []) (quotients (rest_of ts) (rest_of bs)) s next r)

pub pair_fewer : (ts bs us ds : List ℕ) → (ts ≢ []) ⊎ (bs ≢ []) → us ≡ rest_of ts → ds ≡ rest_of bs → length us + length ds < length ts + length bs
pair_fewer ts bs us ds some e f = subst (λ n. n < length ts + length bs) (λ i. length (sym e i) + length (sym f i)) (fewer ts bs some)
