-- Degrees that are counted up to 2^64 - 1.
use Rattle.std.specs.Prelude.{◌≡◌, ℕ, zero, suc, ◌+◌, ◌-◌, ◌<◌, ◌≤◌, ◌^◌, min, cond, List, [], ◌∷◌, map, drop, length, Ok, Err, refl}
use Rattle.std.proofs.Common.{ap, sym, ◌∙◌, arith, add-one, subst}
use Rattle.std.proofs.lemmas.List.{drop_all, length-map}
use Rattle.term_pieces.specs.Pieces.{Top, top_in}
use Rattle.hypergeometric.specs.LinearForm.{Factor}
use Rattle.hypergeometric.specs.PrimitiveForm.{is_zero}
use Rattle.steps.specs.declared.faults.StepFault.{StepFault}
use Rattle.steps.specs.declared.limits.LimitName.TheVariants.{Degree}
use Rattle.steps.specs.Limits.{capped}
use Rattle.steps.specs.Steps.{limit, within_limit}
use Rattle.steps.specs.Answers.{HasCause}
use Rattle.steps.specs.StepFaults.{step_cause}
use Rattle.steps.proofs.StepLaws.{limit_kept, limit_passed}
use Rattle.gosper_form.specs.PieceSteps.{degree_in_k, each_within}
use Rattle.gosper_form.proofs.DegreeSteps.{tested, passed, first_fault}

step : (d own s h r t : ℕ) → h ≡ own + r → s ≡ min (d + own) (2 ^ 64 - 1) → capped (d + h) ≡ t → capped (s + r) ≡ t
step d own s h r t e f g = omega (arith, e, f, g)

-- one form more
pub degree_more : (left : List Factor) (x : Factor) (rest : List Factor) (d own s t : ℕ) → left ≡ x ∷ rest → own ≡ cond (is_zero x.form.k_slope) 0 x.power
    → s ≡ min (d + own) (2 ^ 64 - 1) → capped (d + degree_in_k left) ≡ t → capped (s + degree_in_k rest) ≡ t
degree_more left x rest d own s t here e f g =
    step d own s (degree_in_k left) (degree_in_k rest) t (ap degree_in_k here ∙ ap (λ n. n + degree_in_k rest) (sym e)) f g

last : (d h t : ℕ) → h ≡ 0 → d < 2 ^ 64 → capped (d + h) ≡ t → d ≡ t
last d h t e b g = omega (arith, e, b, g)

-- past the last form
pub degree_all : (left : List Factor) (d t : ℕ) → left ≡ [] → d < 2 ^ 64 → capped (d + degree_in_k left) ≡ t → d ≡ t
degree_all left d t e b g = last d (degree_in_k left) t (ap degree_in_k e) b g

-- a sum of degrees that are counted so
pub degrees_added : (x y a b s : ℕ) → a ≡ capped x → b ≡ capped y → s ≡ min (a + b) (2 ^ 64 - 1) → s ≡ capped (x + y)
degrees_added x y a b s e f g = omega (arith, e, f, g)

pub small_capped : (a x : ℕ) → a ≡ x → a ≤ 255 → a ≡ capped x
small_capped a x e h = omega (arith, e, h)

pub none_yet : (n : ℕ) → capped (0 + n) ≡ capped n
none_yet n = ap capped (plain n)
  where
    plain : (n : ℕ) → 0 + n ≡ n
    plain n = omega arith

-- a degree above the limit, and one within it
pub passes_limit : (degree count : ℕ) → degree ≡ capped count → 64 < degree → (within_limit {P = Unit {0}} {R = ⊥} Degree count (tt {0})).outcome ≡ Err (limit Degree degree)
passes_limit degree count e h = limit_passed Degree count (tt {0}) (above degree count e h) ∙ ap (λ n. Err (limit Degree n)) (sym e)
  where
    above : (degree count : ℕ) → degree ≡ capped count → 64 < degree → 64 < count
    above degree count e h = omega (arith, e, h)

pub keeps_limit : (degree count : ℕ) → degree ≡ capped count → degree ≤ 64 → (within_limit {P = Unit {0}} {R = ⊥} Degree count (tt {0})).outcome ≡ Ok (tt {0})
keeps_limit degree count e h = limit_kept Degree count (tt {0}) (within degree count e h)
  where
    within : (degree count : ℕ) → degree ≡ capped count → degree ≤ 64 → count ≤ 64
    within degree count e h = omega (arith, e, h)

-- the degrees that are left
dropped : (f : Top → ℕ) (tops : List Top) (j : ℕ) → j < length tops → drop j (map f tops) ≡ f (top_in tops j) ∷ drop (suc j) (map f tops)
dropped f [] j h = absurd (omega (arith, h))
dropped f (t ∷ ts) zero h = refl
dropped f (t ∷ ts) (suc j) h = dropped f ts j (omega (arith, h))

pub dropped_next : (f : Top → ℕ) (tops : List Top) (j : ℕ) → j < length tops → drop j (map f tops) ≡ f (top_in tops j) ∷ drop (j + 1) (map f tops)
dropped_next f tops j h = dropped f tops j h ∙ ap (λ n. f (top_in tops j) ∷ drop n (map f tops)) (sym (add-one j))

module _ (f : Top → ℕ) (tops : List Top) (j : ℕ) (below : j < length tops) (leads : each_within (map f tops) ≡ each_within (drop j (map f tops))) where
  -- the test of the next one
  pub test_next : (tested (f (top_in tops j))).outcome ≡ Ok (tt {0}) → each_within (map f tops) ≡ each_within (drop (j + 1) (map f tops))
  test_next e = leads ∙ ap each_within (dropped_next f tops j below) ∙ passed (f (top_in tops j)) (drop (j + 1) (map f tops)) e

  pub test_fault : (fault : StepFault) → HasCause (tested (f (top_in tops j))) (step_cause fault) → HasCause (each_within (map f tops)) (step_cause fault)
  test_fault fault h =
      subst (λ s. HasCause s (step_cause fault)) (sym (leads ∙ ap each_within (dropped_next f tops j below)))
      (first_fault (f (top_in tops j)) (drop (j + 1) (map f tops)) fault h)

pub test_all : (f : Top → ℕ) (tops : List Top) (j : ℕ) → length tops ≤ j → each_within (map f tops) ≡ each_within (drop j (map f tops))
    → (each_within (map f tops)).outcome ≡ Ok (tt {0})
test_all f tops j h leads = ap (λ s. s.outcome) (leads ∙ ap each_within (drop_all j (map f tops) (omega (arith, h, length-map tops f))))
