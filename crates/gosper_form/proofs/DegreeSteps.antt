-- Degrees that are counted and tested one after the other.
use Rattle.std.proofs.Common.{◌≡◌, ◌≢◌, ℕ, zero, suc, ◌+◌, ◌-◌, ◌≤◌, ◌<◌, ◌^◌, min, Bool, true, false, cond, List, [], ◌∷◌, drop, length, get_or, refl, ap, sym, ◌∙◌, arith, subst, add-one, IsErrAnd}
use Rattle.std.proofs.lemmas.List.{drop_more, drop_all}
use Rattle.std.specs.List.{AllByRecursion}
use Rattle.std.specs.Prelude.{Result, Ok, Err}
use Rattle.ring_laws.specs.Answer.{OnFault}
use Rattle.ring_laws.specs.declared.faults.RingFault.{RingFault}
use Rattle.ring_laws.specs.declared.faults.RingFault.TheVariants as ring
use Rattle.steps.specs.declared.faults.StepFault.{StepFault}
use Rattle.steps.specs.declared.limits.LimitName.TheVariants.{Degree}
use Rattle.steps.specs.Limits.{capped}
use Rattle.steps.specs.Steps.{Refusal, limit, limited, within_limit, after, ◌then◌}
use Rattle.steps.specs.Answers.{HasCause, Answers}
use Rattle.steps.specs.StepFaults.{EngineSteps, step_cause, step_fault_of}
use Rattle.steps.proofs.StepLaws.{limit_kept, limit_passed, limit_gave, then_gave}
use Rattle.steps.proofs.AnswerLaws.{first_cause}
use Rattle.hypergeometric.specs.LinearForm.{Factor}
use Rattle.hypergeometric.specs.PrimitiveForm.{is_zero}
use Rattle.hypergeometric.specs.TermFacts.{total_power}
use Rattle.gosper_form.specs.RaisedForms.{factor_of, factors_of, Makes}
use Rattle.gosper_form.specs.PieceSteps.{degree_in_k, each_from, each_within}
use Rattle.gosper_form.specs.declared.raised_forms.RaisedForm.{RaisedForm}

-- one form more is counted
module _ (fs : List RaisedForm) (i : ℕ) (x : RaisedForm) (below : i < length fs) (is : x ≡ get_or fs i x) (degree own : ℕ)
    (counted : own ≡ cond (is_zero (factor_of x).form.k_slope) 0 x.power)
    (so_far : degree + degree_in_k (factors_of (drop i fs)) ≡ degree_in_k (factors_of fs))
  where
    here : degree_in_k (factors_of (drop i fs)) ≡ own + degree_in_k (factors_of (drop (i + 1) fs))
    here =
        ap (λ ys. degree_in_k (factors_of ys)) (drop_more fs i x below)
        ∙ ap (λ (y : RaisedForm). cond (is_zero (factor_of y).form.k_slope) 0 y.power + degree_in_k (factors_of (drop (i + 1) fs))) (sym is)
        ∙ ap (λ m. m + degree_in_k (factors_of (drop (i + 1) fs))) (sym counted)

    pub degree_more : (degree + own) + degree_in_k (factors_of (drop (i + 1) fs)) ≡ degree_in_k (factors_of fs)
    degree_more = more _ _ _ _ _ here so_far
      where
        more : (d o r h t : ℕ) → h ≡ o + r → d + h ≡ t → (d + o) + r ≡ t
        more d o r h t e g = omega (arith, e, g)

    pub degree_fits : degree + own ≤ degree_in_k (factors_of fs)
    degree_fits =
        let all = degree_more in
        omega (arith, all)

pub degree_end : (fs : List RaisedForm) (i degree : ℕ) → length fs ≤ i → degree + degree_in_k (factors_of (drop i fs)) ≡ degree_in_k (factors_of fs)
    → degree ≡ degree_in_k (factors_of fs)
degree_end fs i degree end e = last degree _ (ap (λ ys. degree + degree_in_k (factors_of ys)) (sym (drop_all i fs end)) ∙ e)
  where
    last : (a b : ℕ) → a + 0 ≡ b → a ≡ b
    last a b h = omega (arith, h)

-- no more than all powers together
pub degree_within : (xs : List Factor) → degree_in_k xs ≤ total_power xs
degree_within [] = omega arith
degree_within (x ∷ xs) = by (is_zero x.form.k_slope) (degree_within xs)
  where
    by : (b : Bool) → degree_in_k xs ≤ total_power xs → cond b 0 x.power + degree_in_k xs ≤ x.power + total_power xs
    by true h = omega (arith, h)
    by false h = omega (arith, h)

-- the test of a count
abbrev pub tested : ℕ → EngineSteps (Unit {0})
tested count = within_limit Degree count (tt {0})

-- a count within the limit, and one above it
pub degree_kept : (count : ℕ) → count ≤ 64 → (tested count).outcome ≡ Ok (tt {0})
degree_kept count h = limit_kept Degree count (tt {0}) h

pub degree_passed : (count : ℕ) → 64 < count → count < 2 ^ 64 → (tested count).outcome ≡ Err (limit Degree count)
degree_passed count h fits = limit_passed Degree count (tt {0}) h ∙ ap (λ m. Err (limit Degree m)) (same count fits)
  where
    same : (count : ℕ) → count < 2 ^ 64 → capped count ≡ count
    same count h = omega (arith, h)

-- want of memory is want of memory, whatever was to be counted
pub memory_answer : (degree : ℕ) (fault : RingFault) → OnFault ⊥ fault → HasCause (tested degree) (step_cause (step_fault_of fault))
memory_answer degree ring.TooLarge h = absurd h
memory_answer degree ring.Memory h = tt

-- a count that is within the limit is passed over
pub passed : (count : ℕ) (counts : List ℕ) → (tested count).outcome ≡ Ok (tt {0})
    → each_within (count ∷ counts) ≡ each_within counts
passed count counts e = ap (λ r. after r [] (λ _. each_within counts)) e

pub first_fault : (count : ℕ) (counts : List ℕ) (fault : StepFault) → HasCause (tested count) (step_cause fault)
    → HasCause (each_within (count ∷ counts)) (step_cause fault)
first_fault count counts fault h = first_cause (tested count) (λ _. each_within counts) (step_cause fault) h

-- the next of several
pub each_next : {A : Type 0} (g : ℕ → A) (j n : ℕ) → j < n → each_from g j (n - j) ≡ g j ∷ each_from g (j + 1) (n - (j + 1))
each_next g j n h = ap (each_from g j) (next j n h) ∙ ap (λ m. g j ∷ each_from g m (n - (j + 1))) (sym (add-one j))
  where
    next : (j n : ℕ) → j < n → n - j ≡ suc (n - (j + 1))
    next j n h = omega (arith, h)

pub each_start : {A : Type 0} (g : ℕ → A) (n : ℕ) → each_from g 0 n ≡ each_from g 0 (n - 0)
each_start g n = ap (each_from g 0) (all n)
  where
    all : (n : ℕ) → n ≡ n - 0
    all n = omega arith

pub each_end : {A : Type 0} (g : ℕ → A) (j n : ℕ) → n ≤ j → each_from g j (n - j) ≡ []
each_end g j n h = ap (each_from g j) (none j n h)
  where
    none : (j n : ℕ) → n ≤ j → n - j ≡ 0
    none j n h = omega (arith, h)

module _ (g : ℕ → ℕ) (j n : ℕ) (below : j < n) (leads : each_within (each_from g 0 n) ≡ each_within (each_from g j (n - j))) where
  -- the test of the next one
  pub test_next : (tested (g j)).outcome ≡ Ok (tt {0})
      → each_within (each_from g 0 n) ≡ each_within (each_from g (j + 1) (n - (j + 1)))
  test_next e = leads ∙ ap each_within (each_next g j n below) ∙ passed (g j) (each_from g (j + 1) (n - (j + 1))) e

  pub test_fault : (fault : StepFault) → HasCause (tested (g j)) (step_cause fault)
      → HasCause (each_within (each_from g 0 n)) (step_cause fault)
  test_fault fault h = subst (λ s. HasCause s (step_cause fault)) (sym (leads ∙ ap each_within (each_next g j n below)))
      (first_fault (g j) (each_from g (j + 1) (n - (j + 1))) fault h)

pub test_end : (g : ℕ → ℕ) (j n : ℕ) → n ≤ j → each_within (each_from g 0 n) ≡ each_within (each_from g j (n - j))
    → (each_within (each_from g 0 n)).outcome ≡ Ok (tt {0})
test_end g j n h leads = ap (λ s. s.outcome) (leads ∙ ap each_within (each_end g j n h))

-- where all tests are passed, each count is within the limit
pub all_within : (counts : List ℕ) → (each_within counts).outcome ≡ Ok (tt {0}) → AllByRecursion (λ count. count ≤ 64) counts
all_within [] e = tt
all_within (count ∷ counts) e =
    let gave = then_gave (tested count) (λ _. each_within counts) (tt {0}) e in
    ((limit_gave {R = ⊥} Degree count (tt {0}) gave.value gave.first).few, all_within counts gave.second)

-- what is said of a degree that was to be counted
pub counted_answer : {T : Type 0} (degree found : ℕ) (counted : Result ℕ RingFault) (result : Result T StepFault) → counted ≡ Ok found
    → Makes (λ n. n) degree counted → Answers step_cause (λ _. tt {0}) (tested found) result
    → Answers step_cause (λ _. tt {0}) (tested degree) result
counted_answer degree found counted result e makes h =
    subst (λ n. Answers step_cause (λ _. tt {0}) (tested n) result) (subst (Makes (λ n. n) degree) e makes) h

pub uncounted_cause : (degree : ℕ) (fault : RingFault) (counted : Result ℕ RingFault) (fault' : StepFault) → counted ≡ Err fault
    → Makes (λ n. n) degree counted → fault' ≡ step_fault_of fault → HasCause (tested degree) (step_cause fault')
uncounted_cause degree fault counted fault' e makes h =
    subst (λ x. HasCause (tested degree) (step_cause x)) (sym h) (memory_answer degree fault (subst (Makes (λ n. n) degree) e makes))
