use Rattle.std.proofs.Common.{◌≡◌, ◌≢◌, ◌≤◌, ℕ, ◌+◌, ◌*◌, List, [], ◌∷◌, ◌++◌, drop, ap, sym, ◌∙◌, subst, arith}
use Rattle.hypergeometric.specs.LinearForm.{FactorList}
use Rattle.hypergeometric.specs.FactorLists.{with_factor}
use Rattle.hypergeometric.specs.Match.{Match}
use Rattle.steps.specs.Answers.{HasCause}
use Rattle.steps.specs.StepFaults.{step_cause}
use Rattle.steps.specs.declared.faults.StepFault.{StepFault}
use Rattle.term_pieces.specs.NormalForm.{Normal, at_earlier_k, IsNormalFormOf}
use Rattle.lin_form.specs.Forms.{form_of}
use Rattle.lin_form.specs.ListOf.{list_of}
use Rattle.gosper_form.specs.NormalCandidates.{AreTaken}
use Rattle.gosper_form.specs.NormalShifts.{shift_count, shifts_counted, normal_steps}
use Rattle.gosper_form.specs.NormalView.{matches_of}
use Rattle.gosper_form.specs.declared.normal_candidates.Candidate.{Candidate}
use Rattle.gosper_form.specs.declared.normal_matches.Taken.{Taken}
use Rattle.gosper_form.specs.declared.normal.Match.{Match as MatchOfCode}
use Rattle.gosper_form.proofs.NormalAnswers.{answered, fault_passed, all_at_item}
use Rattle.gosper_form.proofs.NormalMatchOrder.{match_with}
use Rattle.gosper_form.proofs.NormalMatches.{whole_of, is_whole, turn, limit_cause, matches_found}
use Rattle.gosper_form.proofs.NormalTaken.{taken_more, taken_by, counted_more, matches_more}
use Rattle.gosper_form.proofs.NormalWalk.{Walked, walk_start}
use Rattle.gosper_form.proofs.normal_matches.take_matches.Goals as goal
use Rattle.gosper_form.proofs.normal_matches.take_matches.Goals.{then-power-gt0+in_ok-taken-2+in_ok-within_shifts, else-power-gt0}

pub loop-candidate-init : goal.loop-candidate-init
loop-candidate-init c =
    let q0 = list_of c.args.q0.now in
    let r0 = list_of c.args.r0.now in
    let t = c.in_ok-taken.taken in
    let none : matches_of t.matches.items ≡ [] =
    answered _ (λ (t : Taken). matches_of t.matches.items ≡ []) c.new.result _ t c.in_ok-taken.ensures.cases c.in_ok-taken.ensures.variant c.new.ensures.matches in
    record {
      walked = subst (λ (ms : List Match). Walked (whole_of q0 r0).matches c.args.candidates.now ms) (sym none)
          (walk_start (whole_of q0 r0) q0 r0 (is_whole q0 r0) c.args.candidates.now c.requires.all);
      taken = subst (λ (ms : List Match). AreTaken ms (list_of t.above).factors (list_of t.below).factors) (sym none)
          (answered _ (λ (t : Taken). AreTaken [] (list_of t.above).factors (list_of t.below).factors) c.new.result _ t c.in_ok-taken.ensures.cases
          c.in_ok-taken.ensures.variant c.new.ensures.taken);
      counted = sym (ap shifts_counted none);
      few = omega arith;
    }

abbrev Keeps : FactorList → FactorList → List Candidate → Taken → ℕ → Type 0
Keeps q0 r0 rest t n = record {
  walked : Walked (whole_of q0 r0).matches rest (matches_of t.matches.items);
  taken : AreTaken (matches_of t.matches.items) (list_of t.above).factors (list_of t.below).factors;
  counted : n ≡ shifts_counted (matches_of t.matches.items);
  few : n ≤ 256;
}

pub returns-in_err-within_shifts-clause-limit : goal.returns-in_err-within_shifts-clause-limit
returns-in_err-within_shifts-clause-limit c =
    let q0 = list_of c.args.q0.now in
    let r0 = list_of c.args.r0.now in
    let x = c.candidate-item.result in
    let ms = matches_of c.loop-candidate.taken.matches.items in
    let p = c.left-power.result in
    let i = c.loop-candidate.candidate-index in
    let step = turn q0 r0 c.args.candidates.now i x ms (list_of c.loop-candidate.taken.above).factors (list_of c.loop-candidate.taken.below).factors p
    c.loop-candidate-test.true c.candidate-item.is c.requires.rising c.requires.candidates c.loop-candidate.invariant.walked
    c.loop-candidate.invariant.taken c.left-power.ensures.lesser in
    let some : p ≢ 0 = λ z. omega (arith, z, c.if-power-gt0.true) in
    let passed = c.in_err-within_shifts.ensures.passed in
    let m : Match = match_with (form_of x.form) x.shift p in
    let n = c.loop-candidate.counted + (c.from.result + 1) * c.from-then-power-gt0.result in
    let counts : n ≡ shifts_counted ms + shift_count m =
    (λ i. c.loop-candidate.invariant.counted i + (c.from.ensures i + 1) * c.from-then-power-gt0.ensures i) in
    fault_passed
    (λ (fault : StepFault). (normal : Normal) → IsNormalFormOf normal q0 r0 → HasCause (normal_steps normal) (step_cause fault))
    c.from_residual-in_err-within_shifts.result c.in_err-within_shifts.field-0.0 c.from_residual-in_err-within_shifts.ensures.1
    (subst
    (λ (fault : StepFault). (normal : Normal) → IsNormalFormOf normal q0 r0 → HasCause (normal_steps normal) (step_cause fault)) (sym passed.1)
    (limit_cause q0 r0 ms m (drop (i + 1) c.args.candidates.now) n (step.0 some)
    (omega (arith, c.loop-candidate.invariant.counted, c.loop-candidate.invariant.few)) counts passed.0))

-- a match more, or a candidate of which nothing is left
pub loop-candidate-preserved : goal.loop-candidate-preserved
loop-candidate-preserved c =
    let q0 = list_of c.args.q0.now in
    let r0 = list_of c.args.r0.now in
    let x = c.candidate-item.result in
    let old = c.loop-candidate.taken in
    let ms = matches_of old.matches.items in
    let p = c.left-power.result in
    let i = c.loop-candidate.candidate-index in
    let rest = drop (i + 1) c.args.candidates.now in
    let step = turn q0 r0 c.args.candidates.now i x ms (list_of old.above).factors (list_of old.below).factors p
    c.loop-candidate-test.true c.candidate-item.is c.requires.rising c.requires.candidates c.loop-candidate.invariant.walked
    c.loop-candidate.invariant.taken c.left-power.ensures.lesser in
    elim c.if-power-gt0.branch as (λ _. Keeps q0 r0 rest c.if-power-gt0.taken c.if-power-gt0.counted) [
      | then-power-gt0+in_ok-taken-2+in_ok-within_shifts w ↦
          let t = w.in_ok-taken-2.taken in
          let cases = w.in_ok-taken-2.ensures.cases in
          let variant = w.in_ok-taken-2.ensures.variant in
          let new : MatchOfCode = record { form = x.form; shift = x.shift; power = p } in
          let m : Match = match_with (form_of x.form) x.shift p in
          let items = answered _ (λ (t : Taken). t.matches.items ≡ old.matches.items ++ (new ∷ [])) w.with_match.result _ t cases variant
          w.with_match.ensures.matches in
          let above = answered _ (λ (t : Taken). (list_of t.above).factors ≡ with_factor (form_of x.form) p (list_of old.above).factors)
          w.with_match.result _ t cases variant w.with_match.ensures.above in
          let below = answered _ (λ (t : Taken). (list_of t.below).factors ≡ with_factor (form_of x.earlier) p (list_of old.below).factors)
          w.with_match.result _ t cases variant w.with_match.ensures.below in
          let matches : matches_of t.matches.items ≡ ms ++ (m ∷ []) = ap matches_of items ∙ matches_more old.matches.items new in
          let earlier = all_at_item (λ (c : Candidate). form_of c.earlier ≡ at_earlier_k (form_of c.form) c.shift) c.args.candidates.now i x
          c.loop-candidate-test.true c.candidate-item.is c.requires.candidates in
          let some : p ≢ 0 = λ z. omega (arith, z, w.if-power-gt0.true) in
          let n = c.loop-candidate.counted + (w.from.result + 1) * w.from-then-power-gt0.result in
          let counts : n ≡ shifts_counted ms + shift_count m =
          (λ i. c.loop-candidate.invariant.counted i + (w.from.ensures i + 1) * w.from-then-power-gt0.ensures i) in
          subst (λ (t : Taken). Keeps q0 r0 rest t c.if-power-gt0.counted) (sym w.taken-is)
          (subst (λ n. Keeps q0 r0 rest t n) (sym w.counted-is) (record {
            walked = subst (λ (ms : List Match). Walked (whole_of q0 r0).matches rest ms) (sym matches) (step.0 some);
            taken = taken_by matches above
                (below ∙ ap (λ f. with_factor f p (list_of old.below).factors) earlier)
                (taken_more ms m (list_of old.above).factors (list_of old.below).factors c.loop-candidate.invariant.taken);
            counted = counts ∙ sym (ap shifts_counted matches ∙ counted_more ms m);
            few = w.in_ok-within_shifts.ensures.within;
          }))
      | else-power-gt0 w ↦
          subst (λ (t : Taken). Keeps q0 r0 rest t c.if-power-gt0.counted) (sym w.taken-is)
          (subst (λ n. Keeps q0 r0 rest old n) (sym w.counted-is) (record {
            walked = step.1 (omega (arith, w.if-power-gt0.false));
            taken = c.loop-candidate.invariant.taken;
            counted = c.loop-candidate.invariant.counted;
            few = c.loop-candidate.invariant.few;
          }))
    ]

pub returns-clause-matches : goal.returns-clause-matches
returns-clause-matches c =
    matches_found (list_of c.args.q0.now) (list_of c.args.r0.now) c.args.candidates.now c.loop-candidate.candidate-index
    (matches_of c.loop-candidate.taken.matches.items) c.loop-candidate-test.false c.loop-candidate.invariant.walked
