use Rattle.std.proofs.Common.{◌≡◌, ℕ, ◌+◌, ◌++◌, [], ◌∷◌, drop, inr, List, sym, ◌∙◌, subst, ap, arith}
use Rattle.hypergeometric.specs.LinearForm.{LinearForm, Factor}
use Rattle.lin_form.specs.Forms.{form_of}
use Rattle.lin_form.specs.ListOf.{list_of}
use Rattle.lin_form.proofs.ListProducts.{all_dropped}
use Rattle.gosper_form.specs.NormalCandidates.{StandsIn, AreCandidates}
use Rattle.gosper_form.specs.declared.normal_candidates.Candidate.{Candidate}
use Rattle.gosper_form.proofs.NormalShifted.{one_shift}
use Rattle.gosper_form.proofs.NormalCandidates.{Looked, looked_on, nothing_to_come, stands_kept, stands_last, candidates_more}
use Rattle.gosper_form.proofs.normal_candidates.with_candidates.Goals as goal
use Rattle.gosper_form.proofs.normal_candidates.with_candidates.Goals.{in-Some-first_shift+in_ok-push, in_default-first_shift}

pub loop-index-init : goal.loop-index-init
loop-index-init c = record { candidates = c.requires.candidates; kept = λ s h o. o; looked = λ h first some. inr some }

abbrev Keeps : List Candidate → LinearForm → List Factor → ℕ → List Candidate → Type 0
Keeps before f xs i found = record {
  candidates : AreCandidates found;
  kept : (s : LinearForm) (h : ℕ) → StandsIn before s h → StandsIn found s h;
  looked : Looked f xs (drop (i + 1) xs) found;
}

-- the candidate of one form of r0 more, or a form of r0 that has none
pub loop-index-preserved : goal.loop-index-preserved
loop-index-preserved c =
    let xs = (list_of c.args.r0.now).factors in
    let f = form_of c.args.form in
    let found = c.loop-index.found.items in
    let i = c.loop-index.index in
    elim c.match-first_shift.branch as (λ _. Keeps c.args.found.items f xs i c.match-first_shift.found.items) [
      | in-Some-first_shift+in_ok-push w ↦
          let new : Candidate = record { shift = w.in-Some-first_shift.shift; form = c.args.form; earlier = c.in-Some.earlier } in
          let first = w.in-Some-first_shift.ensures.shift.0 in
          let is = w.in-Some-first_shift.ensures.shift.1 in
          let items : c.match-first_shift.found.items ≡ found ++ (new ∷ []) = ap (λ v. v.items) w.found-is ∙ w.in_ok-push.ensures.items in
          subst (Keeps c.args.found.items f xs i) (sym items) (record {
            candidates = candidates_more found new c.loop-index.invariant.candidates (sym is);
            kept = λ s h o. stands_kept found (new ∷ []) s h (c.loop-index.invariant.kept s h o);
            looked = looked_on f xs xs i _ found (found ++ (new ∷ [])) c.in-Some.ensures.item (λ h o. stands_kept found (new ∷ []) f h o)
                (λ h other e. subst (StandsIn (found ++ (new ∷ [])) f) (one_shift f new.shift h first other (is ∙ sym e)) (stands_last found new))
                c.loop-index.invariant.looked;
          })
      | in_default-first_shift w ↦
          subst (Keeps c.args.found.items f xs i) (sym (ap (λ v. v.items) w.found-is)) (record {
            candidates = c.loop-index.invariant.candidates;
            kept = c.loop-index.invariant.kept;
            looked = looked_on f xs xs i _ found found c.in-Some.ensures.item (λ h o. o)
                (λ h first e. absurd (w.in_default-first_shift.ensures.shift h first e)) c.loop-index.invariant.looked;
          })
    ]

pub returns-clause-added : goal.returns-clause-added
returns-clause-added c = λ h first some.
    nothing_to_come _ _ _
    (all_dropped (list_of c.args.r0.now).factors c.loop-index.index (omega (arith, c.len-index-end.ensures.count, c.loop-index-test.false)))
    (c.loop-index.invariant.looked h first some)
