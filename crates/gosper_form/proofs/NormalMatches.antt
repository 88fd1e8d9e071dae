-- What the walk over the candidates says of the normal form.
use Rattle.std.proofs.Common.{◌≡◌, ℕ, zero, suc, ◌+◌, ◌-◌, ◌≤◌, ◌<◌, min, List, [], ◌∷◌, ◌++◌, drop, length, get_or, ap, ◌∙◌, subst, arith, append_assoc}
use Rattle.std.specs.Prelude.{Result, Err}
use Rattle.hypergeometric.specs.LinearForm.{LinearForm, Factor, FactorList}
use Rattle.hypergeometric.specs.FactorLists.{power_of}
use Rattle.hypergeometric.specs.Match.{Match}
use Rattle.steps.specs.Limits.{capped}
use Rattle.steps.specs.Steps.{Refusal, limit}
use Rattle.steps.specs.declared.limits.LimitName.TheVariants.{MatchShifts}
use Rattle.term_pieces.specs.NormalForm.{Normal, at_earlier_k, form_above, matched, power_within, IsNormalFormOf}
use Rattle.term_pieces.proofs.OneNormalForm.{one_normal_form}
use Rattle.term_pieces.proofs.SomeNormalForm.{some_normal_form}
use Rattle.lin_form.specs.Forms.{form_of}
use Rattle.lin_form.proofs.ListProducts.{all_dropped}
use Rattle.gosper_form.specs.NormalCandidates.{AreCandidates, AreRising, AreTaken, AreMatchesOf}
use Rattle.gosper_form.specs.NormalShifts.{shift_count, shifts_counted, tested_from, normal_steps}
use Rattle.gosper_form.specs.declared.normal_candidates.Candidate.{Candidate}
use Rattle.gosper_form.proofs.NormalAnswers.{item_behind, all_at_item}
use Rattle.gosper_form.proofs.NormalLimits.{tested_passed}
use Rattle.gosper_form.proofs.NormalWalk.{Walked, IsStep, left_over, walk_step, walk_end}

-- some normal form of two lists, which is the only one
abbrev pub whole_of : FactorList → FactorList → Normal
whole_of q0 r0 = (some_normal_form q0 r0).0

pub is_whole : (q0 r0 : FactorList) → IsNormalFormOf (whole_of q0 r0) q0 r0
is_whole q0 r0 = (some_normal_form q0 r0).1

pub only_whole : (q0 r0 : FactorList) (normal : Normal) → IsNormalFormOf normal q0 r0 → normal ≡ whole_of q0 r0
only_whole q0 r0 normal is = one_normal_form normal (whole_of q0 r0) q0 r0 is (is_whole q0 r0)

pub rising_behind : (cs : List Candidate) (i : ℕ) → AreRising cs → AreRising (drop i cs)
rising_behind [] zero r = tt
rising_behind [] (suc i) r = tt
rising_behind (c ∷ cs) zero r = r
rising_behind (c ∷ cs) (suc i) r = rising_behind cs i r.1

-- the lesser of what is left, by the lists of what is taken
pub left_is : (q0 r0 : FactorList) (ms : List Match) (from_q from_r : List Factor) (s t : LinearForm) (h p : ℕ) → AreTaken ms from_q from_r
    → t ≡ at_earlier_k s h → p ≡ min (power_of s q0.factors - power_of s from_q) (power_of t r0.factors - power_of t from_r) → p ≡ left_over q0 r0 ms s h
left_is q0 r0 ms from_q from_r s t h p are earlier e =
    e ∙ (λ i. min (power_of s q0.factors - are.above s i) (power_of (earlier i) r0.factors - power_of (earlier i) from_r))
    ∙ ap (λ n. min (power_of s q0.factors - power_within s (matched form_above ms)) (power_of (at_earlier_k s h) r0.factors - n))
    (are.below (at_earlier_k s h))

-- one turn of the walk
pub turn : (q0 r0 : FactorList) (cs : List Candidate) (i : ℕ) (c : Candidate) (ms : List Match) (from_q from_r : List Factor) (p : ℕ)
    → i < length cs → c ≡ get_or cs i c → AreRising cs → AreCandidates cs → Walked (whole_of q0 r0).matches (drop i cs) ms → AreTaken ms from_q from_r
    → p ≡ min (power_of (form_of c.form) q0.factors - power_of (form_of c.form) from_q)
    (power_of (form_of c.earlier) r0.factors - power_of (form_of c.earlier) from_r)
    → IsStep (whole_of q0 r0).matches c (drop (i + 1) cs) ms p
turn q0 r0 cs i c ms from_q from_r p l is rising candidates walked are e =
    let behind = item_behind cs i c l is in
    let earlier = all_at_item (λ (c : Candidate). form_of c.earlier ≡ at_earlier_k (form_of c.form) c.shift) cs i c l is candidates in
    walk_step (whole_of q0 r0) q0 r0 (is_whole q0 r0) c (drop (i + 1) cs) ms
    (subst (λ (rest : List Candidate). Walked (whole_of q0 r0).matches rest ms) behind walked) (subst AreRising behind (rising_behind cs i rising)).0 p
    (left_is q0 r0 ms from_q from_r (form_of c.form) (form_of c.earlier) c.shift p are earlier e)

-- the first count above the limit, after the match that passes it
pub limit_cause : (q0 r0 : FactorList) (ms : List Match) (m : Match) (rest : List Candidate) (n : ℕ)
    → Walked (whole_of q0 r0).matches rest (ms ++ (m ∷ [])) → shifts_counted ms ≤ 256 → n ≡ shifts_counted ms + shift_count m → 256 < n
    → (normal : Normal) → IsNormalFormOf normal q0 r0 → (normal_steps normal).outcome ≡ Err (limit MatchShifts (capped n))
limit_cause q0 r0 ms m rest n w few is many normal normal_is =
    let parts : normal.matches ≡ ms ++ (m ∷ w.later) = ap (λ (x : Normal). x.matches) (only_whole q0 r0 normal normal_is)
    ∙ w.parts ∙ append_assoc ms (m ∷ []) w.later in
    ap (λ (all : List Match). (tested_from 0 all normal).outcome) parts
    ∙ tested_passed 0 ms m w.later normal (omega (arith, few)) (omega (arith, is, many)) ∙ ap told (omega (arith, is))
  where
    told : ℕ → Result Normal (Refusal ⊥)
    told n = Err (limit MatchShifts (capped n))

-- behind the last candidate they are the matches of the normal form
pub matches_found : (q0 r0 : FactorList) (cs : List Candidate) (i : ℕ) (ms : List Match) → length cs ≤ i
    → Walked (whole_of q0 r0).matches (drop i cs) ms → AreMatchesOf ms q0 r0
matches_found q0 r0 cs i ms l w normal is =
    ap (λ (x : Normal). x.matches) (only_whole q0 r0 normal is)
    ∙ walk_end (whole_of q0 r0).matches ms (subst (λ (rest : List Candidate). Walked (whole_of q0 r0).matches rest ms) (all_dropped cs i l) w)
