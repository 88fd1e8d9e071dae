-- Why the matches of the candidates, taken one after another, are those of the normal form.
use Rattle.std.proofs.Common.{◌≡◌, ◌≢◌, ℕ, zero, suc, ◌+◌, ◌-◌, ◌≤◌, ◌<◌, min, List, [], ◌∷◌, ◌++◌, refl, ap, sym, ◌∙◌, subst, arith, ◌⊎◌, inl, inr, append_assoc, ⊎_elim}
use Rattle.std.specs.List.{AllByRecursion}
use Rattle.std.specs.Prelude.{pos, cond}
use Rattle.hypergeometric.specs.LinearForm.{LinearForm, FactorList}
use Rattle.hypergeometric.specs.FormOrder.{IsBefore}
use Rattle.hypergeometric.specs.FactorLists.{power_of, same_form}
use Rattle.hypergeometric.specs.Match.{Match}
use Rattle.hypergeometric.proofs.Lookups.{same_form_itself}
use Rattle.term_pieces.specs.Products.{at_later_k}
use Rattle.term_pieces.specs.NormalForm.{Normal, at_earlier_k, sum_of_first, taken_above, taken_below, ComesBefore, AreInOrder, Occurs, form_above, form_below, matched, power_within, IsNormalFormOf}
use Rattle.term_pieces.proofs.EarlierForms.{back_again}
use Rattle.term_pieces.proofs.SamePowers.{power_joined}
use Rattle.term_pieces.proofs.ShiftedMatches.{all_follow, matched_joined}
use Rattle.lin_form.specs.Forms.{form_of}
use Rattle.gosper_form.specs.NormalCandidates.{IsFirstShift, StandsIn, HasAllCandidates, IsAtOrBefore}
use Rattle.gosper_form.specs.declared.normal_candidates.Candidate.{Candidate}
use Rattle.gosper_form.proofs.NormalShifted.{without_k}
use Rattle.gosper_form.proofs.NormalCounts.{counted_below, seen_from_below}
use Rattle.gosper_form.proofs.NormalMatchOrder.{match_with, not_before_itself, all_behind, occurs_behind, occurs_parted, order_behind, all_of_part, place_of, same_or_behind, stands_behind}

-- these are the first of all matches, and the others are still among the candidates
pub record Walked (all : List Match) (rest : List Candidate) (ms : List Match) : Type 0 where
  pub later : List Match
  pub parts : all ≡ ms ++ later
  pub ahead : AllByRecursion (λ m. StandsIn rest m.form m.shift) later

-- the lesser of what is left of a form in q0, and of the form at k - h in r0
abbrev pub left_over : FactorList → FactorList → List Match → LinearForm → ℕ → ℕ
left_over q0 r0 ms s h = min (power_of s q0.factors - power_within s (matched form_above ms))
    (power_of (at_earlier_k s h) r0.factors - power_within (at_earlier_k s h) (matched form_below ms))

-- a candidate of which this much is left is a match more, or nothing
abbrev pub IsStep : List Match → Candidate → List Candidate → List Match → ℕ → Type 0
IsStep all c cs ms p = (p ≢ 0 → Walked all cs (ms ++ (match_with (form_of c.form) c.shift p ∷ []))) × (p ≡ 0 → Walked all cs ms)

first_of_sum : (g : ℕ → ℕ) (h : ℕ) → g 0 ≤ sum_of_first g (suc h)
first_of_sum g zero = omega arith
first_of_sum g (suc h) = omega (arith, first_of_sum g h)

module _ (normal : Normal) (q0 r0 : FactorList) (is : IsNormalFormOf normal q0 r0) where
  -- what is taken is there
  pub some_above : (s : LinearForm) (h : ℕ) → is.taken s h ≢ 0 → power_of s q0.factors ≢ 0
  some_above s h some z = some (omega (arith, is.takes s h, z))

  pub some_below : (s : LinearForm) (h : ℕ) → is.taken s h ≢ 0 → power_of (at_earlier_k s h) r0.factors ≢ 0
  some_below s h some z = some (omega (arith, is.takes s h, z))

  -- a form without k is taken at the shift 0 alone
  pub first_shift : (s : LinearForm) (h : ℕ) → is.taken s h ≢ 0 → IsFirstShift s h
  first_shift s zero some z = refl
  first_shift s (suc h) some z =
      let e = is.taken in
      let here : e s 0 ≡ min (power_of s q0.factors - 0) (power_of s r0.factors - 0) =
      is.takes s 0 ∙ ap (λ t. min (power_of s q0.factors - 0) (power_of t r0.factors - 0)) (without_k s 0 z) in
      let later : e s (suc h) ≡ min (power_of s q0.factors - taken_above e s (suc h)) (power_of s r0.factors - taken_below e s (suc h)) =
      is.takes s (suc h) ∙ ap (λ t. min (power_of s q0.factors - taken_above e s (suc h)) (power_of t r0.factors - taken_below e t (suc h)))
      (without_k s (suc h) z) in
      let above : e s 0 ≤ taken_above e s (suc h) = first_of_sum (e s) h in
      let below : e (at_later_k s (pos 0)) 0 ≤ taken_below e s (suc h) = first_of_sum (λ i. e (at_later_k s (pos i)) i) h in
      let same : e (at_later_k s (pos 0)) 0 ≡ e s 0 =
      ap (λ t. e (at_later_k t (pos 0)) 0) (sym (without_k s 0 z)) ∙ ap (λ t. e t 0) (back_again s 0) in
      absurd (some (omega (arith, here, later, above, below, same)))

  abbrev IsTaken : Match → Type 0
  IsTaken m = (m.power ≡ is.taken m.form m.shift) × (m.power ≢ 0)

  -- before the first candidate all matches are ahead
  pub walk_start : (cs : List Candidate) → HasAllCandidates q0 r0 cs → Walked normal.matches cs []
  walk_start cs has = record {
    later = normal.matches;
    parts = refl;
    ahead = all_follow IsTaken (λ m. StandsIn cs m.form m.shift) normal.matches
        (λ m taken.
        let some : is.taken m.form m.shift ≢ 0 = λ z. taken.1 (taken.0 ∙ z) in
        has m.form m.shift (first_shift m.form m.shift some) (some_above m.form m.shift some) (some_below m.form m.shift some))
        is.matches.each;
  }

  module _ (ms later : List Match) (parts : normal.matches ≡ ms ++ later) where
    -- what is taken and not ahead stands among the matches so far
    seen : (s : LinearForm) (h : ℕ) → (Occurs form_above s h (is.taken s h) later → ⊥) → is.taken s h ≢ 0 → Occurs form_above s h (is.taken s h) ms
    seen s h none some =
        by (occurs_parted s h (is.taken s h) ms later (subst (Occurs form_above s h (is.taken s h)) parts (is.matches.all s h some)))
      where
        by : (Occurs form_above s h (is.taken s h) ms ⊎ Occurs form_above s h (is.taken s h) later) → Occurs form_above s h (is.taken s h) ms
        by (inl o) = o
        by (inr o) = absurd (none o)

    -- where none below a shift is ahead, all of them are counted, above and below
    counts_above : (s : LinearForm) (h : ℕ) → ((i : ℕ) → i < h → Occurs form_above s i (is.taken s i) later → ⊥)
        → taken_above is.taken s h ≤ power_within s (matched form_above ms)
    counts_above s h none = counted_below form_above s ms (is.taken s) h (λ i l some. seen s i (none i l) some)

    counts_below : (t : LinearForm) (h : ℕ)
        → ((i : ℕ) → i < h → Occurs form_above (at_later_k t (pos i)) i (is.taken (at_later_k t (pos i)) i) later → ⊥)
        → taken_below is.taken t h ≤ power_within t (matched form_below ms)
    counts_below t h none = counted_below form_below t ms (λ i. is.taken (at_later_k t (pos i)) i) h
        (λ i l some. seen_from_below t i (is.taken (at_later_k t (pos i)) i) ms (seen (at_later_k t (pos i)) i (none i l) some))

    taken_there : (s : LinearForm) (h : ℕ) → is.taken (at_later_k (at_earlier_k s h) (pos h)) h ≡ is.taken s h
    taken_there s h = ap (λ f. is.taken f h) (back_again s h)

    -- nothing is left where all that is ahead comes after
    nothing_left : (s : LinearForm) (h : ℕ) → AllByRecursion (ComesBefore (match_with s h 0)) later → left_over q0 r0 ms s h ≡ 0
    nothing_left s h behind =
        let t = at_earlier_k s h in
        let above = counts_above s (suc h) (λ i l o. past s i l (occurs_behind (match_with s h 0) later s i (is.taken s i) behind o) (λ same. refl)) in
        let below = counts_below t (suc h)
        (λ i l o. past (at_later_k t (pos i)) i l
        (occurs_behind (match_with s h 0) later (at_later_k t (pos i)) i (is.taken (at_later_k t (pos i)) i) behind o)
        (λ same. sym (back_again s h) ∙ ap (λ j. at_later_k t (pos j)) same)) in
        omega (arith, above, below, taken_there s h, is.takes s h)
      where
        past : (s' : LinearForm) (i : ℕ) → i < suc h → ((h < i) ⊎ ((h ≡ i) × IsBefore s s')) → (h ≡ i → s ≡ s') → ⊥
        past s' i l (inl less) same = omega (arith, l, less)
        past s' i l (inr b) same = not_before_itself s s' (same b.0) b.1

    -- the next match takes the lesser of what is left
    next_takes : (m : Match) (rest : List Match) → later ≡ m ∷ rest → AllByRecursion (ComesBefore m) rest → IsTaken m
        → left_over q0 r0 ms m.form m.shift ≡ m.power
    next_takes m rest first behind taken =
        let s = m.form in
        let h = m.shift in
        let t = at_earlier_k s h in
        let above = counts_above s h (λ i l o. ahead s i (is.taken s i) l (subst (Occurs form_above s i (is.taken s i)) first o)) in
        let below = counts_below t h
        (λ i l o. ahead (at_later_k t (pos i)) i (is.taken (at_later_k t (pos i)) i) l
        (subst (Occurs form_above (at_later_k t (pos i)) i (is.taken (at_later_k t (pos i)) i)) first o)) in
        let all_above = is.q.powers s in
        let all_below = is.r.powers t in
        let own_above = counted form_above s refl in
        let own_below = counted form_below t refl in
        omega (arith, above, below, taken_there s h, is.takes s h, taken.0, all_above, all_below, own_above, own_below)
      where
        before : (i : ℕ) {s s' : LinearForm} → i < m.shift → ((m.shift < i) ⊎ ((m.shift ≡ i) × IsBefore s s')) → ⊥
        before i l (inl less) = omega (arith, l, less)
        before i l (inr b) = omega (arith, l, b.0)

        ahead : (s' : LinearForm) (i power : ℕ) → i < m.shift → Occurs form_above s' i power (m ∷ rest) → ⊥
        ahead s' i power l (inl e) = omega (arith, l, e.1)
        ahead s' i power l (inr o) = before i l (occurs_behind m rest s' i power behind o)

        counted : (view : Match → LinearForm) (f : LinearForm) → f ≡ view m
            → power_within f (matched view ms) + m.power ≤ power_within f (matched view normal.matches)
        counted view f e =
            let joined : power_within f (matched view normal.matches) ≡ power_within f (matched view ms) + power_within f (matched view (m ∷ rest)) =
            ap (λ (all : List Match). power_within f (matched view all)) (parts ∙ ap (λ (l : List Match). ms ++ l) first)
            ∙ ap (power_within f) (matched_joined view ms (m ∷ rest))
            ∙ power_joined f (matched view ms) (matched view (m ∷ rest)) in
            let own : cond (same_form f (view m)) m.power 0 ≡ m.power = ap (λ b. cond b m.power 0) (same_form_itself f (view m) e) in
            omega (arith, joined, own)

  -- one candidate more: its match where something is left, and nothing else
  pub walk_step : (c : Candidate) (cs : List Candidate) (ms : List Match) → Walked normal.matches (c ∷ cs) ms → AllByRecursion (IsAtOrBefore c) cs
      → (p : ℕ) → p ≡ left_over q0 r0 ms (form_of c.form) c.shift
      → IsStep normal.matches c cs ms p
  walk_step c cs ms w rising p left = by w.later w.parts w.ahead
    where
      by : (later : List Match) → normal.matches ≡ ms ++ later → AllByRecursion (λ m. StandsIn (c ∷ cs) m.form m.shift) later → IsStep normal.matches c cs ms p
      by [] parts ahead =
          (λ some. absurd (some (left ∙ nothing_left ms [] parts (form_of c.form) c.shift tt)), λ z. record { later = []; parts = parts; ahead = tt })
      by (m ∷ rest) parts ahead = decide ahead.0
        where
          taken : IsTaken m
          taken = (all_of_part IsTaken ms (m ∷ rest) (subst (AllByRecursion IsTaken) parts is.matches.each)).0

          behind : AllByRecursion (ComesBefore m) rest
          behind = (order_behind ms (m ∷ rest) (subst AreInOrder parts is.matches.in_order)).0

          here : (form_of c.form ≡ m.form) × (c.shift ≡ m.shift) → IsStep normal.matches c cs ms p
          here e = (
            λ some. record {
              later = rest;
              parts = parts ∙ sym (append_assoc ms (m ∷ []) rest) ∙ ap (λ (x : Match). (ms ++ (x ∷ [])) ++ rest) (sym same);
              ahead = stands_behind c cs rest ahead.1
                  (subst (λ f. AllByRecursion (ComesBefore (match_with f c.shift 0)) rest) (sym e.0)
                  (subst (λ j. AllByRecursion (ComesBefore (match_with m.form j 0)) rest) (sym e.1) behind));
            },
            λ z. absurd (taken.1 (sym is_power ∙ z)),
          )
            where
              is_power : p ≡ m.power
              is_power = left ∙ (λ i. left_over q0 r0 ms (e.0 i) (e.1 i)) ∙ next_takes ms (m ∷ rest) parts m rest refl behind taken

              same : match_with (form_of c.form) c.shift p ≡ m
              same = λ i. match_with (e.0 i) (e.1 i) (is_power i)

          later_on : ComesBefore (place_of c) m → IsStep normal.matches c cs ms p
          later_on b =
              let all : AllByRecursion (ComesBefore (place_of c)) (m ∷ rest) = (b, all_behind (place_of c) m b rest behind) in (
                λ some. absurd (some (left ∙ nothing_left ms (m ∷ rest) parts (form_of c.form) c.shift all)),
                λ z. record { later = m ∷ rest; parts = parts; ahead = stands_behind c cs (m ∷ rest) ahead all },
              )

          decide : StandsIn (c ∷ cs) m.form m.shift → IsStep normal.matches c cs ms p
          decide (inl e) = here e
          decide (inr o) = ⊎_elim here later_on (same_or_behind c cs m.form m.shift m.power rising o)

-- behind the last candidate no match is ahead
pub walk_end : (all : List Match) (ms : List Match) → Walked all [] ms → all ≡ ms
walk_end all ms w = by w.later w.parts w.ahead
  where
    nothing_more : (xs : List Match) → xs ++ [] ≡ xs
    nothing_more [] = refl
    nothing_more (x ∷ xs) = λ i. x ∷ nothing_more xs i

    by : (later : List Match) → all ≡ ms ++ later → AllByRecursion (λ m. StandsIn [] m.form m.shift) later → all ≡ ms
    by [] parts ahead = parts ∙ nothing_more ms
    by (m ∷ rest) parts ahead = absurd ahead.0
