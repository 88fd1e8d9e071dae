-- What one match more takes, and what it counts.
use Rattle.std.proofs.Common.{◌≡◌, ℕ, ◌+◌, Bool, true, false, List, [], ◌∷◌, ◌++◌, refl, ap, sym, ◌∙◌, subst, arith, true≢false}
use Rattle.std.specs.Prelude.{cond}
use Rattle.hypergeometric.specs.LinearForm.{LinearForm, Factor}
use Rattle.hypergeometric.specs.FactorLists.{same_form, power_of, with_factor}
use Rattle.hypergeometric.specs.Match.{Match}
use Rattle.hypergeometric.proofs.Lookups.{same_form_found, same_form_itself}
use Rattle.term_pieces.specs.NormalForm.{form_above, form_below, matched, power_within}
use Rattle.term_pieces.proofs.SamePowers.{power_joined}
use Rattle.term_pieces.proofs.ShiftedMatches.{matched_joined}
use Rattle.gosper_form.specs.NormalCandidates.{AreTaken}
use Rattle.gosper_form.specs.NormalShifts.{shift_count, shifts_counted}
use Rattle.gosper_form.specs.NormalView.{match_of, matches_of}
use Rattle.gosper_form.specs.declared.normal.Match.{Match as MatchOfCode}

-- multiplied by a form, a list has the power more of that form
pub power_with : (f g : LinearForm) (p : ℕ) (xs : List Factor) → power_of f (with_factor g p xs) ≡ power_of f xs + cond (same_form f g) p 0
power_with f g p [] = omega arith
power_with f g p (x ∷ xs) = by (same_form g x.form) refl (power_with f g p xs)
  where
    here : (b : Bool) → cond b (x.power + p) (power_of f xs) ≡ cond b x.power (power_of f xs) + cond b p 0
    here true = refl
    here false = omega arith

    there : (b : Bool) → same_form f x.form ≡ b → same_form g x.form ≡ false → power_of f (with_factor g p xs) ≡ power_of f xs + cond (same_form f g) p 0
        → cond b x.power (power_of f (with_factor g p xs)) ≡ cond b x.power (power_of f xs) + cond (same_form f g) p 0
    there false e other rest = rest
    there true e other rest =
        let none : cond (same_form f g) p 0 ≡ 0 = ap (λ b. cond b p 0) (not_same (same_form f g) refl) in
        omega (arith, none)
      where
        not_same : (b : Bool) → same_form f g ≡ b → same_form f g ≡ false
        not_same true same =
            absurd (true≢false (sym (same_form_itself g x.form (sym (same_form_found f g same) ∙ same_form_found f x.form e)) ∙ other))
        not_same false same = same

    by : (b : Bool) → same_form g x.form ≡ b → power_of f (with_factor g p xs) ≡ power_of f xs + cond (same_form f g) p 0
        → power_of f (cond b (record { form = x.form; power = x.power + p } ∷ xs) (x ∷ with_factor g p xs))
        ≡ power_of f (x ∷ xs) + cond (same_form f g) p 0
    by true e rest =
        here (same_form f x.form) ∙ ap (λ t. power_of f (x ∷ xs) + cond (same_form f t) p 0) (sym (same_form_found g x.form e))
    by false e rest = there (same_form f x.form) refl e rest

within_more : (view : Match → LinearForm) (f : LinearForm) (ms : List Match) (m : Match)
    → power_within f (matched view (ms ++ (m ∷ []))) ≡ power_within f (matched view ms) + cond (same_form f (view m)) m.power 0
within_more view f ms m =
    let joined = power_joined f (matched view ms) (matched view (m ∷ [])) in
    ap (power_within f) (matched_joined view ms (m ∷ [])) ∙ omega (arith, joined)

pub taken_more : (ms : List Match) (m : Match) (from_q from_r : List Factor) → AreTaken ms from_q from_r
    → AreTaken (ms ++ (m ∷ [])) (with_factor (form_above m) m.power from_q) (with_factor (form_below m) m.power from_r)
taken_more ms m from_q from_r are = record {
  above = λ f. power_with f (form_above m) m.power from_q ∙ ap (λ n. n + cond (same_form f (form_above m)) m.power 0) (are.above f)
      ∙ sym (within_more form_above f ms m);
  below = λ f. power_with f (form_below m) m.power from_r ∙ ap (λ n. n + cond (same_form f (form_below m)) m.power 0) (are.below f)
      ∙ sym (within_more form_below f ms m);
}

-- other lists that are the same
pub taken_by : {ms ns : List Match} {xs ys zs ws : List Factor} → ns ≡ ms → xs ≡ ys → zs ≡ ws → AreTaken ms ys ws → AreTaken ns xs zs
taken_by {ms} {ns} {xs} {ys} {zs} {ws} p q r are =
    subst (λ ns. AreTaken ns xs zs) (sym p) (subst (λ xs. AreTaken ms xs zs) (sym q) (subst (λ zs. AreTaken ms ys zs) (sym r) are))

pub counted_more : (ms : List Match) (m : Match) → shifts_counted (ms ++ (m ∷ [])) ≡ shifts_counted ms + shift_count m
counted_more [] m = omega arith
counted_more (x ∷ ms) m = omega (arith, counted_more ms m)

pub matches_more : (ms : List MatchOfCode) (m : MatchOfCode) → matches_of (ms ++ (m ∷ [])) ≡ matches_of ms ++ (match_of m ∷ [])
matches_more [] m = refl
matches_more (x ∷ ms) m = λ i. match_of x ∷ matches_more ms m i
