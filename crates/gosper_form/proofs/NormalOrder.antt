-- The order of candidates: sorted, they rise, and they have what they had.
use Rattle.std.proofs.Common.{◌≡◌, ℕ, zero, suc, ◌<◌, List, [], ◌∷◌, length, refl, ap, sym, ◌∙◌, subst, arith, add-one, ◌⊎◌, inl, inr, ⊎_elim, true≢false, false}
use Rattle.std.specs.Prelude.{slice_index_or}
use Rattle.std.specs.List.{AllByRecursion, Contains}
use Rattle.std.specs.List.Sorted.{IsPermutation, IsSorted as IsSortedBySort}
use Rattle.std.specs.Ordering.{nat_cmp, is_lt, ordering_then, MatchOrdering}
use Rattle.std.specs.Cmp.{ranked}
use Rattle.std.specs.declared.cmp.Ordering.{Ordering}
use Rattle.std.specs.declared.cmp.Ordering.TheVariants.{Less, Equal, Greater}
use Rattle.std.proofs.lemmas.List.Sorted.{Contains-permutation, All-permutation}
use Rattle.std.proofs.lemmas.List.Elements.{All-from_recursion, recursion_from_All}
use Rattle.hypergeometric.specs.LinearForm.{LinearForm}
use Rattle.hypergeometric.specs.FormOrder.{IsBefore}
use Rattle.hypergeometric.proofs.SharedForms.{same_or_other}
use Rattle.hypergeometric.proofs.SortedForms.{form_cmp, comes_before, before_trans}
use Rattle.lin_form.specs.Forms.{form_of}
use Rattle.gosper_form.specs.NormalCandidates.{StandsIn, IsAtOrBefore, AreRising}
use Rattle.gosper_form.specs.declared.normal_candidates.Candidate.{Candidate}

contained : (cs : List Candidate) (s : LinearForm) (h : ℕ) → StandsIn cs s h → (c : Candidate) × Contains cs c × (form_of c.form ≡ s) × (c.shift ≡ h)
contained [] s h o = absurd o
contained (c ∷ cs) s h (inl o) = (c, (0, omega arith, refl), o.0, o.1)
contained (c ∷ cs) s h (inr o) =
    let rest = contained cs s h o in
    (rest.0, (suc rest.1.0, omega (arith, rest.1.1), rest.1.2), rest.2, rest.3)

stands : (cs : List Candidate) (c : Candidate) (s : LinearForm) (h k : ℕ) → k < length cs → slice_index_or cs k c ≡ c → form_of c.form ≡ s → c.shift ≡ h
    → StandsIn cs s h
stands [] c s h k l at form shift = absurd (omega (arith, l))
stands (d ∷ cs) c s h zero l at form shift = inl (ap (λ (c : Candidate). form_of c.form) at ∙ form, ap (λ (c : Candidate). c.shift) at ∙ shift)
stands (d ∷ cs) c s h (suc k) l at form shift = inr (stands cs c s h k (omega (arith, l)) at form shift)

-- in another order the same stand there
pub stands_moved : (cs ds : List Candidate) → IsPermutation cs ds → (s : LinearForm) (h : ℕ) → StandsIn cs s h → StandsIn ds s h
stands_moved cs ds p s h o =
    let c = contained cs s h o in
    let at = Contains-permutation cs ds c.0 p c.1 in
    stands ds c.0 s h at.0 at.1 at.2 c.2 c.3

pub candidates_moved : (P : Candidate → Type 0) (cs ds : List Candidate) → IsPermutation cs ds → AllByRecursion P cs → AllByRecursion P ds
candidates_moved P cs ds p all = recursion_from_All P ds (All-permutation P cs ds p (All-from_recursion P cs all))

abbrev candidate_cmp : Candidate → Candidate → Ordering
candidate_cmp c d =
    ordering_then (nat_cmp c.shift d.shift) (ordering_then (form_cmp (form_of c.form) (form_of d.form)) (form_cmp (form_of c.earlier) (form_of d.earlier)))

form_at_or_before : (f g : LinearForm) (o : Ordering) → is_lt (ordering_then (form_cmp g f) o) ≡ false → (f ≡ g) ⊎ IsBefore f g
form_at_or_before f g o h = ⊎_elim (λ e. inl e) (λ n. inr (comes_before f g n (by (form_cmp g f) h))) (same_or_other f g)
  where
    by : (r : Ordering) → is_lt (ordering_then r o) ≡ false → is_lt r ≡ false
    by Less h = h
    by Equal h = refl
    by Greater h = refl

-- what isn't less stands at the same place or behind
at_or_before : (c d : Candidate) → is_lt (candidate_cmp d c) ≡ false → IsAtOrBefore c d
at_or_before c d h = by (nat_cmp d.shift c.shift) (ranked d.shift c.shift (nat_cmp d.shift c.shift) refl) h
  where
    by : (r : Ordering) → MatchOrdering r (d.shift < c.shift) (d.shift ≡ c.shift) (c.shift < d.shift)
        → is_lt (ordering_then r (ordering_then (form_cmp (form_of d.form) (form_of c.form)) (form_cmp (form_of d.earlier) (form_of c.earlier)))) ≡ false
        → IsAtOrBefore c d
    by Less m h = absurd (true≢false h)
    by Equal m h = inr (sym m, form_at_or_before (form_of c.form) (form_of d.form) (form_cmp (form_of d.earlier) (form_of c.earlier)) h)
    by Greater m h = inl m

at_trans : (c d e : Candidate) → IsAtOrBefore c d → IsAtOrBefore d e → IsAtOrBefore c e
at_trans c d e (inl a) (inl b) = inl (omega (arith, a, b))
at_trans c d e (inl a) (inr b) = inl (omega (arith, a, b.0))
at_trans c d e (inr a) (inl b) = inl (omega (arith, a.0, b))
at_trans c d e (inr a) (inr b) = inr (a.0 ∙ b.0, forms a.1 b.1)
  where
    forms : ((form_of c.form ≡ form_of d.form) ⊎ IsBefore (form_of c.form) (form_of d.form))
        → ((form_of d.form ≡ form_of e.form) ⊎ IsBefore (form_of d.form) (form_of e.form))
        → (form_of c.form ≡ form_of e.form) ⊎ IsBefore (form_of c.form) (form_of e.form)
    forms (inl p) (inl q) = inl (p ∙ q)
    forms (inl p) (inr q) = inr (subst (λ f. IsBefore f (form_of e.form)) (sym p) q)
    forms (inr p) (inl q) = inr (subst (IsBefore (form_of c.form)) q p)
    forms (inr p) (inr q) = inr (before_trans (form_of c.form) (form_of d.form) (form_of e.form) p q)

all_behind : (c d : Candidate) → IsAtOrBefore c d → (cs : List Candidate) → AllByRecursion (IsAtOrBefore d) cs → AllByRecursion (IsAtOrBefore c) cs
all_behind c d l [] all = tt
all_behind c d l (e ∷ cs) all = (at_trans c d e l all.0, all_behind c d l cs all.1)

-- what the sort put in order rises
pub sorted_rising : (cmp : Candidate → Candidate → Ordering) → ((c d : Candidate) → cmp c d ≡ candidate_cmp c d) → (cs : List Candidate)
    → IsSortedBySort cmp cs → AreRising cs
sorted_rising cmp is [] s = tt
sorted_rising cmp is (c ∷ []) s = (tt, tt)
sorted_rising cmp is (c ∷ d ∷ cs) s =
    let rest = sorted_rising cmp is (d ∷ cs) (λ k x a b. simp add-one (simp add-one at s (suc k) x (omega arith) (omega (arith, b)))) in
    let next : IsAtOrBefore c d = at_or_before c d (ap is_lt (sym (is d c)) ∙ s 0 c (omega arith) (omega arith)) in
    ((next, all_behind c d next cs rest.0), rest)
