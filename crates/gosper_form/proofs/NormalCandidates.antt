-- Lists of candidates: what stands in them, and what is still to come.
use Rattle.std.proofs.Common.{◌≡◌, ◌≢◌, ℕ, zero, suc, ◌+◌, List, [], ◌∷◌, ◌++◌, drop, refl, ap, sym, ◌∙◌, subst, add-one, ◌⊎◌, inl, inr, ⊎_elim, Some}
use Rattle.std.specs.Prelude.{slice_get}
use Rattle.std.specs.List.{AllByRecursion}
use Rattle.hypergeometric.specs.LinearForm.{LinearForm, Factor}
use Rattle.hypergeometric.specs.FactorLists.{power_of}
use Rattle.hypergeometric.proofs.SharedForms.{power_later, same_or_other}
use Rattle.term_pieces.specs.NormalForm.{at_earlier_k}
use Rattle.lin_form.specs.Forms.{form_of}
use Rattle.lin_form.proofs.ListProducts.{from_index}
use Rattle.gosper_form.specs.NormalCandidates.{IsFirstShift, StandsIn, AreCandidates}
use Rattle.gosper_form.specs.declared.normal_candidates.Candidate.{Candidate}

pub stands_kept : (cs ds : List Candidate) (s : LinearForm) (h : ℕ) → StandsIn cs s h → StandsIn (cs ++ ds) s h
stands_kept [] ds s h o = absurd o
stands_kept (c ∷ cs) ds s h (inl o) = inl o
stands_kept (c ∷ cs) ds s h (inr o) = inr (stands_kept cs ds s h o)

pub stands_last : (cs : List Candidate) (c : Candidate) → StandsIn (cs ++ (c ∷ [])) (form_of c.form) c.shift
stands_last [] c = inl (refl, refl)
stands_last (d ∷ cs) c = inr (stands_last cs c)

pub candidates_more : (cs : List Candidate) (c : Candidate) → AreCandidates cs → form_of c.earlier ≡ at_earlier_k (form_of c.form) c.shift
    → AreCandidates (cs ++ (c ∷ []))
candidates_more [] c h e = (e, tt)
candidates_more (d ∷ cs) c h e = (h.0, candidates_more cs c h.1 e)

-- what is said of each of a list is said of the one at an index
pub all_at : {A : Type 0} (P : A → Type 0) (xs : List A) (i : ℕ) (x : A) → AllByRecursion P xs → slice_get xs i ≡ Some x → P x
all_at P [] i x all here = cc
all_at P (y ∷ ys) zero x all here =
    let same : y ≡ x = cc in
    subst P same all.0
all_at P (y ∷ ys) (suc i) x all here = all_at P ys i x all.1 here

-- of one form: a candidate stands there, or its other form is still to come
abbrev pub Looked : LinearForm → List Factor → List Factor → List Candidate → Type 0
Looked f whole rest cs = (h : ℕ) → IsFirstShift f h → power_of (at_earlier_k f h) whole ≢ 0
    → StandsIn cs f h ⊎ (power_of (at_earlier_k f h) rest ≢ 0)

-- what comes first in the rest is the form looked for, or that is behind it
first_or_behind : (t : LinearForm) (xs : List Factor) (i : ℕ) (x : Factor) → slice_get xs i ≡ Some x → power_of t (drop i xs) ≢ 0
    → (t ≡ x.form) ⊎ (power_of t (drop (i + 1) xs) ≢ 0)
first_or_behind t xs i x here some = by (same_or_other t x.form)
  where
    tail : drop i xs ≡ x ∷ drop (i + 1) xs
    tail = from_index xs i x here ∙ ap (λ j. x ∷ drop j xs) (sym (add-one i))

    by : ((t ≡ x.form) ⊎ (t ≢ x.form)) → (t ≡ x.form) ⊎ (power_of t (drop (i + 1) xs) ≢ 0)
    by (inl e) = inl e
    by (inr n) = inr (λ z. some (ap (power_of t) tail ∙ power_later t x (drop (i + 1) xs) n ∙ z))

pub looked_on : (f : LinearForm) (whole xs : List Factor) (i : ℕ) (x : Factor) (cs ds : List Candidate) → slice_get xs i ≡ Some x
    → ((h : ℕ) → StandsIn cs f h → StandsIn ds f h) → ((h : ℕ) → IsFirstShift f h → at_earlier_k f h ≡ x.form → StandsIn ds f h)
    → Looked f whole (drop i xs) cs → Looked f whole (drop (i + 1) xs) ds
looked_on f whole xs i x cs ds here kept this looked h first some =
    ⊎_elim (λ o. inl (kept h o))
    (λ rest. ⊎_elim (λ e. inl (this h first e)) (λ behind. inr behind) (first_or_behind (at_earlier_k f h) xs i x here rest)) (looked h first some)

-- of each form: its candidate stands there, or the form is still to come
abbrev pub LookedOver : List Factor → List Factor → List Factor → List Candidate → Type 0
LookedOver q0 r0 rest cs = (s : LinearForm) (h : ℕ) → IsFirstShift s h → power_of s q0 ≢ 0 → power_of (at_earlier_k s h) r0 ≢ 0
    → StandsIn cs s h ⊎ (power_of s rest ≢ 0)

pub looked_over : (q0 r0 xs : List Factor) (i : ℕ) (x : Factor) (cs ds : List Candidate) → slice_get xs i ≡ Some x
    → ((s : LinearForm) (h : ℕ) → StandsIn cs s h → StandsIn ds s h)
    → ((h : ℕ) → IsFirstShift x.form h → power_of (at_earlier_k x.form h) r0 ≢ 0 → StandsIn ds x.form h)
    → LookedOver q0 r0 (drop i xs) cs → LookedOver q0 r0 (drop (i + 1) xs) ds
looked_over q0 r0 xs i x cs ds here kept added looked s h first some below =
    ⊎_elim (λ o. inl (kept s h o))
    (λ rest. ⊎_elim (λ e. inl (this e)) (λ behind. inr behind) (first_or_behind s xs i x here rest)) (looked s h first some below)
  where
    this : s ≡ x.form → StandsIn ds s h
    this e = subst (λ t. StandsIn ds t h) (sym e)
        (added h (subst (λ t. IsFirstShift t h) e first) (subst (λ t. power_of (at_earlier_k t h) r0 ≢ 0) e below))

-- where nothing is to come, the candidate stands there
pub nothing_to_come : (t : LinearForm) (rest : List Factor) (A : Type 0) → rest ≡ [] → A ⊎ (power_of t rest ≢ 0) → A
nothing_to_come t rest A e o = ⊎_elim (λ a. a) (λ some. absurd (some (ap (power_of t) e))) o
