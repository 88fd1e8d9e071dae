-- The order of matches, and which of them stand in a part of a list.
use Rattle.std.proofs.Common.{◌≡◌, ℕ, List, [], ◌∷◌, ◌++◌, sym, ◌∙◌, subst, arith, ◌⊎◌, inl, inr}
use Rattle.std.proofs.lemmas.Int.{ints}
use Rattle.std.specs.List.{AllByRecursion}
use Rattle.hypergeometric.specs.LinearForm.{LinearForm}
use Rattle.hypergeometric.specs.FormOrder.{IsBefore}
use Rattle.hypergeometric.specs.Match.{Match}
use Rattle.hypergeometric.proofs.SortedForms.{before_trans}
use Rattle.term_pieces.specs.NormalForm.{ComesBefore, AreInOrder, Occurs, form_above}
use Rattle.lin_form.specs.Forms.{form_of}
use Rattle.gosper_form.specs.NormalCandidates.{StandsIn, IsAtOrBefore}
use Rattle.gosper_form.specs.declared.normal_candidates.Candidate.{Candidate}

abbrev pub match_with : LinearForm → ℕ → ℕ → Match
match_with s h power = record { form = s; shift = h; power = power }

-- no form is before itself
pub not_before_itself : (f g : LinearForm) → f ≡ g → IsBefore f g → ⊥
not_before_itself f g e b = by (subst (IsBefore f) (sym e) b)
  where
    by : IsBefore f f → ⊥
    by (inl a) = omega (arith, ints, a)
    by (inr (inl a)) = omega (arith, ints, a.1)
    by (inr (inr a)) = omega (arith, ints, a.2)

pub comes_trans : (x y z : Match) → ComesBefore x y → ComesBefore y z → ComesBefore x z
comes_trans x y z (inl a) (inl b) = inl (omega (arith, a, b))
comes_trans x y z (inl a) (inr b) = inl (omega (arith, a, b.0))
comes_trans x y z (inr a) (inl b) = inl (omega (arith, a.0, b))
comes_trans x y z (inr a) (inr b) = inr (a.0 ∙ b.0, before_trans x.form y.form z.form a.1 b.1)

pub all_behind : (x y : Match) → ComesBefore x y → (ms : List Match) → AllByRecursion (ComesBefore y) ms → AllByRecursion (ComesBefore x) ms
all_behind x y l [] all = tt
all_behind x y l (m ∷ ms) all = (comes_trans x y m l all.0, all_behind x y l ms all.1)

-- what stands behind a match comes after it
pub occurs_behind : (x : Match) (ms : List Match) (s : LinearForm) (h power : ℕ) → AllByRecursion (ComesBefore x) ms → Occurs form_above s h power ms
    → ComesBefore x (match_with s h power)
occurs_behind x [] s h power all o = absurd o
occurs_behind x (m ∷ ms) s h power all (inl e) =
    subst (λ t. ComesBefore x (match_with t h power)) e.0 (subst (λ t. ComesBefore x (match_with m.form t power)) e.1 all.0)
occurs_behind x (m ∷ ms) s h power all (inr o) = occurs_behind x ms s h power all.1 o

pub occurs_parted : (s : LinearForm) (h power : ℕ) (xs ys : List Match) → Occurs form_above s h power (xs ++ ys)
    → Occurs form_above s h power xs ⊎ Occurs form_above s h power ys
occurs_parted s h power [] ys o = inr o
occurs_parted s h power (x ∷ xs) ys (inl e) = inl (inl e)
occurs_parted s h power (x ∷ xs) ys (inr o) = by (occurs_parted s h power xs ys o)
  where
    by : (Occurs form_above s h power xs ⊎ Occurs form_above s h power ys) → Occurs form_above s h power (x ∷ xs) ⊎ Occurs form_above s h power ys
    by (inl a) = inl (inr a)
    by (inr b) = inr b

pub order_behind : (xs ys : List Match) → AreInOrder (xs ++ ys) → AreInOrder ys
order_behind [] ys o = o
order_behind (x ∷ xs) ys o = order_behind xs ys o.1

pub all_of_part : (P : Match → Type 0) (xs ys : List Match) → AllByRecursion P (xs ++ ys) → AllByRecursion P ys
all_of_part P [] ys all = all
all_of_part P (x ∷ xs) ys all = all_of_part P xs ys all.1

-- what a candidate stands at, as a match
abbrev pub place_of : Candidate → Match
place_of c = match_with (form_of c.form) c.shift 0

-- what stands behind a candidate is the same, or comes after it
pub same_or_behind : (c : Candidate) (cs : List Candidate) (s : LinearForm) (h power : ℕ) → AllByRecursion (IsAtOrBefore c) cs → StandsIn cs s h
    → ((form_of c.form ≡ s) × (c.shift ≡ h)) ⊎ ComesBefore (place_of c) (match_with s h power)
same_or_behind c [] s h power all o = absurd o
same_or_behind c (d ∷ cs) s h power all (inl e) = by all.0
  where
    by : IsAtOrBefore c d → ((form_of c.form ≡ s) × (c.shift ≡ h)) ⊎ ComesBefore (place_of c) (match_with s h power)
    by (inl less) = inr (inl (omega (arith, less, e.1)))
    by (inr (same, inl form)) = inl (form ∙ e.0, same ∙ e.1)
    by (inr (same, inr before)) = inr (inr (same ∙ e.1, subst (IsBefore (form_of c.form)) e.0 before))
same_or_behind c (d ∷ cs) s h power all (inr o) = same_or_behind c cs s h power all.1 o

-- what comes after a candidate stands behind it
pub stands_behind : (c : Candidate) (cs : List Candidate) (ms : List Match) → AllByRecursion (λ m. StandsIn (c ∷ cs) m.form m.shift) ms
    → AllByRecursion (ComesBefore (place_of c)) ms → AllByRecursion (λ m. StandsIn cs m.form m.shift) ms
stands_behind c cs [] all behind = tt
stands_behind c cs (m ∷ ms) all behind = (by all.0 behind.0, stands_behind c cs ms all.1 behind.1)
  where
    by : StandsIn (c ∷ cs) m.form m.shift → ComesBefore (place_of c) m → StandsIn cs m.form m.shift
    by (inr o) b = o
    by (inl e) (inl less) = absurd (omega (arith, less, e.1))
    by (inl e) (inr b) = absurd (not_before_itself (form_of c.form) m.form e.0 b.1)
