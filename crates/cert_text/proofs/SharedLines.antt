-- Two texts that differ in a value share no more lines with a third than the value's own reading allows.
use Rattle.std.specs.Prelude.{◌≡◌, ℕ, zero, suc, Bool, false, if◌then◌else◌, nat_eq, List, [], ◌∷◌, ◌++◌}
use Rattle.std.specs.List.{list_all}
use Rattle.std.proofs.Common.{refl, ap, sym, subst, ◌∙◌}
use Rattle.std.proofs.lemmas.Bool.{and_parts, not-true}
use Rattle.std.proofs.lemmas.List.{append_cancel_left}
use Rattle.exact_texts.specs.Texts.{other_than, Only}
use Rattle.cert_text.specs.Readable.{SameLines}
use Rattle.cert_text.specs.Reading.{outside, IsField}

-- what follows a common front can be exchanged where it is for the rest
through : (n : ℕ) (front xs ys text : List ℕ) → SameLines n text (front ++ xs)
    → ((m : ℕ) (rest : List ℕ) → text ≡ front ++ rest → SameLines m rest xs → SameLines m rest ys) → SameLines n text (front ++ ys)
through zero front xs ys text same next = tt
through (suc n) [] xs ys text same next = next (suc n) text refl same
through (suc n) (a ∷ front) xs ys [] same next = same
through (suc n) (a ∷ front) xs ys (t ∷ text) same next = (
  same.0,
  through (if nat_eq t 10 then n else suc n) front xs ys text same.1
      (λ m rest e. next m rest (ap (λ z. z ∷ text) same.0 ∙ ap (λ z. a ∷ z) e)),
)

-- no newline
abbrev pub in_line : ℕ → Bool
in_line = other_than 10

-- a value in a shared line is there, and the byte behind it
seen : (n : ℕ) (value xs text : List ℕ) (c : ℕ) → Only in_line value → SameLines (suc n) text (value ++ c ∷ xs)
    → (rest : List ℕ) × (text ≡ value ++ c ∷ rest)
seen n [] xs [] c plain same = absurd same
seen n [] xs (t ∷ text) c plain same = (text, ap (λ z. z ∷ text) same.0)
seen n (v ∷ value) xs [] c plain same = absurd same
seen n (v ∷ value) xs (t ∷ text) c plain same =
    let parts = and_parts (in_line v) (list_all in_line value) plain in
    let no_newline : nat_eq t 10 ≡ false = ap (λ z. nat_eq z 10) same.0 ∙ not-true (nat_eq v 10) parts.0 in
    let later = seen n value xs text c parts.1 (subst (λ b. SameLines (if b then n else suc n) text (value ++ c ∷ xs)) no_newline same.1) in
    (later.0, ap (λ z. z ∷ text) same.0 ∙ ap (λ z. v ∷ z) later.1)

-- A value that is read from the field where it stands.
pub field_shared : (n : ℕ) (text word value read xs ys : List ℕ) (c : ℕ) (stops field rest : List ℕ)
    → Only in_line value → Only (outside stops) value → outside stops c ≡ false → IsField text word stops field rest → (field ≡ value → read ≡ value)
    → ((m : ℕ) → SameLines m rest (c ∷ xs) → SameLines m rest (c ∷ ys))
    → SameLines n text (word ++ (value ++ c ∷ xs)) → SameLines n text (word ++ (read ++ c ∷ ys))
field_shared n text word value read xs ys c stops field rest plain only stop is reads next same =
    through n word (value ++ c ∷ xs) (read ++ c ∷ ys) text same go
  where
    go : (m : ℕ) (behind : List ℕ) → text ≡ word ++ behind → SameLines m behind (value ++ c ∷ xs) → SameLines m behind (read ++ c ∷ ys)
    go zero behind e same = tt
    go (suc m) behind e same =
        let there = seen m value xs behind c plain same in
        let cut = is value (c ∷ there.0) only stop (e ∙ ap (λ z. word ++ z) there.1) in
        subst (λ v. SameLines (suc m) behind (v ++ c ∷ ys)) (sym (reads cut.0))
        (through (suc m) value (c ∷ xs) (c ∷ ys) behind same
        (λ k later f s.
        let here : rest ≡ later = cut.1 ∙ append_cancel_left value (c ∷ there.0) later (sym there.1 ∙ f) in
        subst (λ r. SameLines k r (c ∷ ys)) here (next k (subst (λ r. SameLines k r (c ∷ xs)) (sym here) s))))
