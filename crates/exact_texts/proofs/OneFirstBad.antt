-- A text has at most one first bad line, and a text that is that of no value has one.
use Rattle.std.specs.Prelude.{◌≡◌, ◌≢◌, ◌⊎◌, ℕ, zero, suc, ◌+◌, ◌≤◌, List, [], ◌∷◌, ◌++◌, length}
use Rattle.std.proofs.Common.{refl, ap, sym, ◌∙◌, append_assoc, append-nil, arith, inl, inr, ⊎_elim}
use Rattle.std.proofs.lemmas.List.{length-append}
use Rattle.exact_texts.specs.Texts.{InOneLine}
use Rattle.exact_texts.specs.Formats.{Format}
use Rattle.exact_texts.specs.Lines.{AreLines}
use Rattle.exact_texts.specs.FirstBadLine.{newlines, IsFront, IsFirstBadLine}
use Rattle.exact_texts.proofs.Formats.{lines_append}
use Rattle.exact_texts.proofs.FirstBad.{first_line, unended}

-- of two fronts of a text one goes beyond the other
abbrev GoesBeyond : List ℕ → List ℕ → List ℕ → List ℕ → Type 0
GoesBeyond xs ys r s = (more : List ℕ) × (ys ≡ xs ++ more) × (r ≡ more ++ s)

fronts : (xs ys r s : List ℕ) → xs ++ r ≡ ys ++ s → GoesBeyond xs ys r s ⊎ GoesBeyond ys xs s r
fronts [] ys r s e = inl (ys, refl, e)
fronts (x ∷ xs) [] r s e = inr (x ∷ xs, refl, sym e)
fronts (x ∷ xs) (y ∷ ys) r s e =
    let head : x ≡ y = cc in
    let tail : xs ++ r ≡ ys ++ s = cc in
    ⊎_elim (λ m. let rest = m.1 in inl (m.0, (λ i. sym head i ∷ rest i), m.2)) (λ m. let rest = m.1 in inr (m.0, (λ i. head i ∷ rest i), m.2))
    (fronts xs ys r s tail)

-- a text has a first line
abbrev HasFirstLine : List ℕ → Type 0
HasFirstLine xs = (line : List ℕ) × (behind : List ℕ) × InOneLine line × (xs ≡ line ++ 10 ∷ behind)

-- what whole lines have behind a front begins with a line
line_behind : (front whole more : List ℕ) → AreLines whole → whole ≡ front ++ more → more ≢ [] → HasFirstLine more
line_behind front whole more lines e some = ⊎_elim
    (λ one. absurd (unended (10 ∷ front) more lines.0 one some (ap (λ t. 10 ∷ t) (sym e) ∙ lines.1)))
    (λ l. l) (first_line more)

-- a line is moved from behind a front to its end
moved : (front line behind more : List ℕ) → (front ++ (line ++ 10 ∷ behind)) ++ more ≡ (front ++ (line ++ 10 ∷ [])) ++ (behind ++ more)
moved front line behind more =
    append_assoc front (line ++ 10 ∷ behind) more
    ∙ ap (λ t. front ++ t) (append_assoc line (10 ∷ behind) more ∙ sym (append_assoc line (10 ∷ []) (behind ++ more)))
    ∙ sym (append_assoc front (line ++ 10 ∷ []) (behind ++ more))

module _ {V : Type 0} (F : Format V) (text : List ℕ) where
  -- the lines in front of a bad line don't go beyond those in front of another
  no_more : (a b : ℕ) (p : IsFirstBadLine F text a) (q : IsFirstBadLine F text b) (more : List ℕ)
      → q.front ≡ p.front ++ more → p.rest ≡ more ++ q.rest → more ≢ [] → ⊥
  no_more a b p q more e r some =
      let l = line_behind p.front q.front more q.whole e some in
      p.here l.0 (l.1 ++ q.rest) l.2 (r ∙ ap (λ t. t ++ q.rest) l.3 ∙ append_assoc l.0 (10 ∷ l.1) q.rest) (record {
        value = q.before.value;
        has = q.before.has;
        more = l.1 ++ q.before.more;
        begun = q.before.begun ∙ ap (λ t. t ++ q.before.more) (e ∙ ap (λ t. p.front ++ t) l.3) ∙ moved p.front l.0 l.1 q.before.more;
      })

  same_number : (a b : ℕ) (p : IsFirstBadLine F text a) (q : IsFirstBadLine F text b) (more : List ℕ)
      → q.front ≡ p.front ++ more → p.rest ≡ more ++ q.rest → a ≡ b
  same_number a b p q [] e r = p.number ∙ ap (λ t. suc (newlines t)) (sym (e ∙ append-nil p.front)) ∙ sym q.number
  same_number a b p q (x ∷ xs) e r = absurd (no_more a b p q (x ∷ xs) e r (λ n. cc))

  -- the first bad line is one
  pub one_first_bad_line : (a b : ℕ) → IsFirstBadLine F text a → IsFirstBadLine F text b → a ≡ b
  one_first_bad_line a b p q = ⊎_elim (λ m. same_number a b p q m.0 m.1 m.2) (λ m. sym (same_number b a q p m.0 m.1 m.2))
      (fronts p.front q.front p.rest q.rest (sym p.parted ∙ q.parted))

  module _ (absent : (v : V) → F.Has v → text ≢ F.text v) (none : (at : ℕ) → IsFirstBadLine F text at → ⊥) where
    abbrev Refused : List ℕ → List ℕ → Type 0
    Refused front rest = (line behind : List ℕ) → InOneLine line → rest ≡ line ++ 10 ∷ behind → ¬ IsFront F (front ++ (line ++ 10 ∷ []))

    -- some line behind the front begins a value's text again
    not_refused : (front rest : List ℕ) → text ≡ front ++ rest → AreLines front → IsFront F front → Refused front rest → ⊥
    not_refused front rest parted whole before here = none (suc (newlines front))
        (record { refused = absent; front = front; rest = rest; parted = parted; whole = whole; number = refl; before = before; here = here })

    longer : (rest line behind : List ℕ) → rest ≡ line ++ 10 ∷ behind → length rest ≡ length line + suc (length behind)
    longer rest line behind e = ap length e ∙ length-append line (10 ∷ behind)

    -- and so would each further line, up to the end
    further : (n : ℕ) (front rest : List ℕ) → length rest ≤ n → text ≡ front ++ rest → AreLines front → IsFront F front → ⊥
    further zero front rest few parted whole before = not_refused front rest parted whole before
        (λ line behind one e again. omega (arith, longer rest line behind e, few))
    further (suc n) front rest few parted whole before = not_refused front rest parted whole before
        (λ line behind one e again. further n (front ++ (line ++ 10 ∷ [])) behind (omega (arith, longer rest line behind e, few))
        (parted ∙ ap (λ t. front ++ t) (e ∙ sym (append_assoc line (10 ∷ []) behind)) ∙ sym (append_assoc front (line ++ 10 ∷ []) behind))
        (lines_append front (line ++ 10 ∷ []) whole (10 ∷ line, refl)) again)

    -- it can't be that a text is that of no value and has no first bad line
    pub not_neither : (some : (v : V) × F.Has v) → ⊥
    not_neither some = further (length text) [] text (omega arith) refl ([], refl) (record {
      value = some.0;
      has = some.1;
      more = F.text some.0;
      begun = refl;
    })
