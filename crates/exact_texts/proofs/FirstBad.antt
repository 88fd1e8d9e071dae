-- The line at which reading stops, and a line behind a whole value, are the first bad line of a text.
use Rattle.std.specs.Prelude.{◌≡◌, ◌≢◌, ◌⊎◌, ℕ, suc, Bool, true, false, not, nat_eq, List, [], ◌∷◌, ◌++◌}
use Rattle.std.specs.List.{list_all}
use Rattle.std.proofs.Common.{refl, ap, sym, subst, ◌∙◌, append_assoc, append-nil, inl, inr, ⊎_elim}
use Rattle.std.proofs.lemmas.Bool.{and_from, eqb-true}
use Rattle.exact_texts.specs.Texts.{InOneLine, other_than}
use Rattle.exact_texts.specs.Formats.{Format}
use Rattle.exact_texts.specs.Lines.{Agrees, StopsAt, Takes, AreLineTexts}
use Rattle.exact_texts.specs.FirstBadLine.{newlines, carried, IsFront, IsFirstBadLine}
use Rattle.exact_texts.proofs.Formats.{front_empty}
use Rattle.exact_texts.proofs.OneLine.{not_one}

-- a text has no newline, or a first line
abbrev FirstLine : List ℕ → Type 0
FirstLine xs = InOneLine xs ⊎ ((line : List ℕ) × (behind : List ℕ) × InOneLine line × (xs ≡ line ++ 10 ∷ behind))

first_line_more : (x : ℕ) (xs : List ℕ) (b : Bool) → nat_eq x 10 ≡ b → FirstLine xs → FirstLine (x ∷ xs)
first_line_more x xs true e found = inr ([], xs, refl, λ i. eqb-true x 10 e i ∷ xs)
first_line_more x xs false e (inl p) = inl (and_from (other_than 10 x) (list_all (other_than 10) xs) (ap not e) p)
first_line_more x xs false e (inr l) =
    inr (x ∷ l.0, l.1, and_from (other_than 10 x) (list_all (other_than 10) l.0) (ap not e) l.2, ap (λ t. x ∷ t) l.3)

pub first_line : (xs : List ℕ) → FirstLine xs
first_line [] = inl refl
first_line (x ∷ xs) = first_line_more x xs (nat_eq x 10) refl (first_line xs)

-- a text of lines has no unended line at its end
pub unended : (xs ys zs : List ℕ) → InOneLine ys → ys ≢ [] → xs ++ ys ≡ zs ++ 10 ∷ [] → ⊥
unended [] ys zs p some e = not_one zs [] (subst InOneLine e p)
unended (x ∷ xs) ys [] p some e =
    let rest : xs ++ ys ≡ [] = cc in
    ends xs ys some rest
  where
    ends : (us vs : List ℕ) → vs ≢ [] → us ++ vs ≡ [] → ⊥
    ends [] vs n h = n h
    ends (u ∷ us) vs n h = cc
unended (x ∷ xs) ys (z ∷ zs) p some e =
    let rest : xs ++ ys ≡ zs ++ 10 ∷ [] = cc in
    unended xs ys zs p some rest

module _ {V : Type 0} (F : Format V) (f : AreLineTexts F) (text : List ℕ) where
  agrees : (xs : List ℕ) → IsFront F xs → Agrees F xs
  agrees xs p = record { value = p.value; has = p.has; behind = []; more = p.more; same = append-nil (F.text p.value) ∙ p.begun }

  -- no value has a text that ends where reading stops
  refused_there : (rest : List ℕ) → StopsAt F text rest → (v : V) → F.Has v → text ≢ F.text v
  refused_there rest s v h e = ⊎_elim here (λ l. s.refused l.0 l.1 l.2 l.3 (agrees _ (record {
    value = v;
    has = h;
    more = l.1;
    begun = sym e ∙ s.parted ∙ ap (λ t. s.front ++ t) (l.3 ∙ sym (append_assoc l.0 (10 ∷ []) l.1)) ∙ sym (append_assoc s.front (l.0 ++ 10 ∷ []) l.1);
  }))) (first_line rest)
    where
      ended : (r : List ℕ) → rest ≡ r → InOneLine r → ⊥
      ended [] n p =
          let same = f.exact s.begins.value v [] s.begins.more s.begins.has h
          (append-nil (F.text s.begins.value) ∙ s.begins.begun
          ∙ ap (λ t. t ++ s.begins.more) (sym (append-nil s.front) ∙ ap (λ t. s.front ++ t) (sym n) ∙ sym s.parted ∙ e)) in
          s.begins.unfinished (sym same.1)
      ended (x ∷ xs) n p =
          let lines = f.whole v h in
          unended (10 ∷ s.front) (x ∷ xs) lines.0 p (λ q. cc)
          (ap (λ t. 10 ∷ t) (ap (λ t. s.front ++ t) (sym n) ∙ sym s.parted ∙ e) ∙ lines.1)

      here : InOneLine rest → ⊥
      here p = ended rest refl p

  pub bad_where_stopped : (rest : List ℕ) (at : ℕ) (s : StopsAt F text rest) → at ≡ suc (newlines s.front) → IsFirstBadLine F text at
  bad_where_stopped rest at s e = record {
    refused = refused_there rest s;
    front = s.front;
    rest = rest;
    parted = s.parted;
    whole = s.whole;
    number = e;
    before = record { value = s.begins.value; has = s.begins.has; more = s.begins.more; begun = s.begins.begun };
    here = λ line behind p q front. s.refused line behind p q (agrees _ front);
  }

  pub bad_behind : (v : V) (rest : List ℕ) (at : ℕ) → Takes F text v rest → rest ≢ [] → at ≡ suc (newlines (F.text v)) → IsFirstBadLine F text at
  bad_behind v rest at t some e = record {
    refused = λ w h same. some (f.exact v w rest [] t.has h (sym t.parted ∙ same ∙ sym (append-nil (F.text w)))).1;
    front = F.text v;
    rest = rest;
    parted = t.parted;
    whole = f.whole v t.has;
    number = e;
    before = record { value = v; has = t.has; more = []; begun = sym (append-nil (F.text v)) };
    here = λ line behind p q front.
        let same = f.exact v front.value ((line ++ 10 ∷ []) ++ front.more) [] t.has front.has
        (sym (append_assoc (F.text v) (line ++ 10 ∷ []) front.more) ∙ sym front.begun ∙ sym (append-nil (F.text front.value))) in
        not_ended line (front_empty (line ++ 10 ∷ []) front.more same.1);
  }
    where
      not_ended : (xs : List ℕ) → xs ++ 10 ∷ [] ≡ [] → ⊥
      not_ended [] h = cc
      not_ended (x ∷ xs) h = cc

  -- the line that is named by its number
  pub named_where_stopped : (rest : List ℕ) (at : ℕ) → StopsAt F text rest
      → ((front : List ℕ) → text ≡ front ++ rest → at ≡ carried (suc (newlines front)))
      → (line : ℕ) × IsFirstBadLine F text line × (at ≡ carried line)
  named_where_stopped rest at s number = (suc (newlines s.front), bad_where_stopped rest (suc (newlines s.front)) s refl, number s.front s.parted)

  pub named_behind : (v : V) (rest : List ℕ) (at : ℕ) → Takes F text v rest → rest ≢ []
      → ((front : List ℕ) → text ≡ front ++ rest → at ≡ carried (suc (newlines front)))
      → (line : ℕ) × IsFirstBadLine F text line × (at ≡ carried line)
  named_behind v rest at t some number =
      (suc (newlines (F.text v)), bad_behind v rest (suc (newlines (F.text v))) t some refl, number (F.text v) t.parted)
