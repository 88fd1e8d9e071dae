-- Lists of items are within a line, and their texts tell the items.
use Rattle.std.specs.Prelude.{◌≡◌, ◌≢◌, ℕ, Bool, false, codes, List, [], ◌∷◌, map}
use Rattle.std.specs.List.{AllByRecursion}
use Rattle.std.proofs.Common.{refl, sym, ◌∙◌, append-nil}
use Rattle.std.proofs.lemmas.List.{append_cancel_left}
use Rattle.exact_texts.specs.Texts.{◌⧺◌, Only, other_than, joined, items_text}
use Rattle.exact_texts.specs.Formats.{Format}
use Rattle.exact_texts.specs.Lines.{AreWithinLine}
use Rattle.exact_texts.specs.Lists.{items_of, parts_of, AreItems}
use Rattle.exact_texts.proofs.Cuts.{only_append, cut}

-- Texts with a separator between them. It begins with a byte outside the class, so that each text ends where the separator begins.
pub joined_determines : (class : ℕ → Bool) (c : ℕ) (separator : List ℕ) → class c ≡ false → (x y : List ℕ) (xs ys : List (List ℕ))
    → AllByRecursion (Only class) (x ∷ xs) → AllByRecursion (Only class) (y ∷ ys)
    → joined (c ∷ separator) (x ∷ xs) ≡ joined (c ∷ separator) (y ∷ ys) → x ∷ xs ≡ y ∷ ys
joined_determines class c separator h x y [] [] p q e = λ i. e i ∷ []
joined_determines class c separator h x y [] (w ∷ ys) p q e =
    let parts = cut class x y [] ((c ∷ separator) ⧺ joined (c ∷ separator) (w ∷ ys)) p.0 q.0 tt h (append-nil x ∙ e) in
    let never = parts.1 in
    cc
joined_determines class c separator h x y (v ∷ xs) [] p q e =
    let parts = cut class x y ((c ∷ separator) ⧺ joined (c ∷ separator) (v ∷ xs)) [] p.0 q.0 h tt (e ∙ sym (append-nil y)) in
    let never = parts.1 in
    cc
joined_determines class c separator h x y (v ∷ xs) (w ∷ ys) p q e =
    let parts = cut class x y ((c ∷ separator) ⧺ joined (c ∷ separator) (v ∷ xs)) ((c ∷ separator) ⧺ joined (c ∷ separator) (w ∷ ys))
    p.0 q.0 h h e in
    let first = parts.0 in
    let rest = joined_determines class c separator h v w xs ys p.1 q.1
    (append_cancel_left (c ∷ separator) (joined (c ∷ separator) (v ∷ xs)) (joined (c ∷ separator) (w ∷ ys)) parts.1) in
    λ i. first i ∷ rest i

-- of a class that has the bytes of the texts and of the separator
pub only_joined : (class : ℕ → Bool) (separator : List ℕ) → Only class separator → (xs : List (List ℕ))
    → AllByRecursion (Only class) xs → Only class (joined separator xs)
only_joined class separator h [] p = refl
only_joined class separator h (x ∷ []) p = p.0
only_joined class separator h (x ∷ y ∷ xs) p =
    only_append class x (separator ⧺ joined separator (y ∷ xs)) p.0
    (only_append class separator (joined separator (y ∷ xs)) h (only_joined class separator h (y ∷ xs) p.1))

module _ {V : Type 0} (F : Format V) where
  pub each_text : (class : ℕ → Bool) → ((v : V) → F.Has v → Only class (F.text v)) → (vs : List V) → AllByRecursion F.Has vs
      → AllByRecursion (Only class) (map F.text vs)
  each_text class only [] p = tt
  each_text class only (v ∷ vs) p = (only v p.0, each_text class only vs p.1)

  texts_determine : ((v w : V) → F.Has v → F.Has w → F.text v ≡ F.text w → v ≡ w)
      → (vs ws : List V) → AllByRecursion F.Has vs → AllByRecursion F.Has ws
      → map F.text vs ≡ map F.text ws → vs ≡ ws
  texts_determine d [] [] p q e = refl
  texts_determine d [] (w ∷ ws) p q e = cc
  texts_determine d (v ∷ vs) [] p q e = cc
  texts_determine d (v ∷ vs) (w ∷ ws) p q e =
      let head : F.text v ≡ F.text w = cc in
      let tail : map F.text vs ≡ map F.text ws = cc in
      let first = d v w p.0 q.0 head in
      let rest = texts_determine d vs ws p.1 q.1 tail in
      λ i. first i ∷ rest i

  module _ (f : AreWithinLine F) (items : AreItems F) where
    joined_tell : (stop : ℕ) → other_than stop stop ≡ false → ((v : V) → F.Has v → Only (other_than stop) (F.text v))
        → (vs ws : List V) → vs ≢ [] → ws ≢ [] → AllByRecursion F.Has vs → AllByRecursion F.Has ws
        → joined (stop ∷ 32 ∷ []) (map F.text vs) ≡ joined (stop ∷ 32 ∷ []) (map F.text ws) → vs ≡ ws
    joined_tell stop h only [] ws some more p q e = absurd (some refl)
    joined_tell stop h only (v ∷ vs) [] some more p q e = absurd (more refl)
    joined_tell stop h only (v ∷ vs) (w ∷ ws) some more p q e =
        texts_determine f.determined (v ∷ vs) (w ∷ ws) p q
        (joined_determines (other_than stop) stop (32 ∷ []) h (F.text v) (F.text w) (map F.text vs) (map F.text ws)
        (each_text (other_than stop) only (v ∷ vs) p) (each_text (other_than stop) only (w ∷ ws) q) e)

    none_apart : (w : V) (ws : List V) → AllByRecursion F.Has (w ∷ ws) → codes "-" ≢ items_text (map F.text (w ∷ ws))
    none_apart w ws q e =
        let same = joined_determines (other_than 44) 44 (32 ∷ []) refl (codes "-") (F.text w) [] (map F.text ws)
        (refl, tt) (each_text (other_than 44) items.commas (w ∷ ws) q) e in
        let head : codes "-" ≡ F.text w = cc in
        items.not_none w q.0 (sym head)

    items_tell : (vs ws : List V) → AllByRecursion F.Has vs → AllByRecursion F.Has ws
        → items_text (map F.text vs) ≡ items_text (map F.text ws) → vs ≡ ws
    items_tell [] [] p q e = refl
    items_tell [] (w ∷ ws) p q e = absurd (none_apart w ws q e)
    items_tell (v ∷ vs) [] p q e = absurd (none_apart v vs p (sym e))
    items_tell (v ∷ vs) (w ∷ ws) p q e = joined_tell 44 refl items.commas (v ∷ vs) (w ∷ ws) (λ n. cc) (λ n. cc) p q e

    items_within : (class : ℕ → Bool) → Only class (codes ", ") → Only class (codes "-") → ((v : V) → F.Has v → Only class (F.text v))
        → (vs : List V) → AllByRecursion F.Has vs → Only class (items_text (map F.text vs))
    items_within class h k only [] p = k
    items_within class h k only (v ∷ vs) p = only_joined class (codes ", ") h (map F.text (v ∷ vs)) (each_text class only (v ∷ vs) p)

    -- what is found of the pieces of a text are the texts of its items
    pub found_items : (text : List ℕ) (found : List (List ℕ)) → text ≢ codes "-"
        → ((xs : List (List ℕ)) → xs ≢ [] → AllByRecursion (Only (other_than 44)) xs → text ≡ joined (44 ∷ 32 ∷ []) xs → found ≡ xs)
        → (vs : List V) → AllByRecursion F.Has vs → text ≡ items_text (map F.text vs) → found ≡ map F.text vs
    found_items text found some pieces [] p e = absurd (some e)
    found_items text found some pieces (v ∷ vs) p e =
        pieces (map F.text (v ∷ vs)) (λ n. cc) (each_text (other_than 44) items.commas (v ∷ vs) p) e

    pub items_within_line : AreWithinLine (items_of F)
    items_within_line = record {
      some = ([], tt);
      within = λ vs p. items_within (other_than 10) refl refl f.within vs p;
      determined = λ vs ws p q e. items_tell vs ws p q e;
    }

    pub items_without_semicolon : (vs : List V) → AllByRecursion F.Has vs → Only (other_than 59) (items_text (map F.text vs))
    items_without_semicolon vs p = items_within (other_than 59) refl refl items.semicolons vs p

    pub parts_within_line : AreWithinLine (parts_of F)
    parts_within_line = record {
      some = (f.some.0 ∷ [], ((λ n. cc), (f.some.1, tt)));
      within = λ vs p. only_joined (other_than 10) (codes "; ") refl (map F.text vs) (each_text (other_than 10) f.within vs p.1);
      determined = λ vs ws p q e. joined_tell 59 refl items.semicolons vs ws p.0 q.0 p.1 q.1 e;
    }

    -- what is found of the pieces of parts are the texts of the parts
    pub found_parts : (text : List ℕ) (found : List (List ℕ)) → ((xs : List (List ℕ)) → xs ≢ [] → AllByRecursion (Only (other_than 59)) xs
        → text ≡ joined (59 ∷ 32 ∷ []) xs → found ≡ xs)
        → (vs : List V) → (vs ≢ []) × AllByRecursion F.Has vs → text ≡ (parts_of F).text vs → found ≡ map F.text vs
    found_parts text found pieces [] p e = absurd (p.0 refl)
    found_parts text found pieces (v ∷ vs) p e =
        pieces (map F.text (v ∷ vs)) (λ n. cc) (each_text (other_than 59) items.semicolons (v ∷ vs) p.1) e
