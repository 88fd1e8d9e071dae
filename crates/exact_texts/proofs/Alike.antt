-- Formats with the texts of others: values that are made one to one, and values that are spelled as their parts are.
use Rattle.std.specs.Prelude.{◌≡◌, ℕ, List, ◌++◌}
use Rattle.std.proofs.Common.{refl, ap, sym, subst, ◌∙◌}
use Rattle.exact_texts.specs.Formats.{Format, seen_as}
use Rattle.exact_texts.specs.Lines.{AreLines, StopsAt, Takes, AreLineTexts}

-- A format that has the texts of another stops where that one stops.
pub stops_alike : {A B : Type 0} (F : Format A) (G : Format B) (old new : List ℕ)
    → ((a : A) → F.Has a → (b : B) × G.Has b × (G.text b ≡ F.text a)) → ((b : B) → G.Has b → (a : A) × F.Has a × (G.text b ≡ F.text a))
    → StopsAt F old new → StopsAt G old new
stops_alike F G old new there back s =
    let b = there s.begins.value s.begins.has in
    record {
      front = s.front;
      parted = s.parted;
      whole = s.whole;
      begins = record { value = b.0; has = b.1; more = s.begins.more; unfinished = s.begins.unfinished; begun = b.2 ∙ s.begins.begun };
      refused = λ line behind one e agrees.
          let a = back agrees.value agrees.has in
          s.refused line behind one e (record {
            value = a.0;
            has = a.1;
            behind = agrees.behind;
            more = agrees.more;
            same = ap (λ t. t ++ agrees.behind) (sym a.2) ∙ agrees.same;
          });
    }

-- A format whose values are made one to one of those of another, with the same texts.
pub record AreAlike {A B : Type 0} (F : Format A) (G : Format B) : Type 0 where
  pub make : A → B
  pub made : (a : A) → F.Has a → G.Has (make a) × (G.text (make a) ≡ F.text a)
  pub back : (b : B) → G.Has b → (a : A) × F.Has a × (make a ≡ b)

module _ {A B : Type 0} {F : Format A} {G : Format B} (alike : AreAlike F G) where
  same_text_back : (b : B) → (h : G.Has b) → G.text b ≡ F.text (alike.back b h).0
  same_text_back b h =
      let a = alike.back b h in
      ap G.text (sym a.2) ∙ (alike.made a.0 a.1).1

  pub alike_stops : (old new : List ℕ) → StopsAt F old new → StopsAt G old new
  alike_stops old new s = stops_alike F G old new
      (λ a h. let m = alike.made a h in (alike.make a, m.0, m.1))
      (λ b h. let a = alike.back b h in (a.0, a.1, same_text_back b h)) s

  pub alike_takes : (old new : List ℕ) (a : A) → Takes F old a new → Takes G old (alike.make a) new
  alike_takes old new a t =
      let m = alike.made a t.has in
      record { has = m.0; parted = t.parted ∙ ap (λ x. x ++ new) (sym m.1) }

  pub alike_texts : AreLineTexts F → AreLineTexts G
  alike_texts f = record {
    some = let m = alike.made f.some.0 f.some.1 in (alike.make f.some.0, m.0);
    whole = λ b h. let a = alike.back b h in subst AreLines (sym (same_text_back b h)) (f.whole a.0 a.1);
    exact = λ b d r s h k e.
        let a = alike.back b h in
        let c = alike.back d k in
        let same = f.exact a.0 c.0 r s a.1 c.1 (ap (λ t. t ++ r) (sym (same_text_back b h)) ∙ e ∙ ap (λ t. t ++ s) (same_text_back d k)) in
        (sym a.2 ∙ ap alike.make same.0 ∙ c.2, same.1);
  }

-- Values that are made of parts, and are told by them.
module _ {C V : Type 0} (parts : C → V) (make : V → C) (parts-make : (v : V) → parts (make v) ≡ v)
    (make-parts : (c : C) → make (parts c) ≡ c) (F : Format V) where
  pub stops_seen : (old new : List ℕ) → StopsAt F old new → StopsAt (seen_as parts F) old new
  stops_seen old new s = stops_alike F (seen_as parts F) old new
      (λ v h. (make v, subst F.Has (sym (parts-make v)) h, ap F.text (parts-make v))) (λ c h. (parts c, h, refl)) s

  pub line_texts_seen : AreLineTexts F → AreLineTexts (seen_as parts F)
  line_texts_seen f = record {
    some = (make f.some.0, subst F.Has (sym (parts-make f.some.0)) f.some.1);
    whole = λ c h. f.whole (parts c) h;
    exact = λ c d r s h k e.
        let same = f.exact (parts c) (parts d) r s h k e in
        (sym (make-parts c) ∙ ap make same.0 ∙ make-parts d, same.1);
  }
