-- Formats of lines in turn: their laws, what is read, and where reading stops.
use Rattle.std.specs.Prelude.{◌≡◌, ℕ, List, [], ◌∷◌, ◌++◌}
use Rattle.std.proofs.Common.{refl, ap, sym, subst, ◌∙◌, append_assoc}
use Rattle.exact_texts.specs.Formats.{Format, in_turn}
use Rattle.exact_texts.specs.Lines.{AreLines, Agrees, StopsAt, Takes, AreLineTexts}

pub front_empty : (xs ys : List ℕ) → xs ++ ys ≡ [] → xs ≡ []
front_empty [] ys e = refl
front_empty (x ∷ xs) ys e = cc

pub lines_append : (xs ys : List ℕ) → AreLines xs → AreLines ys → AreLines (xs ++ ys)
lines_append xs ys p q =
    (p.0 ++ q.0, ap (λ t. t ++ ys) p.1 ∙ append_assoc p.0 (10 ∷ []) ys ∙ ap (λ t. p.0 ++ t) q.1 ∙ sym (append_assoc p.0 q.0 (10 ∷ [])))

module _ {A B : Type 0} (F : Format A) (G : A → Format B) where
  pub takes_in_turn : (old mid new : List ℕ) (a : A) (b : B) → Takes F old a mid → Takes (G a) mid b new → Takes (in_turn F G) old (a, b) new
  takes_in_turn old mid new a b p q = record {
    has = (p.has, q.has);
    parted = p.parted ∙ ap (λ t. F.text a ++ t) q.parted ∙ sym (append_assoc (F.text a) ((G a).text b) new);
  }

  -- the first value isn't there
  pub stops_first : (old new : List ℕ) → ((a : A) → F.Has a → (b : B) × (G a).Has b) → StopsAt F old new → StopsAt (in_turn F G) old new
  stops_first old new some s =
      let a = s.begins.value in
      let b = some a s.begins.has in
      record {
        front = s.front;
        parted = s.parted;
        whole = s.whole;
        begins = record {
          value = (a, b.0);
          has = (s.begins.has, b.1);
          more = s.begins.more ++ (G a).text b.0;
          unfinished = λ e. s.begins.unfinished (front_empty s.begins.more ((G a).text b.0) e);
          begun = ap (λ t. t ++ (G a).text b.0) s.begins.begun ∙ append_assoc s.front s.begins.more ((G a).text b.0);
        };
        refused = λ line behind one e agrees. s.refused line behind one e (record {
          value = agrees.value.0;
          has = agrees.has.0;
          behind = (G agrees.value.0).text agrees.value.1 ++ agrees.behind;
          more = agrees.more;
          same = sym (append_assoc (F.text agrees.value.0) ((G agrees.value.0).text agrees.value.1) agrees.behind) ∙ agrees.same;
        });
      }

  -- the first value is there, and what comes behind it isn't
  pub stops_behind : (old mid new : List ℕ) (a : A) → AreLineTexts F → Takes F old a mid → StopsAt (G a) mid new → StopsAt (in_turn F G) old new
  stops_behind old mid new a f p s = record {
    front = F.text a ++ s.front;
    parted = p.parted ∙ ap (λ t. F.text a ++ t) s.parted ∙ sym (append_assoc (F.text a) s.front new);
    whole = lines_append (F.text a) s.front (f.whole a p.has) s.whole;
    begins = record {
      value = (a, s.begins.value);
      has = (p.has, s.begins.has);
      more = s.begins.more;
      unfinished = s.begins.unfinished;
      begun = ap (λ t. F.text a ++ t) s.begins.begun ∙ sym (append_assoc (F.text a) s.front s.begins.more);
    };
    refused = λ line behind one e agrees.
        let line_end = line ++ 10 ∷ [] in
        let v = agrees.value.0 in
        let w = agrees.value.1 in
        let same = f.exact v a ((G v).text w ++ agrees.behind) ((s.front ++ line_end) ++ agrees.more) agrees.has.0 p.has
        (sym (append_assoc (F.text v) ((G v).text w) agrees.behind) ∙ agrees.same
        ∙ ap (λ t. t ++ agrees.more) (append_assoc (F.text a) s.front line_end)
        ∙ append_assoc (F.text a) (s.front ++ line_end) agrees.more) in
        s.refused line behind one e (subst (λ x. Agrees (G x) (s.front ++ line_end)) same.0 (record {
          value = w;
          has = agrees.has.1;
          behind = agrees.behind;
          more = agrees.more;
          same = same.1;
        }));
  }

  pub line_texts_in_turn : AreLineTexts F → ((a : A) → F.Has a → AreLineTexts (G a)) → AreLineTexts (in_turn F G)
  line_texts_in_turn f g = record {
    some = let a = f.some in let b = (g a.0 a.1).some in ((a.0, b.0), (a.1, b.1));
    whole = λ p h. lines_append (F.text p.0) ((G p.0).text p.1) (f.whole p.0 h.0) ((g p.0 h.0).whole p.1 h.1);
    exact = λ p q r s h k e.
        let first = f.exact p.0 q.0 ((G p.0).text p.1 ++ r) ((G q.0).text q.1 ++ s) h.0 k.0
        (sym (append_assoc (F.text p.0) ((G p.0).text p.1) r) ∙ e ∙ append_assoc (F.text q.0) ((G q.0).text q.1) s) in
        let second = (g q.0 k.0).exact p.1 q.1 r s (subst (λ x. (G x).Has p.1) first.0 h.1) k.1
        (ap (λ x. (G x).text p.1 ++ r) (sym first.0) ∙ first.1) in
        (λ i. (first.0 i, second.0 i), second.1);
  }
