-- Values beside each other are within a line, and tell the values.
use Rattle.std.specs.Prelude.{◌≡◌, ℕ, Bool, false, not, List, ◌∷◌, ◌++◌}
use Rattle.std.proofs.Common.{refl, ap}
use Rattle.std.proofs.lemmas.Bool.{eq-eqb}
use Rattle.std.proofs.lemmas.List.{append_cancel_left}
use Rattle.exact_texts.specs.Texts.{Only, other_than, InOneLine}
use Rattle.exact_texts.specs.Formats.{Format}
use Rattle.exact_texts.specs.Lines.{AreWithinLine}
use Rattle.exact_texts.specs.Beside.{beside, worded, IsWithout}
use Rattle.exact_texts.proofs.Cuts.{only_append, cut}

module _ {A B : Type 0} (F : Format A) (stop : ℕ) (tail : List ℕ) (G : Format B) where
  pub beside_only : (class : ℕ → Bool) → Only class (stop ∷ tail)
      → ((v : A) → F.Has v → Only class (F.text v)) → ((w : B) → G.Has w → Only class (G.text w))
      → (p : A × B) → (beside F (stop ∷ tail) G).Has p → Only class ((beside F (stop ∷ tail) G).text p)
  beside_only class s f g p h = only_append class (F.text p.0) ((stop ∷ tail) ++ G.text p.1) (f p.0 h.0)
      (only_append class (stop ∷ tail) (G.text p.1) s (g p.1 h.1))

  pub beside_within_line : IsWithout stop F → InOneLine (stop ∷ tail) → AreWithinLine F → AreWithinLine G → AreWithinLine (beside F (stop ∷ tail) G)
  beside_within_line without one f g = record {
    some = ((f.some.0, g.some.0), (f.some.1, g.some.1));
    within = beside_only (other_than 10) one f.within g.within;
    determined = λ p q h k e.
        let outside : other_than stop stop ≡ false = ap not (eq-eqb stop stop refl) in
        let parts = cut (other_than stop) (F.text p.0) (F.text q.0) ((stop ∷ tail) ++ G.text p.1) ((stop ∷ tail) ++ G.text q.1)
        (without p.0 h.0) (without q.0 k.0) outside outside e in
        let first = f.determined p.0 q.0 h.0 k.0 parts.0 in
        let second = g.determined p.1 q.1 h.1 k.1 (append_cancel_left (stop ∷ tail) (G.text p.1) (G.text q.1) parts.1) in
        λ i. (first i, second i);
  }

pub worded_within_line : {A : Type 0} (word : List ℕ) (F : Format A) → InOneLine word → AreWithinLine F → AreWithinLine (worded word F)
worded_within_line word F one f = record {
  some = f.some;
  within = λ v h. only_append (other_than 10) word (F.text v) one (f.within v h);
  determined = λ v w h k e. f.determined v w h k (append_cancel_left word (F.text v) (F.text w) e);
}
