-- What is spelled as its parts are is within a line and can stand in lists as they do.
use Rattle.std.specs.Prelude.{◌≡◌}
use Rattle.std.proofs.Common.{subst, sym, ◌∙◌}
use Rattle.exact_texts.specs.Texts.{Only, other_than, InOneLine}
use Rattle.exact_texts.specs.Formats.{Format}
use Rattle.exact_texts.specs.Lines.{AreWithinLine}
use Rattle.exact_texts.specs.Lists.{AreItems}

-- Each value of the second format has parts with the same text, and the first format has these parts.
module _ {C V : Type 0} (F : Format V) (G : Format C) (parts : C → V) (has : (c : C) → G.Has c → F.Has (parts c))
    (same : (c : C) → G.text c ≡ F.text (parts c)) where
  -- where the parts tell the value, its text does
  pub seen_within_line : (c : C) → G.Has c → ((c d : C) → G.Has c → G.Has d → parts c ≡ parts d → c ≡ d) → AreWithinLine F → AreWithinLine G
  seen_within_line c h told f = record {
    some = (c, h);
    within = λ d p. subst InOneLine (sym (same d)) (f.within (parts d) (has d p));
    determined = λ d e p q x. told d e p q (f.determined (parts d) (parts e) (has d p) (has e q) (sym (same d) ∙ x ∙ same e));
  }

  pub seen_are_items : AreItems F → AreItems G
  seen_are_items f = record {
    commas = λ c p. subst (Only (other_than 44)) (sym (same c)) (f.commas (parts c) (has c p));
    semicolons = λ c p. subst (Only (other_than 59)) (sym (same c)) (f.semicolons (parts c) (has c p));
    not_none = λ c p x. f.not_none (parts c) (has c p) (sym (same c) ∙ x);
  }
