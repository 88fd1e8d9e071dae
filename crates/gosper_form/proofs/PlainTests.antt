-- A term is plain where its lists are those of a plain term.
use Rattle.std.proofs.Common.{◌≡◌, ◌↔◌, List, IsTrue, Bool}
use Rattle.hypergeometric.specs.LinearForm.{Factor}
use Rattle.hypergeometric.specs.ProperTerm.{ProperTerm}
use Rattle.hypergeometric.specs.TermFacts.{IsProper, IsPlain}
use Rattle.std.proofs.Common.{subst}
use Rattle.gosper_form.specs.PlainLists.{ArePlainLists}

plain_from : (f : ProperTerm) → IsProper f → ArePlainLists f.up f.down f.over f.guard → IsPlain f
plain_from f proper h = record {
  proper = proper;
  cancelled = h.cancelled;
  up = h.within.0;
  down = h.within.1;
  over = h.within.2;
  guard = h.within.3;
  few = h.few;
}

lists_from : (f : ProperTerm) → IsPlain f → ArePlainLists f.up f.down f.over f.guard
lists_from f h = record { within = (h.up, h.down, h.over, h.guard); cancelled = h.cancelled; few = h.few }

pub plain_test : (f : ProperTerm) (up down over guard : List Factor) (b : Bool) → up ≡ f.up → down ≡ f.down → over ≡ f.over → guard ≡ f.guard → IsProper f
    → (IsTrue b ↔ ArePlainLists up down over guard) → (IsTrue b ↔ IsPlain f)
plain_test f up down over guard b e g h k proper test =
    let same : ArePlainLists up down over guard ≡ ArePlainLists f.up f.down f.over f.guard = λ i. ArePlainLists (e i) (g i) (h i) (k i) in
    let now : IsTrue b ↔ ArePlainLists f.up f.down f.over f.guard = subst (λ (P : Type 0). IsTrue b ↔ P) same test in
    (λ t. plain_from f proper (now.0 t), λ p. now.1 (lists_from f p))
