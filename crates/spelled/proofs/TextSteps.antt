-- The text of a value is that of no other.
use Rattle.std.specs.Prelude.{◌≡◌, ℕ, List, []}
use Rattle.std.proofs.Common.{sym, ◌∙◌, append-nil}
use Rattle.exact_texts.specs.Formats.{Format}
use Rattle.exact_texts.specs.Lines.{Takes, AreLineTexts}

module _ {V : Type 0} (F : Format V) (f : AreLineTexts F) where
  pub texts_tell : (v w : V) → F.Has v → F.Has w → F.text v ≡ F.text w → v ≡ w
  texts_tell v w h k e = (f.exact v w [] [] h k (append-nil (F.text v) ∙ e ∙ sym (append-nil (F.text w)))).0

  -- the value of a text is the one that was read in front of what is left
  pub value_read : (text new : List ℕ) (v w : V) → Takes F text v new → F.Has w → text ≡ F.text w → v ≡ w
  value_read text new v w t h e = (f.exact v w new [] t.has h (sym t.parted ∙ e ∙ sym (append-nil (F.text w)))).0
