use Rattle.std.proofs.Common.{take, drop, ◌∙◌}
use Rattle.std.proofs.lemmas.List.{take-append-drop}
use Rattle.exact_texts.proofs.Cuts.{cut}
use Rattle.cert_text.specs.Reading.{outside}
use Rattle.cert_text.proofs.cutting.until.Goals as goal

-- a text is cut in one way
pub returns : goal.returns
returns c = record {
  cut = λ front back p q e.
      let n = c.length_until.result in
      let text = c.args.text.now in
      let parts = cut (outside c.args.stops.now) (take n text) front (drop n text) back c.length_until.ensures.front p c.length_until.ensures.back q
      (take-append-drop n text ∙ e) in
      (c.split_at.ensures.front ∙ parts.0, c.split_at.ensures.back ∙ parts.1);
}
