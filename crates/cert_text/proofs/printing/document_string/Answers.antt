use Rattle.std.proofs.Common.{◌∙◌, string_bytes}
use Rattle.std.proofs.lemmas.Result.{IfOk-weaker}
use Rattle.ring_laws.specs.Meaning.{listed}
use Rattle.cert_text.specs.Printing.{numbers}
use Rattle.cert_text.proofs.Assembled.{assembled}
use Rattle.cert_text.proofs.printing.document_string.Goals as goal

-- the pieces are those of the document's text
pub returns : goal.returns
returns c =
    let parts = c.args.parts.now in
    let whole = assembled (listed (numbers parts.poly.now)) (listed (numbers parts.y.now)) parts.scale.value parts.multiplier.value parts.carrier_scale.value
    (string_bytes c.in_ok-poly.poly) (string_bytes c.in_ok-scale.scale) (string_bytes c.in_ok-multiplier.multiplier)
    (string_bytes c.in_ok-carrier_scale.carrier_scale) (string_bytes c.in_ok-y.y)
    c.in_ok-poly.ensures c.in_ok-scale.ensures c.in_ok-multiplier.ensures c.in_ok-carrier_scale.ensures c.in_ok-y.ensures in
    IfOk-weaker c.format.result _ _ (λ s p. p ∙ whole) c.format.ensures.ok
