use lib.Pointwise.{pointwise}
use Rattle.std.proofs.Common.{◌≡◌, true, false, eqb, ap, sym, subst, ◌∙◌}
use Rattle.cert_text.proofs.Prefixes.{same_word}
use Rattle.cert_text.proofs.Lines.{PartsAt, first_bad_line}
use Rattle.cert_text.proofs.reading.read_poly_doc.Goals as goal

differ : true ≡ false → ⊥
differ d = cc

-- the first line at which no document goes on as the text does
pub returns-clause-line : goal.returns-clause-line
returns-clause-line c = λ at e.
    let printed = c.in-Ok-print_poly_doc.ensures.text in
    let text = c.args.text.now in
    let line = c.line_of_difference.result in
    first_bad_line text _ line at c.in-Ok.ensures.readable
    (λ same. differ (sym (same_word text) ∙ ap (λ t. pointwise eqb t text) (same ∙ sym (c.as_slice.ensures.value ∙ printed))
    ∙ sym c.eq.ensures ∙ c.if-eq.false))
    c.in-Ok.ensures.lines c.in-Ok.ensures.whole
    (subst (λ t. PartsAt text t line) (c.deref.ensures.value ∙ printed) c.line_of_difference.ensures.parts) cc
