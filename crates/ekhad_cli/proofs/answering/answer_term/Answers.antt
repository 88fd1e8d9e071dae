use Rattle.std.proofs.Common.{refl, ap, ◌∙◌, subst, arith, map}
use Rattle.std.specs.Prelude.{ℤ}
use Rattle.ring_laws.specs.Meaning.{Meaning, number, listed}
use Rattle.ring_laws.specs.declared.wholes.Whole.{Whole}
use Rattle.document_text.specs.Document.{document_text}
use Rattle.cert_text.specs.PolynomialDocument.{polynomial_document}
use Rattle.proper_term.specs.TermOf.{term_of}
use Rattle.term_text.specs.View.{tree_of}
use Rattle.ekhad_cli.specs.Answer.{IsAntidifferenceOf}
use Rattle.ekhad_cli.specs.FirstRun.{polynomial_of}
use Rattle.ekhad_cli.proofs.AnsweredTerms.{answered}
use Rattle.ekhad_cli.proofs.answering.answer_term.Goals as goal

-- the tree has no class
pub returns-in-Err-classify-clause-cause : goal.returns-in-Err-classify-clause-cause
returns-in-Err-classify-clause-cause c =
    c.refusal_of_class.ensures.cause c.args.input.now (tree_of c.in-Ok.ast) c.requires.short c.in-Ok.ensures.reads c.in-Err-classify.ensures.class

-- what was read, classified, found and printed
pub returns-in-Ok-print_poly_doc-clause-output : goal.returns-in-Ok-print_poly_doc-clause-output
returns-in-Ok-print_poly_doc-clause-output c =
    let doc = c.in-Ok-gosper.doc in
    let term = c.in-Some.term in
    let found = c.in-Ok-gosper.ensures in
    let poly = found.poly in
    let y : Meaning = listed (map (λ (w : Whole). number w.value) doc.y.list.items) in (
      refl,
      answered c.args.input.now c.in-Ok-print_poly_doc.text.items (tree_of c.in-Ok.ast) (term_of c.in-Ok-classify.class) term.coefficients term.scale
          doc.multiplier.value y c.in-Ok.ensures.reads c.in-Ok-classify.ensures.class c.in-Ok-classify.ensures.value c.in-Some.ensures.numbers
          (subst (λ (m : Meaning). IsAntidifferenceOf m doc.multiplier.value y) poly found.antidifference)
          (omega (arith, c.in-Some.ensures.numbers.small_scale)) doc.multiplier.small
          (c.in-Ok-print_poly_doc.ensures.text ∙ ap (λ (m : Meaning). document_text (polynomial_document m doc.scale.value doc.multiplier.value doc.carrier_scale.value y)) poly
          ∙ ap (λ (z : ℤ). document_text (polynomial_document (polynomial_of term.coefficients) z doc.multiplier.value doc.carrier_scale.value y)) found.scale
          ∙ ap (λ (z : ℤ). document_text (polynomial_document (polynomial_of term.coefficients) term.scale doc.multiplier.value z y)) found.carrier),
    )
