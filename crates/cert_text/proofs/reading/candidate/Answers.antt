use Rattle.cert_text.specs.Readable.{contents}
use Rattle.cert_text.proofs.FieldsOfText.{Fields, AreFields, Agrees}
use Rattle.cert_text.proofs.ContentsReading.{lines_explained, text_explained}
use Rattle.cert_text.proofs.reading.candidate.Goals as goal

-- the lines of a document that the text has are those of the one that is read
pub returns-clause-lines : goal.returns-clause-lines
returns-clause-lines c = λ d readable n same.
    let f : Fields = record {
      poly = c.field.result.0.now;
      scale = c.field-2.result.0.now;
      multiplier = c.field-3.result.0.now;
      carrier_scale = c.field-4.result.0.now;
      y = c.field-5.result.0.now;
    } in
    let is : AreFields c.args.text.now f = record {
      rest_1 = c.field.result.1.now;
      rest_2 = c.field-2.result.1.now;
      rest_3 = c.field-3.result.1.now;
      rest_4 = c.field-4.result.1.now;
      rest_5 = c.field-5.result.1.now;
      poly = c.field.ensures.cut;
      scale = c.field-2.ensures.cut;
      multiplier = c.field-3.ensures.cut;
      carrier_scale = c.field-4.ensures.cut;
      y = c.field-5.ensures.cut;
    } in
    let agrees : Agrees f d (contents _ c.scale_of_field.result.value c.number_of_field.result.value c.scale_of_field-2.result.value _) = record {
      poly = c.in_ok-term_polynomial_of_field.ensures.read d.poly readable.poly readable.not_zero readable.degree;
      scale = c.scale_of_field.ensures.read d.scale readable.scale readable.scale_not_zero;
      multiplier = c.number_of_field.ensures.read d.multiplier readable.multiplier;
      carrier_scale = c.scale_of_field-2.ensures.read d.carrier_scale readable.carrier_scale readable.carrier_not_zero;
      y = c.in_ok-polynomial_of_field.ensures.read d.y readable.y;
    } in
    lines_explained c.args.text.now f is d _ readable agrees n same

-- and so is the whole text
pub returns-clause-whole : goal.returns-clause-whole
returns-clause-whole c = λ d readable e.
    let f : Fields = record {
      poly = c.field.result.0.now;
      scale = c.field-2.result.0.now;
      multiplier = c.field-3.result.0.now;
      carrier_scale = c.field-4.result.0.now;
      y = c.field-5.result.0.now;
    } in
    let is : AreFields c.args.text.now f = record {
      rest_1 = c.field.result.1.now;
      rest_2 = c.field-2.result.1.now;
      rest_3 = c.field-3.result.1.now;
      rest_4 = c.field-4.result.1.now;
      rest_5 = c.field-5.result.1.now;
      poly = c.field.ensures.cut;
      scale = c.field-2.ensures.cut;
      multiplier = c.field-3.ensures.cut;
      carrier_scale = c.field-4.ensures.cut;
      y = c.field-5.ensures.cut;
    } in
    let agrees : Agrees f d (contents _ c.scale_of_field.result.value c.number_of_field.result.value c.scale_of_field-2.result.value _) = record {
      poly = c.in_ok-term_polynomial_of_field.ensures.read d.poly readable.poly readable.not_zero readable.degree;
      scale = c.scale_of_field.ensures.read d.scale readable.scale readable.scale_not_zero;
      multiplier = c.number_of_field.ensures.read d.multiplier readable.multiplier;
      carrier_scale = c.scale_of_field-2.ensures.read d.carrier_scale readable.carrier_scale readable.carrier_not_zero;
      y = c.in_ok-polynomial_of_field.ensures.read d.y readable.y;
    } in
    text_explained c.args.text.now f is d _ readable agrees e
