use Rattle.std.proofs.Common.{arith}
use Rattle.std.proofs.lemmas.Int.{ints}
use Rattle.ring_laws.specs.Meaning.{listed}
use Rattle.cert_text.specs.Printing.{numbers}
use Rattle.cert_text.specs.Readable.{Contents, contents}
use Rattle.cert_checker.specs.Checks.{HasCarrier}
use Rattle.cert_checker.proofs.Identities.{claim_telescopes}
use Rattle.cert_checker.proofs.checking.check_poly.Goals as goal

-- all three tests hold
pub returns-in-Ok-true-clause-telescopes : goal.returns-in-Ok-true-clause-telescopes
returns-in-Ok-true-clause-telescopes c = λ not_zero accepted.
    let doc = c.args.doc.now in
    let d : Contents = contents (listed (numbers doc.poly.list.items)) doc.scale.value doc.multiplier.value doc.carrier_scale.value
    (listed (numbers doc.y.list.items)) in
    let carrier : HasCarrier d = omega (arith, ints, c.if-value.false, c.value.ensures.value, c.value-2.ensures.value) in
    claim_telescopes d not_zero carrier (c.in-Ok-true.ensures.test.1.0 c.in-Ok-true.field-0-test)

-- a document with the identity passes the third test
pub returns-in-Ok-false-clause-right : goal.returns-in-Ok-false-clause-right
returns-in-Ok-false-clause-right c = λ carrier multiplier identity. let r = c.in-Ok-false.ensures.right identity in let t = c.in-Ok-false.field-0-test in cc
