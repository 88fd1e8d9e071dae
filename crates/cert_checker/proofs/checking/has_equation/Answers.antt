use Rattle.std.proofs.Common.{refl}
use Rattle.ring_laws.specs.Meaning.{number, listed}
use Rattle.ring_laws.specs.Wholes.{whole_algebra}
use Rattle.ring_laws.specs.declared.wholes.Whole.{Whole}
use Rattle.poly_laws.proofs.Belonging.{value_passes}
use Rattle.cert_text.specs.Printing.{numbers}
use Rattle.cert_text.specs.Readable.{Contents, contents}
use Rattle.cert_checker.proofs.Identities.{equation_of}
use Rattle.cert_checker.proofs.checking.has_equation.Goals as goal

-- the identity gives equal polynomials
pub returns-clause-right : goal.returns-clause-right
returns-clause-right c = λ identity.
    let doc = c.args.doc.now in
    let left = c.in_ok-left.left in
    let right = c.in_ok-left.right in
    let d : Contents = contents (listed (numbers doc.poly.list.items)) doc.scale.value doc.multiplier.value doc.carrier_scale.value
    (listed (numbers doc.y.list.items)) in
    c.same.ensures.test.1
    (equation_of d (listed (numbers left.list.items)) (listed (numbers right.list.items)) c.in_ok-left.ensures.gives.1 c.in_ok-left.ensures.gives.2
    (value_passes whole_algebra (λ (w : Whole). number w.value) (λ w. refl) left.list.items left.ended)
    (value_passes whole_algebra (λ (w : Whole). number w.value) (λ w. refl) right.list.items right.ended) identity)
