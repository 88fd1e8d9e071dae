-- A text is that of at most one readable document.
use Rattle.std.proofs.Common.{◌≡◌, List, [], ◌∷◌, length, ap, sym, ◌∙◌, arith}
use Rattle.std.specs.Prelude.{ℕ, ℤ, pos, IsTrue}
use Rattle.ring_laws.specs.Meaning.{Meaning, number}
use Rattle.poly_laws.specs.Values.{value_at, level}
use Rattle.poly_laws.proofs.Equal.{same_values}
use Rattle.poly_laws.proofs.Keeps.{value_at_keeps}
use Rattle.hypergeometric.specs.Point.{point}
use Rattle.hypergeometric.specs.ProperTerm.{poly_value}
use Rattle.document_text.specs.Document.{Document}
use Rattle.document_text.specs.WellFormed.{IsWellFormed}
use Rattle.document_text.proofs.Documents.{document_determined}
use Rattle.cert_text.specs.PolynomialDocument.{in_k}
use Rattle.cert_text.specs.Readable.{Contents, contents, document_of, AreReadable, IsTextOf}
use Rattle.cert_text.proofs.LiftedPolynomials.{in_k_value}
use Rattle.cert_text.proofs.PolynomialClaims.{polynomial_document_well_formed}

-- polynomials with the same value at each point are the same
pub same_by_values : (x y : Meaning) → IsTrue ((level 1).passes x) → IsTrue ((level 1).passes y)
    → ((k : ℤ) → value_at (k ∷ []) x ≡ value_at (k ∷ []) y) → x ≡ y
same_by_values x y p q same = ap (λ z. z.0) (same_values 1 (x, p) (y, q) at_point)
  where
    at_point : (point : List ℤ) → length point ≡ 1 → value_at point x ≡ value_at point y
    at_point [] e = absurd (omega (arith, e))
    at_point (k ∷ []) e = same k
    at_point (k ∷ j ∷ rest) e = absurd (omega (arith, e))

-- read as one in k over n, a polynomial is still known
in_k_determines : (x y : Meaning) → IsTrue ((level 1).passes x) → IsTrue ((level 1).passes y) → in_k x ≡ in_k y → x ≡ y
in_k_determines x y p q e =
    same_by_values x y p q (λ k. sym (in_k_value x (point (pos 0) k)) ∙ ap (λ m. poly_value m (point (pos 0) k)) e ∙ in_k_value y (point (pos 0) k))

-- and so is a number, as a polynomial in n
constant_determines : (v w : ℤ) → (level 1).ops.whole v ≡ (level 1).ops.whole w → v ≡ w
constant_determines v w e =
    let keeps = value_at_keeps (pos 0 ∷ []) in
    sym (keeps.whole v) ∙ ap (value_at (pos 0 ∷ [])) e ∙ keeps.whole w

abbrev first_of : List Meaning → Meaning
first_of [] = number (pos 0)
first_of (m ∷ ms) = m

document_determines : (a b : Contents) → AreReadable a → AreReadable b → document_of a ≡ document_of b → a ≡ b
document_determines a b p q e =
    let poly = in_k_determines a.poly b.poly p.poly.passes q.poly.passes (ap (λ (d : Document). d.term.poly) e) in
    let scale = ap (λ (d : Document). d.term.scale.top) e in
    let multiplier = constant_determines a.multiplier b.multiplier (ap (λ (d : Document). first_of d.found.claim.multipliers) e) in
    let carrier_scale = ap (λ (d : Document). d.found.claim.carrier.scale.top) e in
    let y = in_k_determines a.y b.y p.y.passes q.y.passes (ap (λ (d : Document). d.found.claim.y) e) in
    λ i. contents (poly i) (scale i) (multiplier i) (carrier_scale i) (y i)

pub readable_well_formed : (d : Contents) → AreReadable d → IsWellFormed (document_of d)
readable_well_formed d r =
    polynomial_document_well_formed d.poly d.y d.scale d.multiplier d.carrier_scale r.poly r.not_zero r.y r.scale r.scale_not_zero r.multiplier
    r.carrier_scale r.carrier_not_zero

pub one_document : (text : List ℕ) (a b : Contents) → IsTextOf text a → IsTextOf text b → a ≡ b
one_document text a b p q =
    document_determines a b p.readable q.readable
    (document_determined (document_of a) (document_of b) (readable_well_formed a p.readable) (readable_well_formed b q.readable)
    (sym p.spelled ∙ q.spelled))
