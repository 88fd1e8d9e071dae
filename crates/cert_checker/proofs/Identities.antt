-- The equation of polynomials is the identity at all whole points, and with it the claim telescopes the term.
use Rattle.std.specs.Prelude.{◌≡◌, ◌≢◌, IsTrue, ℤ, pos, ◌+ℤ◌, ◌-ℤ◌, ◌*ℤ◌, neg_ℤ, [], ◌∷◌}
use Rattle.std.proofs.Common.{ap, sym, subst, ◌∙◌, arith}
use Rattle.std.proofs.lemmas.Int.{ints}
use Rattle.ring_laws.specs.Meaning.{Meaning}
use Rattle.poly_laws.specs.Values.{value_at, level}
use Rattle.poly_laws.proofs.Keeps.{value_at_keeps}
use Rattle.poly_laws.proofs.ShiftLaws.{value_at_shift}
use Rattle.hypergeometric.specs.Fraction.{of_whole}
use Rattle.hypergeometric.specs.PlainTerm.{plain_term, plain_claim}
use Rattle.hypergeometric.specs.ProperTerm.{proper_value}
use Rattle.hypergeometric.specs.Telescopes.{Telescopes}
use Rattle.hypergeometric.proofs.PlainTerms.{plain_value}
use Rattle.cert_text.specs.PolynomialDocument.{in_k}
use Rattle.cert_text.specs.Readable.{Contents}
use Rattle.cert_text.proofs.LiftedPolynomials.{in_k_value}
use Rattle.cert_text.proofs.PolynomialClaims.{polynomial_document_telescopes}
use Rattle.cert_text.proofs.OneDocument.{same_by_values}
use Rattle.cert_checker.specs.Checks.{next_y, difference, multiple, HasCarrier, HasEquation, HasIdentity, ClaimTelescopes}

-- the value of the difference
add_negative : (a b : ℤ) → a +ℤ neg_ℤ b ≡ a -ℤ b
add_negative a b = omega (arith, ints)

difference_value : (d : Contents) (k : ℤ) → value_at (k ∷ []) (difference d) ≡ value_at ((k +ℤ pos 1) ∷ []) d.y -ℤ value_at (k ∷ []) d.y
difference_value d k =
    let keeps = value_at_keeps (k ∷ []) in
    keeps.sum (next_y d) ((level 1).ops.neg d.y)
    ∙ ap (λ z. z +ℤ value_at (k ∷ []) ((level 1).ops.neg d.y)) (value_at_shift k (pos 1) [] d.y)
    ∙ ap (λ z. value_at ((k +ℤ pos 1) ∷ []) d.y +ℤ z) (keeps.neg d.y)
    ∙ add_negative (value_at ((k +ℤ pos 1) ∷ []) d.y) (value_at (k ∷ []) d.y)

-- and of the multiple
multiple_value : (d : Contents) (k : ℤ) → value_at (k ∷ []) (multiple d) ≡ d.multiplier *ℤ value_at (k ∷ []) d.poly
multiple_value d k =
    let keeps = value_at_keeps (k ∷ []) in
    keeps.product ((level 1).ops.whole d.multiplier) d.poly ∙ ap (λ z. z *ℤ value_at (k ∷ []) d.poly) (keeps.whole d.multiplier)

-- so the equation holds at each point
pub identity_of : (d : Contents) → HasEquation d → HasIdentity d
identity_of d e k = sym (multiple_value d k) ∙ ap (value_at (k ∷ [])) (sym e) ∙ difference_value d k

-- and the identity gives the equation
pub equation_of : (d : Contents) (left right : Meaning) → left ≡ difference d → right ≡ multiple d
    → IsTrue ((level 1).passes left) → IsTrue ((level 1).passes right) → HasIdentity d → left ≡ right
equation_of d left right l r p q identity =
    same_by_values left right p q
    (λ k. ap (value_at (k ∷ [])) l ∙ difference_value d k ∙ sym (identity k) ∙ sym (multiple_value d k) ∙ ap (value_at (k ∷ [])) (sym r))

-- the claim of equal scales telescopes the term
pub claim_telescopes : (d : Contents) → d.scale ≢ pos 0 → HasCarrier d → HasEquation d → ClaimTelescopes d
claim_telescopes d not_zero carrier e =
    subst (λ s. Telescopes (proper_value (plain_term d.scale (in_k d.poly))) (in_k d.poly) (plain_claim d.multiplier s (in_k d.y))) carrier
    (polynomial_document_telescopes (proper_value (plain_term d.scale (in_k d.poly))) d.poly d.y d.scale d.multiplier
    (λ p. plain_value d.scale (in_k d.poly) p ∙ ap (λ z. of_whole (d.scale *ℤ z)) (in_k_value d.poly p))
    (identity_of d e) not_zero)
