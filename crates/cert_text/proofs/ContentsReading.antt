-- The contents that are read from the fields of a text, and the lines of the text that they explain.
use Rattle.std.specs.Prelude.{◌≡◌, ℕ, ℤ, Bool, codes, List, ◌∷◌}
use Rattle.std.specs.Fmt.{signed_decimal}
use Rattle.std.proofs.Common.{refl, ap, sym, subst, ◌∙◌}
use Rattle.ring_laws.specs.Meaning.{Meaning}
use Rattle.hypergeometric.specs.TermFacts.{IsNumber, IsPolynomial}
use Rattle.document_text.specs.Spelling.{polynomial_text}
use Rattle.document_text.specs.Document.{document_text}
use Rattle.exact_texts.specs.Texts.{Only}
use Rattle.exact_texts.proofs.Cuts.{only_more}
use Rattle.exact_texts.proofs.Numerals.{signed_bytes, only_signed_decimal}
use Rattle.document_text.proofs.MonomialBytes.{polynomial_bytes}
use Rattle.document_text.proofs.Polynomials.{only_polynomial}
use Rattle.cert_text.specs.PolynomialDocument.{in_k}
use Rattle.cert_text.specs.Readable.{Contents, document_of, AreReadable, SameLines}
use Rattle.cert_text.specs.Reading.{outside}
use Rattle.cert_text.proofs.LiftedPolynomials.{in_k_polynomial}
use Rattle.cert_text.proofs.Assembled.{pieces, assembled}
use Rattle.cert_text.proofs.FieldsOfText.{term_word, scale_word, multiplier_word, carrier_word, y_word, Fields, AreFields, Agrees, behind_y, behind_carrier, behind_multiplier, behind_scale, behind_poly}
use Rattle.cert_text.proofs.SharedLines.{in_line, field_shared}

-- polynomials and numbers have no bytes but their own
only_in_k : (class : ℕ → Bool) → Only class polynomial_bytes → (p : Meaning) → IsPolynomial 1 p → Only class (polynomial_text (in_k p))
only_in_k class all p h = only_more polynomial_bytes class (polynomial_text (in_k p)) all (only_polynomial (in_k p) (in_k_polynomial p h))

only_number : (class : ℕ → Bool) → Only class signed_bytes → (z : ℤ) → IsNumber z → Only class (signed_decimal z)
only_number class all z h = only_more signed_bytes class (signed_decimal z) all (only_signed_decimal z h)

abbrev text_of : Contents → List ℕ
text_of d = pieces (polynomial_text (in_k d.poly)) (signed_decimal d.scale) (signed_decimal d.multiplier) (signed_decimal d.carrier_scale)
    (polynomial_text (in_k d.y))

is_text_of : (d : Contents) → text_of d ≡ document_text (document_of d)
is_text_of d = assembled d.poly d.y d.scale d.multiplier d.carrier_scale _ _ _ _ _ refl refl refl refl refl

module _ (text : List ℕ) (f : Fields) (is : AreFields text f) (d e : Contents) (readable : AreReadable d) (agrees : Agrees f d e) where
  poly_same : f.poly ≡ polynomial_text (in_k d.poly) → polynomial_text (in_k e.poly) ≡ polynomial_text (in_k d.poly)
  poly_same h = ap (λ p. polynomial_text (in_k p)) (agrees.poly h)

  y_same : f.y ≡ polynomial_text (in_k d.y) → polynomial_text (in_k e.y) ≡ polynomial_text (in_k d.y)
  y_same h = ap (λ p. polynomial_text (in_k p)) (agrees.y h)

  scale_same : f.scale ≡ signed_decimal d.scale → signed_decimal e.scale ≡ signed_decimal d.scale
  scale_same h = ap signed_decimal (agrees.scale h)

  multiplier_same : f.multiplier ≡ signed_decimal d.multiplier → signed_decimal e.multiplier ≡ signed_decimal d.multiplier
  multiplier_same h = ap signed_decimal (agrees.multiplier h)

  carrier_same : f.carrier_scale ≡ signed_decimal d.carrier_scale → signed_decimal e.carrier_scale ≡ signed_decimal d.carrier_scale
  carrier_same h = ap signed_decimal (agrees.carrier_scale h)

  from_y : (n : ℕ) → SameLines n is.rest_4 (59 ∷ behind_carrier (polynomial_text (in_k d.y)))
      → SameLines n is.rest_4 (59 ∷ behind_carrier (polynomial_text (in_k e.y)))
  from_y n same =
      field_shared n is.rest_4 y_word (polynomial_text (in_k d.y)) (polynomial_text (in_k e.y)) behind_y behind_y 10 (codes "\n") f.y is.rest_5
      (only_in_k in_line refl d.y readable.y) (only_in_k (outside (codes "\n")) refl d.y readable.y) refl is.y y_same (λ m s. s) same

  from_carrier : (n : ℕ) → SameLines n is.rest_3 (10 ∷ behind_multiplier (signed_decimal d.carrier_scale) (polynomial_text (in_k d.y)))
      → SameLines n is.rest_3 (10 ∷ behind_multiplier (signed_decimal e.carrier_scale) (polynomial_text (in_k e.y)))
  from_carrier n same =
      field_shared n is.rest_3 carrier_word (signed_decimal d.carrier_scale) (signed_decimal e.carrier_scale)
      (behind_carrier (polynomial_text (in_k d.y))) (behind_carrier (polynomial_text (in_k e.y))) 59 (codes ";") f.carrier_scale is.rest_4
      (only_number in_line refl d.carrier_scale readable.carrier_scale)
      (only_number (outside (codes ";")) refl d.carrier_scale readable.carrier_scale) refl is.carrier_scale carrier_same from_y same

  from_multiplier : (n : ℕ)
      → SameLines n is.rest_2 (59 ∷ behind_scale (signed_decimal d.multiplier) (signed_decimal d.carrier_scale) (polynomial_text (in_k d.y)))
      → SameLines n is.rest_2 (59 ∷ behind_scale (signed_decimal e.multiplier) (signed_decimal e.carrier_scale) (polynomial_text (in_k e.y)))
  from_multiplier n same =
      field_shared n is.rest_2 multiplier_word (signed_decimal d.multiplier) (signed_decimal e.multiplier)
      (behind_multiplier (signed_decimal d.carrier_scale) (polynomial_text (in_k d.y)))
      (behind_multiplier (signed_decimal e.carrier_scale) (polynomial_text (in_k e.y))) 10 (codes "\n") f.multiplier is.rest_3
      (only_number in_line refl d.multiplier readable.multiplier)
      (only_number (outside (codes "\n")) refl d.multiplier readable.multiplier) refl is.multiplier multiplier_same from_carrier same

  from_scale : (n : ℕ)
      → SameLines n is.rest_1
      (59 ∷ behind_poly (signed_decimal d.scale) (signed_decimal d.multiplier) (signed_decimal d.carrier_scale) (polynomial_text (in_k d.y)))
      → SameLines n is.rest_1
      (59 ∷ behind_poly (signed_decimal e.scale) (signed_decimal e.multiplier) (signed_decimal e.carrier_scale) (polynomial_text (in_k e.y)))
  from_scale n same =
      field_shared n is.rest_1 scale_word (signed_decimal d.scale) (signed_decimal e.scale)
      (behind_scale (signed_decimal d.multiplier) (signed_decimal d.carrier_scale) (polynomial_text (in_k d.y)))
      (behind_scale (signed_decimal e.multiplier) (signed_decimal e.carrier_scale) (polynomial_text (in_k e.y))) 59 (codes ";") f.scale is.rest_2
      (only_number in_line refl d.scale readable.scale) (only_number (outside (codes ";")) refl d.scale readable.scale) refl is.scale scale_same
      from_multiplier same

  from_poly : (n : ℕ) → SameLines n text (text_of d) → SameLines n text (text_of e)
  from_poly n same =
      field_shared n text term_word (polynomial_text (in_k d.poly)) (polynomial_text (in_k e.poly))
      (behind_poly (signed_decimal d.scale) (signed_decimal d.multiplier) (signed_decimal d.carrier_scale) (polynomial_text (in_k d.y)))
      (behind_poly (signed_decimal e.scale) (signed_decimal e.multiplier) (signed_decimal e.carrier_scale) (polynomial_text (in_k e.y)))
      59 (codes ";") f.poly is.rest_1
      (only_in_k in_line refl d.poly readable.poly) (only_in_k (outside (codes ";")) refl d.poly readable.poly) refl is.poly poly_same
      from_scale same

  -- the lines that the text shares with the document of d it shares with the one that is read
  pub lines_explained : (n : ℕ) → SameLines n text (document_text (document_of d)) → SameLines n text (document_text (document_of e))
  lines_explained n same =
      subst (SameLines n text) (is_text_of e) (from_poly n (subst (SameLines n text) (sym (is_text_of d)) same))

  -- the text of the document of d is that of the one that is read
  pub text_explained : text ≡ document_text (document_of d) → text ≡ document_text (document_of e)
  text_explained h =
      let whole : text ≡ text_of d = h ∙ sym (is_text_of d) in
      let poly = is.poly (polynomial_text (in_k d.poly))
      (59 ∷ behind_poly (signed_decimal d.scale) (signed_decimal d.multiplier) (signed_decimal d.carrier_scale) (polynomial_text (in_k d.y)))
      (only_in_k (outside (codes ";")) refl d.poly readable.poly) refl whole in
      let scale = is.scale (signed_decimal d.scale)
      (59 ∷ behind_scale (signed_decimal d.multiplier) (signed_decimal d.carrier_scale) (polynomial_text (in_k d.y)))
      (only_number (outside (codes ";")) refl d.scale readable.scale) refl poly.1 in
      let multiplier = is.multiplier (signed_decimal d.multiplier)
      (10 ∷ behind_multiplier (signed_decimal d.carrier_scale) (polynomial_text (in_k d.y)))
      (only_number (outside (codes "\n")) refl d.multiplier readable.multiplier) refl scale.1 in
      let carrier = is.carrier_scale (signed_decimal d.carrier_scale) (59 ∷ behind_carrier (polynomial_text (in_k d.y)))
      (only_number (outside (codes ";")) refl d.carrier_scale readable.carrier_scale) refl multiplier.1 in
      let y = is.y (polynomial_text (in_k d.y)) (10 ∷ behind_y) (only_in_k (outside (codes "\n")) refl d.y readable.y) refl carrier.1 in
      h ∙ sym (ap (λ c. document_text (document_of c)) (cc (
        agrees.poly poly.0,
        agrees.scale scale.0,
        agrees.multiplier multiplier.0,
        agrees.carrier_scale carrier.0,
        agrees.y y.0,
      )))
