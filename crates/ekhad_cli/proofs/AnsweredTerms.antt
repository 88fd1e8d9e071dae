-- The document of a text from the class of its tree and the numbers that the engine found.
use Rattle.std.proofs.Common.{◌≡◌, ℕ, ◌≤◌, List, [], ◌∷◌, length, refl, ap, sym, ◌∙◌, arith, subst, Ok}
use Rattle.std.proofs.lemmas.List.{get_or_default}
use Rattle.std.proofs.lemmas.List.Elements.{All-weaker}
use Rattle.std.specs.Int.{◌∣◌}
use Rattle.std.specs.Prelude.{ℤ, pos, ◌+ℤ◌, ◌-ℤ◌, ◌*ℤ◌, unsigned_abs, All}
use Rattle.ring_laws.specs.Meaning.{Meaning}
use Rattle.poly_laws.specs.Values.{value_at}
use Rattle.hypergeometric.specs.Point.{Point}
use Rattle.hypergeometric.specs.Fraction.{Fraction, ◌≈◌, of_whole}
use Rattle.hypergeometric.specs.ProperTerm.{ProperTerm}
use Rattle.hypergeometric.specs.PlainTerm.{plain_term}
use Rattle.hypergeometric.specs.TermFacts.{IsNumber}
use Rattle.hypergeometric.specs.TermValue.{HasValue}
use Rattle.hypergeometric.proofs.PlainTerms.{plain_value}
use Rattle.document_text.specs.Document.{document_text}
use Rattle.cert_text.specs.PolynomialDocument.{in_k, polynomial_document}
use Rattle.cert_text.specs.Readable.{contents}
use Rattle.cert_text.proofs.LiftedPolynomials.{in_k_value}
use Rattle.cert_text.proofs.PolynomialClaims.{polynomial_document_well_formed, polynomial_document_telescopes}
use Rattle.cert_checker.proofs.RightDocuments.{small_in_bounds}
use Rattle.grammar.specs.Tree.{Tree}
use Rattle.grammar.specs.Several.{a_term}
use Rattle.grammar.specs.Reading.{HasTrees}
use Rattle.term_classes.specs.TreeValue.{term_value}
use Rattle.term_classes.specs.Walk.{class_of}
use Rattle.ekhad_cli.specs.Antidifference.{value_of, DividesAll, IsLeastAntidifference}
use Rattle.ekhad_cli.specs.FirstRun.{IsSmall, polynomial_of, HasNumbers}
use Rattle.ekhad_cli.specs.Answer.{coefficient, IsLeast, IsAntidifferenceOf}
use Rattle.ekhad_cli.specs.Gosper.{IsAnswerText}
use Rattle.ekhad_cli.proofs.EqualTerms.{telescopes_too}
use Rattle.ekhad_cli.proofs.Polynomials.{polynomial_value_of, coefficient_of, polynomial_bounded, polynomial_length, polynomial_within}

least_of : (cs ys : List ℤ) (a : ℤ) → IsLeastAntidifference cs a ys → IsLeast (polynomial_of cs) a (polynomial_of ys)
least_of cs ys a least = record {
  difference = λ k. ap (λ z. a *ℤ z) (polynomial_value_of cs k) ∙ least.difference k
      ∙ ap (λ z. z -ℤ value_of ys k) (sym (polynomial_value_of ys (k +ℤ pos 1)))
      ∙ ap (λ z. value_at ((k +ℤ pos 1) ∷ []) (polynomial_of ys) -ℤ z) (sym (polynomial_value_of ys k));
  positive = least.positive;
  primitive = λ d divides all. least.primitive d divides (each d all);
  no_constant = coefficient_of ys 0 ∙ least.no_constant;
}
  where
    each : (d : ℕ) → ((power : ℕ) → d ∣ unsigned_abs (coefficient (polynomial_of ys) power)) → DividesAll d ys
    each d all i x h =
        subst (λ z. d ∣ unsigned_abs z) (coefficient_of ys i ∙ get_or_default ys i (pos 0) x h) (all i)

-- the engine's numbers, as polynomials
pub antidifference_of : (cs ys : List ℤ) (a : ℤ) (poly y : Meaning)
    → poly ≡ polynomial_of cs → y ≡ polynomial_of ys → length cs ≤ 5 → length ys ≤ 6
    → All IsSmall cs → All (λ c. unsigned_abs c ≤ 1500000000) ys → IsLeastAntidifference cs a ys → unsigned_abs a ≤ 60
    → IsAntidifferenceOf poly a y
antidifference_of cs ys a poly y p q few some small light least multiplier =
    subst (λ m. IsAntidifferenceOf m a y) (sym p) (subst (λ m. IsAntidifferenceOf (polynomial_of cs) a m) (sym q) record {
      poly_bounded = polynomial_bounded cs (omega (arith, few)) weaker;
      degree = omega (arith, polynomial_length cs, few);
      bounded = polynomial_bounded ys (omega (arith, some)) light;
      least = least_of cs ys a least;
      in_bounds = λ scale.
          small_in_bounds (contents (polynomial_of cs) scale a scale (polynomial_of ys)) (polynomial_bounded cs (omega (arith, few)) weaker)
          (polynomial_bounded ys (omega (arith, some)) light) (omega (arith, polynomial_length cs, few)) (polynomial_within cs weaker)
          (omega (arith, multiplier)) (omega (arith, polynomial_length ys, some)) (polynomial_within ys light);
    })
  where
    weaker : All (λ c. unsigned_abs c ≤ 1500000000) cs
    weaker = All-weaker IsSmall (λ c. unsigned_abs c ≤ 1500000000) (λ c h. omega (arith, h)) cs small

-- a whole number times a polynomial in k has a value everywhere, and so has what has its value
same_values : (f : ProperTerm) (value : Point → Fraction) (scale : ℤ) (poly : Meaning) → HasValue f value → f ≡ plain_term scale (in_k poly)
    → (p : Point) → of_whole (scale *ℤ value_at (p.k ∷ []) poly) ≈ value p
same_values f value scale poly has is p =
    let plain : HasValue (plain_term scale (in_k poly)) value = subst (λ t. HasValue t value) is has in
    subst (λ v. v ≈ value p) (plain_value scale (in_k poly) p ∙ ap (λ z. of_whole (scale *ℤ z)) (in_k_value poly p))
    (plain.equal p (record { up = tt; guard = tt; over = tt }))

-- what was read, classified and found answers the text
pub answered : (input text : List ℕ) (root : Tree) (f : ProperTerm) (cs : List ℤ) (scale a : ℤ) (y : Meaning)
    → HasTrees a_term input (root ∷ []) → (class_of root).outcome ≡ Ok f → HasValue f (term_value root) → HasNumbers f cs scale
    → IsAntidifferenceOf (polynomial_of cs) a y → IsNumber scale → IsNumber a
    → text ≡ document_text (polynomial_document (polynomial_of cs) scale a scale y) → IsAnswerText input text
answered input text root f cs scale a y read class value numbers found small light printed = (
  polynomial_document (polynomial_of cs) scale a scale y,
  record {
    tree = root;
    read = read;
    class = class ∙ ap Ok numbers.term;
    poly = polynomial_of cs;
    y = y;
    scale = scale;
    multiplier = a;
    antidifference = found;
    document = refl;
    well_formed = polynomial_document_well_formed (polynomial_of cs) y scale a scale found.poly_bounded numbers.some found.bounded small
        numbers.scale_not_zero light small numbers.scale_not_zero;
    readable = record {
      poly = found.poly_bounded;
      not_zero = numbers.some;
      degree = found.degree;
      scale = small;
      scale_not_zero = numbers.scale_not_zero;
      multiplier = light;
      carrier_scale = small;
      carrier_not_zero = numbers.scale_not_zero;
      y = found.bounded;
    };
    telescopes = telescopes_too (λ p. of_whole (scale *ℤ value_at (p.k ∷ []) (polynomial_of cs))) (term_value root)
        (same_values f (term_value root) scale (polynomial_of cs) value numbers.term) _ _
        (polynomial_document_telescopes (λ p. of_whole (scale *ℤ value_at (p.k ∷ []) (polynomial_of cs))) (polynomial_of cs) y scale a
        (λ p. refl) found.least.difference numbers.scale_not_zero);
  },
  printed,
)
