-- Finding the parts of 2*n + 2 is in bounds: its core is 1, and the product of n + 1 with its content 2 is its plain part.
use Rattle.std.specs.Prelude.{◌≡◌, ℕ, zero, suc, ℤ, pos, negsuc, ◌+ℤ◌, ◌*ℤ◌, unsigned_abs, Bool, true, false, cond, List, [], ◌∷◌, map, length, refl}
use Rattle.std.proofs.Common.{ap, sym, ◌∙◌, subst, arith, lit<, inl}
use Rattle.std.proofs.lemmas.Int.{ints}
use Rattle.std.proofs.lemmas.List.{length-append}
use Rattle.ring_laws.specs.Meaning.{Meaning, number, listed, items, parted-joined}
use Rattle.ring_laws.specs.Algebra.{Passing, same_passing, ProductInBounds}
use Rattle.ring_laws.specs.Wholes.{number_of, is_zero, whole_algebra}
use Rattle.poly_laws.specs.Lists.{coefficient_at, list_product, trimmed, in_front}
use Rattle.poly_divide.specs.Forms.{linear}
use Rattle.whole_roots.specs.Differences.{polynomials}
use Rattle.poly_divide.specs.Content.{row_sizes}
use Rattle.reducing.specs.TakenOut.{times_row, none, next}
use Rattle.reducing.specs.PolynomialRows.{Row, DivisionOfPolynomials, WithoutContent, divides, IsTimesContent, IsCore, SplittingInBounds}
use Rattle.reducing.specs.Laws.OneContent.{one_content}
use Rattle.reducing.specs.Laws.OnePolynomialRow.{one_quotients}
use Rattle.reducing.specs.Laws.PolynomialReduction.{one_core}
use Rattle.reducing.proofs.Constants.{no_form_divides}
use Rattle.reducing.proofs.PlainParts.{over_content}
use Rattle.reducing.proofs.KnownForms.{factors_of_form}
use Rattle.reducing.proofs.KnownReductions.{row, twice, two_is_content, twice_content, least, core_in}

-- ---- what times 1 is a polynomial has its magnitude
-- a list times the list of 1 is the list of its numbers
times_ones : (xs : List Meaning) → list_product whole_algebra.ops xs (number (pos 1) ∷ []) ≡ map (λ x. number (number_of x)) xs
times_ones [] = refl
times_ones (x ∷ xs) = cc (ap number (times_one (number_of x)), times_ones xs)
  where
    times_one : (z : ℤ) → z *ℤ pos 1 +ℤ pos 0 ≡ z
    times_one z = omega (arith, ints)

abbrev magnitudes : List Meaning → List Meaning
magnitudes xs = map whole_algebra.ops.magnitude xs

of_numbers : (xs : List Meaning) → magnitudes (map (λ x. number (number_of x)) xs) ≡ magnitudes xs
of_numbers [] = refl
of_numbers (x ∷ xs) = ap (λ ys. whole_algebra.ops.magnitude x ∷ ys) (of_numbers xs)

zero_magnitude : (z : ℤ) → is_zero (pos (unsigned_abs z)) ≡ is_zero z
zero_magnitude (pos zero) = refl
zero_magnitude (pos (suc n)) = refl
zero_magnitude (negsuc n) = refl

-- zeros at the end make no difference to trimmed magnitudes
of_front : (x : Meaning) (xs ys : List Meaning) → trimmed whole_algebra.ops (magnitudes xs) ≡ ys
    → trimmed whole_algebra.ops (magnitudes (in_front whole_algebra.ops x xs)) ≡ in_front whole_algebra.ops (whole_algebra.ops.magnitude x) ys
of_front x [] ys e =
    by_test (is_zero (number_of x)) (zero_magnitude (number_of x)) ∙ ap (in_front whole_algebra.ops (whole_algebra.ops.magnitude x)) e
  where
    by_test : (b : Bool) → is_zero (pos (unsigned_abs (number_of x))) ≡ b
        → trimmed whole_algebra.ops (magnitudes (cond b [] (x ∷ []))) ≡ in_front whole_algebra.ops (whole_algebra.ops.magnitude x) []
    by_test true d = ap (λ c. cond c [] (whole_algebra.ops.magnitude x ∷ [])) (sym d)
    by_test false d = refl
of_front x (y ∷ xs) ys e = ap (in_front whole_algebra.ops (whole_algebra.ops.magnitude x)) e

of_trimmed : (xs : List Meaning) → trimmed whole_algebra.ops (magnitudes (trimmed whole_algebra.ops xs)) ≡ trimmed whole_algebra.ops (magnitudes xs)
of_trimmed [] = refl
of_trimmed (x ∷ xs) = of_front x (trimmed whole_algebra.ops xs) (trimmed whole_algebra.ops (magnitudes xs)) (of_trimmed xs)

same_magnitude : (quotient part : Meaning) → polynomials.ops.product quotient polynomials.ops.unit ≡ part
    → polynomials.ops.magnitude part ≡ polynomials.ops.magnitude quotient
same_magnitude quotient part e = ap listed (
    ap (λ f. trimmed whole_algebra.ops (magnitudes (items f))) (sym e)
    ∙ ap (λ xs. trimmed whole_algebra.ops (magnitudes xs))
    (parted-joined (trimmed whole_algebra.ops (list_product whole_algebra.ops (items quotient) (number (pos 1) ∷ []))))
    ∙ of_trimmed (list_product whole_algebra.ops (items quotient) (number (pos 1) ∷ []))
    ∙ ap (λ xs. trimmed whole_algebra.ops (magnitudes xs)) (times_ones (items quotient))
    ∙ ap (trimmed whole_algebra.ops) (of_numbers (items quotient)))

-- ---- the content, the part over it, and the core of 2*n + 2
known_core : IsCore (linear (pos 2) (pos 2)) polynomials.ops.unit
known_core = record {
  value = (linear (pos 2) (pos 2), refl);
  value_is = refl;
  rest = (polynomials.ops.unit, refl);
  reduced = divides row (((1, pos 1), 1) ∷ []) twice_content (record { place = 0; least = least; factors = factors_of_form })
      (next (record { power = 1; times = refl; no_more = no_more }) none);
  core_is = inl refl;
  positive = omega (arith, ints);
}
  where
    head : {x y : Meaning} {xs ys : List Meaning} → x ∷ xs ≡ y ∷ ys → x ≡ y
    head e = cc

    one_isnt_zero : ¬ (pos 1 ≡ pos 0)
    one_isnt_zero e = cc

    no_more : (quotients : Row) → ¬ (polynomials.ops.unit ∷ [] ≡ times_row polynomials (linear (pos 1) (pos 1)) quotients)
    no_more [] e = cc
    no_more (q ∷ qs) e = no_form_divides (pos 1) one_isnt_zero refl 1 (pos 1) (omega arith) (record { quotient = q; is = sym (head e) })

core_is : (core : Meaning) → IsCore (linear (pos 2) (pos 2)) core → polynomials.ops.unit ≡ core
core_is core h = one_core (linear (pos 2) (pos 2)) polynomials.ops.unit core known_core h

part_is : (content : ℤ) (part : Meaning) → IsTimesContent (linear (pos 2) (pos 2)) content part → linear (pos 1) (pos 1) ≡ part
part_is content part t = ap (λ (x : Passing polynomials). x.0) (head rests) ∙ sym t.rest_is
  where
    head : {x y : Passing polynomials} → x ∷ [] ≡ y ∷ [] → x ≡ y
    head e = cc

    value_is : t.value ≡ (linear (pos 2) (pos 2), refl)
    value_is = same_passing polynomials t.value (linear (pos 2) (pos 2), refl) (sym t.value_is)

    rests : row ≡ t.rest ∷ []
    rests = one_quotients twice row (t.rest ∷ []) twice_content
        (subst (λ v. WithoutContent (v ∷ []) (t.rest ∷ [])) value_is (over_content (linear (pos 2) (pos 2)) content part t))

content_is : (content : ℤ) (part : Meaning) → IsTimesContent (linear (pos 2) (pos 2)) content part → pos 2 ≡ content
content_is content part t =
    omega (
      arith,
      ints,
      t.positive,
      one_content (row_sizes (linear (pos 2) (pos 2) ∷ [])) (unsigned_abs content) 2 t.is_content two_is_content,
    )

-- a division by a constant has no products
by_constant : (f c : Meaning) → DivisionOfPolynomials f (listed (c ∷ []))
by_constant f c gs lead e x xs qs rs i d run = record {
  division = tt;
  reduction = λ c p k b. absurd (omega (arith, b, ap length e, length-append gs (lead ∷ [])));
}

splitting_in : SplittingInBounds (linear (pos 2) (pos 2))
splitting_in = record { core = core_in; division = division; product = product }
  where
    division : (content : ℤ) (part core : Meaning) → IsTimesContent (linear (pos 2) (pos 2)) content part → IsCore (linear (pos 2) (pos 2)) core
        → DivisionOfPolynomials part core
    division content part core t h = subst (DivisionOfPolynomials part) (core_is core h) (by_constant part (number (pos 1)))

    twice_in : ProductInBounds polynomials (linear (pos 1) (pos 1)) (polynomials.ops.whole (pos 2))
    twice_in = (omega arith, at)
      where
        at : (k : ℕ) → whole_algebra.ops.Fits (coefficient_at whole_algebra.ops (number (pos 2) ∷ number (pos 2) ∷ []) k)
        at zero = lit< tt
        at (suc zero) = lit< tt
        at (suc (suc k)) = lit< tt

    product : (content : ℤ) (part core quotient : Meaning) → IsTimesContent (linear (pos 2) (pos 2)) content part
        → IsCore (linear (pos 2) (pos 2)) core → polynomials.ops.product quotient core ≡ part
        → ProductInBounds polynomials quotient (polynomials.ops.whole content)
    product content part core quotient t h e =
        let same : polynomials.ops.product quotient polynomials.ops.unit ≡ part = ap (polynomials.ops.product quotient) (core_is core h) ∙ e in
        let magnitude : polynomials.ops.magnitude (linear (pos 1) (pos 1)) ≡ polynomials.ops.magnitude quotient =
        ap polynomials.ops.magnitude (part_is content part t) ∙ same_magnitude quotient part same in
        subst (λ m. polynomials.ops.Fits (polynomials.ops.product m (polynomials.ops.magnitude (polynomials.ops.whole content)))) magnitude
        (subst (λ c. ProductInBounds polynomials (linear (pos 1) (pos 1)) (polynomials.ops.whole c)) (content_is content part t) twice_in)
