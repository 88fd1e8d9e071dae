-- What is left of a row without numbers and forms of the profile is one row.
use Rattle.std.specs.Prelude.{◌≡◌, ◌≢◌, ℕ, zero, suc, ◌<◌, ℤ, pos, unsigned_abs, List, [], ◌∷◌}
use Rattle.std.specs.Int.{◌∣◌}
use Rattle.std.proofs.Common.{refl, ap, sym, ◌∙◌, subst, ⊎_elim, arith}
use Rattle.std.proofs.lemmas.Int.{ints, unsigned_abs-mul}
use Rattle.std.proofs.lemmas.Nat.Gcd.{dvd_antisymm}
use Rattle.ring_laws.specs.Meaning.{Meaning}
use Rattle.ring_laws.specs.Algebra.{Passing, same_passing}
use Rattle.ring_laws.specs.Wholes.{whole_algebra, number_of}
use Rattle.poly_laws.specs.Lists.{coefficient_at}
use Rattle.poly_laws.proofs.Coefficients.{meanings_same}
use Rattle.poly_divide.specs.Content.{sizes_of, row_sizes, DividesAll, IsContent}
use Rattle.poly_divide.specs.Forms.{linear}
use Rattle.whole_roots.specs.Differences.{polynomials}
use Rattle.whole_roots.specs.LinearFactors.{IsProfileForm}
use Rattle.reducing.specs.TakenOut.{times_row}
use Rattle.reducing.specs.Laws.ScaledRows.{scaled, bare_scaled, is_scaled, scaled_twice, cancel_row}
use Rattle.reducing.specs.Laws.RowPowers.{no_power}
use Rattle.reducing.specs.Laws.OneTakenOut.{not_zero}
use Rattle.reducing.specs.Laws.OnePolynomialRow.{whole_not_zero}
use Rattle.reducing.specs.Laws.FactorLists.{laws, domain, P, linear_is_factor}
use Rattle.reducing.specs.PolynomialRows.{Row, meant}
use Rattle.reducing.specs.CommonForms.{HasNoCommonForm}
use Rattle.reducing.specs.WhatIsLeft.{product_of_forms, IsWhatIsLeft}
use Rattle.reducing.proofs.Cofactors.{Cofactor, cofactor, cross, same_or_apart}
use Rattle.reducing.proofs.CommonForms.{multiple_of}
use Rattle.reducing.proofs.CommonNumbers.{size_at, DividesEach, each_of, of_each, both_parts, number_divides}
use Rattle.reducing.proofs.ContentQuotients.{o, polys, parts, by_number}
use Rattle.reducing.proofs.FormsBeside.{form, IsBeside, number_beside, form_beside}
use Rattle.reducing.proofs.LeftRows.{AreForms}
use Rattle.reducing.proofs.RowContents.{first_part, last_part}

abbrev times : Passing polynomials → Row → Row
times t row = scaled polynomials laws domain t row

-- ---- what divides a row beside something else
record IsMultiple (t : Passing polynomials) (row : Row) : Type 0 where
  quotients : Row
  is : row ≡ times t quotients

row_beside : (t r : Passing polynomials) → IsBeside t r → (row quotients : Row) → times r row ≡ times t quotients → IsMultiple t row
row_beside t r h [] quotients e = record { quotients = []; is = refl }
row_beside t r h (x ∷ xs) [] e = cc
row_beside t r h (x ∷ xs) (q ∷ qs) e =
    let first = h x q (front e) in
    let rest = row_beside t r h xs qs (behind e) in
    record { quotients = first.0 ∷ rest.quotients; is = cc (first.1, rest.is) }
  where
    front : {v w : Passing polynomials} {vs ws : Row} → v ∷ vs ≡ w ∷ ws → v ≡ w
    front e = cc

    behind : {v w : Passing polynomials} {vs ws : Row} → v ∷ vs ≡ w ∷ ws → vs ≡ ws
    behind e = cc

-- no form of the profile divides the row
abbrev IsFree : Row → Type 0
IsFree row = (u : ℕ) (v : ℤ) (h : IsProfileForm u v) → ¬ (IsMultiple (form u v h.from_one) row)

-- ---- products of forms
product_of : (xs : List (ℕ × ℤ)) → AreForms xs → Passing polynomials
product_of [] h = P.unit
product_of (x ∷ xs) h = P.product (product_of xs h.1) (form x.0 x.1 h.0.from_one)

product_is : (xs : List (ℕ × ℤ)) (h : AreForms xs) → (product_of xs h).0 ≡ product_of_forms xs
unfolding product_of
product_is [] h = refl
product_is (x ∷ xs) h = ap (λ m. polynomials.ops.product m (linear (pos x.0) x.1)) (product_is xs h.1)

-- the first form of a list, of a row
first_out : (x : ℕ × ℤ) (xs : List (ℕ × ℤ)) (h : AreForms (x ∷ xs)) (row : Row)
    → times (product_of (x ∷ xs) h) row ≡ times (form x.0 x.1 h.0.from_one) (times (product_of xs h.1) row)
unfolding product_of
first_out x xs h row = sym (scaled_twice polynomials laws domain (form x.0 x.1 h.0.from_one) (product_of xs h.1) row)

none_out : (h : AreForms []) (row : Row) → times (product_of [] h) row ≡ row
unfolding product_of
none_out h row = sym (no_power polynomials laws domain P.unit row)

-- the list without a form that divides its product with a row that is free
record Without (t product : Passing polynomials) (row : Row) : Type 0 where
  rest : List (ℕ × ℤ)
  profile : AreForms rest
  is : times product row ≡ times t (times (product_of rest profile) row)

without : (u : ℕ) (v : ℤ) (p : IsProfileForm u v) (xs : List (ℕ × ℤ)) (h : AreForms xs) (row : Row) → IsFree row
    → IsMultiple (form u v p.from_one) (times (product_of xs h) row) → Without (form u v p.from_one) (product_of xs h) row
without u v p [] h row free m =
    absurd (free u v p (record { quotients = m.quotients; is = sym (none_out h row) ∙ m.is }))
without u v p (x ∷ xs) h row free m = ⊎_elim same (apart (without u v p xs h.1 row free)) (same_or_apart u v x.0 x.1 p h.0)
  where
    t : Passing polynomials
    t = form u v p.from_one

    first : Passing polynomials
    first = form x.0 x.1 h.0.from_one

    same : (u ≡ x.0) × (v ≡ x.1) → Without t (product_of (x ∷ xs) h) row
    same e = record {
      rest = xs;
      profile = h.1;
      is = first_out x xs h row ∙ ap (λ s. times s (times (product_of xs h.1) row)) (sym (one_form e));
    }
      where
        one_form : (u ≡ x.0) × (v ≡ x.1) → t ≡ first
        one_form e = same_passing polynomials t first (cc (e.0, e.1))

    apart : (IsMultiple t (times (product_of xs h.1) row) → Without t (product_of xs h.1) row) → cross u v x.0 x.1 ≢ pos 0
        → Without t (product_of (x ∷ xs) h) row
    apart behind n =
        let inner : IsMultiple t (times (product_of xs h.1) row) =
        row_beside t first (form_beside u v p x.0 x.1 h.0.from_one n) (times (product_of xs h.1) row) m.quotients
        (sym (first_out x xs h row) ∙ m.is) in
        let k : Without t (product_of xs h.1) row = behind inner in
        record {
          rest = x ∷ k.rest;
          profile = (h.0, k.profile);
          is = first_out x xs h row ∙ ap (times first) k.is ∙ multiple_of t first (times (product_of k.rest k.profile) row)
              ∙ ap (times t) (sym (first_out x k.rest (h.0, k.profile) row));
        }

-- rows that are free are one row where forms make them one
forms_cancel : (xs ys : List (ℕ × ℤ)) (h : AreForms xs) (k : AreForms ys) (row other : Row) → IsFree row → IsFree other
    → times (product_of xs h) row ≡ times (product_of ys k) other → row ≡ other
forms_cancel [] [] h k row other f g e = sym (none_out h row) ∙ e ∙ none_out k other
forms_cancel [] (y ∷ ys) h k row other f g e =
    absurd (f y.0 y.1 k.0 (record { quotients = times (product_of ys k.1) other; is = sym (none_out h row) ∙ e ∙ first_out y ys k other }))
forms_cancel (x ∷ xs) ys h k row other f g e =
    forms_cancel xs w.rest h.1 w.profile row other f g
    (cancel_row polynomials laws domain t (not_zero polynomials laws domain (linear (pos x.0) x.1) (linear_is_factor x.0 x.1 h.0.from_one))
    (times (product_of xs h.1) row) (times (product_of w.rest w.profile) other) (sym (first_out x xs h row) ∙ e ∙ w.is))
  where
    t : Passing polynomials
    t = form x.0 x.1 h.0.from_one

    w : Without t (product_of ys k) other
    w = without x.0 x.1 h.0 ys k other g (record { quotients = times (product_of xs h.1) row; is = sym e ∙ first_out x xs h row })

-- ---- numbers
-- a multiple of a row of content 1 by d is no multiple by a number that doesn't divide d
divides_back : (c d : ℕ) (f : Cofactor c d) (x : Passing polynomials) → DividesEach c (parts (polys.product x (polys.whole (pos d))))
    → DividesEach f.part (parts x)
divides_back c d f x h k =
    f.divides (size_at (parts x) k)
    (subst (λ n. c ∣ n) (unsigned_abs-mul (pos d) (number_of (coefficient_at o (parts x) k).0))
    (subst (λ (v : Passing whole_algebra). c ∣ unsigned_abs (number_of v.0)) (by_number (pos d) x k) (h k)))

row_back : (c d : ℕ) (f : Cofactor c d) (row : Row) → DividesAll c (row_sizes (meant (times (P.whole (pos d)) row)))
    → DividesAll f.part (row_sizes (meant row))
row_back c d f [] h = tt
row_back c d f (x ∷ xs) h =
    both_parts f.part (sizes_of x.0) (row_sizes (meant xs))
    (of_each f.part x (divides_back c d f x
    (each_of c (polys.product x (polys.whole (pos d)))
    (first_part c (sizes_of (polynomials.ops.product x.0 (polynomials.ops.whole (pos d)))) (row_sizes (meant (times (P.whole (pos d)) xs))) h))))
    (row_back c d f xs
    (last_part c (sizes_of (polynomials.ops.product x.0 (polynomials.ops.whole (pos d)))) (row_sizes (meant (times (P.whole (pos d)) xs))) h))

number_divides_number : (c d : ℕ) → 0 < c → (row other : Row) → IsContent (row_sizes (meant other)) 1
    → times (P.whole (pos c)) row ≡ times (P.whole (pos d)) other → c ∣ d
number_divides_number c d some row other h e =
    let f : Cofactor c d = cofactor c d some in
    f.none (h.greatest f.part (row_back c d f other
    (number_divides c (times (P.whole (pos d)) other) row
    (is_scaled polynomials laws domain (P.whole (pos c)) (times (P.whole (pos d)) other) row (sym e)))))

positive : (c : ℕ) → ¬ (c ≡ 0) → 0 < c
positive zero n = absurd (n refl)
positive (suc c) n = omega arith

numbers_cancel : (c d : ℕ) → ¬ (c ≡ 0) → ¬ (d ≡ 0) → (row other : Row) → IsContent (row_sizes (meant row)) 1
    → IsContent (row_sizes (meant other)) 1 → times (P.whole (pos c)) row ≡ times (P.whole (pos d)) other → row ≡ other
numbers_cancel c d m n row other h k e =
    cancel_row polynomials laws domain (P.whole (pos c)) (whole_not_zero c m) row other
    (e ∙ ap (λ a. times (P.whole (pos a)) other)
    (dvd_antisymm (number_divides_number d c (positive d n) other row h (sym e)) (number_divides_number c d (positive c m) row other k e)))

-- ---- both
-- a row that no form divides is divided by none with a number beside it
free_numbered : (c : ℕ) → ¬ (c ≡ 0) → (row : Row) → HasNoCommonForm (meant row) → IsFree (times (P.whole (pos c)) row)
free_numbered c n row h u v p m =
    let t : Passing polynomials = form u v p.from_one in
    let k : IsMultiple t row = row_beside t (P.whole (pos c)) (number_beside u v p (pos c) (λ e. n (omega (arith, ints, e)))) row m.quotients m.is in
    h u v p k.quotients (is_scaled polynomials laws domain t row k.quotients k.is)

-- the old row is the forms times the number times what is left
left_is : (old new : List Meaning) (h : IsWhatIsLeft old new)
    → old ≡ meant (times (product_of h.forms h.profile) (times (P.whole (pos h.number)) h.row))
left_is old new h =
    h.is
    ∙ ap (λ m. times_row polynomials (polynomials.ops.product m (polynomials.ops.whole (pos h.number))) h.row) (sym (product_is h.forms h.profile))
    ∙ sym (bare_scaled polynomials laws domain (P.product (product_of h.forms h.profile) (P.whole (pos h.number))) h.row)
    ∙ ap (λ s. meant (times s h.row)) (laws.ring.product_comm (product_of h.forms h.profile) (P.whole (pos h.number)))
    ∙ ap meant (sym (scaled_twice polynomials laws domain (product_of h.forms h.profile) (P.whole (pos h.number)) h.row))

pub one_left : (old new other : List Meaning) → IsWhatIsLeft old new → IsWhatIsLeft old other → new ≡ other
one_left old new other h k = h.row_is ∙ ap meant rows ∙ sym k.row_is
  where
    row : Row
    row = times (P.whole (pos h.number)) h.row

    result : Row
    result = times (P.whole (pos k.number)) k.row

    olds : times (product_of h.forms h.profile) row ≡ times (product_of k.forms k.profile) result
    olds = meanings_same polynomials laws.closed (times (product_of h.forms h.profile) row) (times (product_of k.forms k.profile) result)
        (sym (left_is old new h) ∙ left_is old other k)

    rows : h.row ≡ k.row
    rows = numbers_cancel h.number k.number h.not_zero k.not_zero h.row k.row
        (subst (λ ms. IsContent (row_sizes ms) 1) h.row_is h.primitive) (subst (λ ms. IsContent (row_sizes ms) 1) k.row_is k.primitive)
        (forms_cancel h.forms k.forms h.profile k.profile row result
        (free_numbered h.number h.not_zero h.row (subst HasNoCommonForm h.row_is h.no_form))
        (free_numbered k.number k.not_zero k.row (subst HasNoCommonForm k.row_is k.no_form)) olds)
