-- No number above 1 divides every coefficient of a reduced row: its content was taken out before the factors.
use Rattle.std.specs.Prelude.{ℕ, zero, suc, ◌*◌, ◌<◌, pos, ◌*ℤ◌, unsigned_abs, List, [], ◌∷◌, ◌++◌, map, refl}
use Rattle.std.specs.Int.{◌∣◌}
use Rattle.std.proofs.Common.{◌≡◌, sym, ◌∙◌, subst, arith}
use Rattle.std.proofs.lemmas.Int.{unsigned_abs-mul}
use Rattle.std.proofs.lemmas.Nat.Gcd.{dvd-zero}
use Rattle.std.proofs.Math.Nat.{mul-dvd-mul_left, dvd_of_mul-dvd-mul_left, one-dvd}
use Rattle.ring_laws.proofs.DividedSums.{divides_sum, divides_product}
use Rattle.ring_laws.specs.Meaning.{Meaning, items}
use Rattle.ring_laws.specs.Algebra.{Passing}
use Rattle.ring_laws.specs.Wholes.{number_of, whole_algebra}
use Rattle.ring_laws.specs.WholeLaws.{whole_laws}
use Rattle.poly_laws.specs.Lists.{coefficient_at, list_product}
use Rattle.poly_laws.proofs.Coefficients.{meanings_of, meanings-coefficients}
use Rattle.poly_laws.proofs.ListLaws.{times_zero, times_suc, times_comm}
use Rattle.poly_laws.proofs.PolyLaws.{coefficient-product}
use Rattle.poly_divide.specs.Content.{sizes_of, row_sizes, DividesAll, IsContent}
use Rattle.whole_roots.specs.Differences.{polynomials}
use Rattle.reducing.specs.TakenOut.{times_row}
use Rattle.reducing.specs.Laws.ScaledRows.{scaled, scaled_is}
use Rattle.reducing.specs.Laws.Multiples.{Multiple, all_taken_out_multiple}
use Rattle.reducing.specs.Laws.FactorLists.{laws, domain, forms_are_factors}
use Rattle.reducing.specs.PolynomialRows.{Row, meant, forms, Reduced, stays, divides, PolynomialsReduced}
use Rattle.reducing.specs.CommonForms.{IsSomeNonzero}
use Rattle.reducing.proofs.RowContents.{first_part, last_part}
use Rattle.reducing.proofs.ContentQuotients.{o, polys, parts, by_number}

-- ---- of the coefficients of a list
abbrev pub size_at : List (Passing whole_algebra) → ℕ → ℕ
size_at xs k = unsigned_abs (number_of (coefficient_at o xs k).0)

abbrev pub DividesEach : ℕ → List (Passing whole_algebra) → Type 0
DividesEach d xs = (k : ℕ) → d ∣ size_at xs k

of_lists : (d : ℕ) (xs ys : List (Passing whole_algebra)) → DividesEach d ys → DividesEach d (list_product o xs ys)
of_lists d [] ys h k = dvd-zero d
of_lists d (x ∷ xs) ys h zero =
    subst (λ (v : Passing whole_algebra). d ∣ unsigned_abs (number_of v.0)) (sym (times_zero o whole_laws.ring x xs ys))
    (divides_product d (number_of x.0) (number_of (coefficient_at o ys 0).0) (h 0))
of_lists d (x ∷ xs) ys h (suc k) =
    subst (λ (v : Passing whole_algebra). d ∣ unsigned_abs (number_of v.0)) (sym (times_suc o whole_laws.ring x xs ys k))
    (divides_sum d (number_of x.0 *ℤ number_of (coefficient_at o ys (suc k)).0) (number_of (coefficient_at o (list_product o xs ys) k).0)
    (divides_product d (number_of x.0) (number_of (coefficient_at o ys (suc k)).0) (h (suc k))) (of_lists d xs ys h k))

of_product : (d : ℕ) (x f : Passing polynomials) → DividesEach d (parts x) → DividesEach d (parts (polys.product x f))
of_product d x f h k =
    subst (λ (v : Passing whole_algebra). d ∣ unsigned_abs (number_of v.0))
    (sym (coefficient-product whole_algebra whole_laws.closed whole_laws.ring x f k ∙ times_comm o whole_laws.ring (parts x) (parts f) k))
    (of_lists d (parts f) (parts x) h k)

-- ---- as divisors of the sizes of a polynomial
all_of : (d : ℕ) (xs : List (Passing whole_algebra)) (ms : List Meaning) → meanings_of whole_algebra whole_laws.closed xs ≡ ms
    → DividesAll d (map (λ (c : Meaning). unsigned_abs (number_of c)) ms) → DividesEach d xs
all_of d [] ms e h k = dvd-zero d
all_of d (x ∷ xs) [] e h k = cc
all_of d (x ∷ xs) (m ∷ ms) e h zero =
    let f : m ≡ x.0 = cc in
    subst (λ n. d ∣ unsigned_abs (number_of n)) f h.0
all_of d (x ∷ xs) (m ∷ ms) e h (suc k) = all_of d xs ms (cc) h.1 k

of_all : (d : ℕ) (xs : List (Passing whole_algebra)) (ms : List Meaning) → meanings_of whole_algebra whole_laws.closed xs ≡ ms → DividesEach d xs
    → DividesAll d (map (λ (c : Meaning). unsigned_abs (number_of c)) ms)
of_all d [] [] e h = tt
of_all d [] (m ∷ ms) e h = cc
of_all d (x ∷ xs) [] e h = cc
of_all d (x ∷ xs) (m ∷ ms) e h =
    let f : x.0 ≡ m = cc in
    (subst (λ n. d ∣ unsigned_abs (number_of n)) f (h 0), of_all d xs ms (cc) (λ k. h (suc k)))

pub each_of : (d : ℕ) (x : Passing polynomials) → DividesAll d (sizes_of x.0) → DividesEach d (parts x)
each_of d x h = all_of d (parts x) (items x.0) (meanings-coefficients whole_algebra whole_laws.closed x) h

pub of_each : (d : ℕ) (x : Passing polynomials) → DividesEach d (parts x) → DividesAll d (sizes_of x.0)
of_each d x h = of_all d (parts x) (items x.0) (meanings-coefficients whole_algebra whole_laws.closed x) h

-- ---- of the rows
pub both_parts : (d : ℕ) (xs ys : List ℕ) → DividesAll d xs → DividesAll d ys → DividesAll d (xs ++ ys)
both_parts d [] ys h k = k
both_parts d (x ∷ xs) ys h k = (h.0, both_parts d xs ys h.1 k)

abbrev times : Passing polynomials → Row → Row
times t row = scaled polynomials laws domain t row

of_row : (d e : ℕ) (f : Passing polynomials) → ((x : Passing polynomials) → DividesEach d (parts x) → DividesEach e (parts (polys.product x f)))
    → (row : Row) → DividesAll d (row_sizes (meant row)) → DividesAll e (row_sizes (meant (times f row)))
of_row d e f g [] h = tt
of_row d e f g (x ∷ xs) h =
    both_parts e (sizes_of (polynomials.ops.product x.0 f.0)) (row_sizes (meant (times f xs)))
    (of_each e (polys.product x f) (g x (each_of d x (first_part d (sizes_of x.0) (row_sizes (meant xs)) h))))
    (of_row d e f g xs (last_part d (sizes_of x.0) (row_sizes (meant xs)) h))

-- a number times a polynomial
of_number : (c d : ℕ) (x : Passing polynomials) → DividesEach d (parts x) → DividesEach (c * d) (parts (polys.product x (polys.whole (pos c))))
of_number c d x h k =
    subst (λ (v : Passing whole_algebra). c * d ∣ unsigned_abs (number_of v.0)) (sym (by_number (pos c) x k))
    (subst (λ n. c * d ∣ n) (sym (unsigned_abs-mul (pos c) (number_of (coefficient_at o (parts x) k).0))) (mul-dvd-mul_left d c (h k)))

pub by_one : (xs : List ℕ) → DividesAll 1 xs
by_one [] = tt
by_one (x ∷ xs) = (one-dvd x, by_one xs)

-- a number divides every coefficient of a row that is that number times another row
pub number_divides : (c : ℕ) (row quotients : Row) → meant row ≡ times_row polynomials (polynomials.ops.whole (pos c)) quotients
    → DividesAll c (row_sizes (meant row))
number_divides c row quotients e =
    let once : c * 1 ≡ c = omega arith in
    subst (λ n. DividesAll n (row_sizes (meant row))) once
    (subst (λ r. DividesAll (c * 1) (row_sizes (meant r))) (sym (scaled_is polynomials laws domain (polys.whole (pos c)) row quotients e))
    (of_row 1 (c * 1) (polys.whole (pos c)) (of_number c 1) quotients (by_one (row_sizes (meant quotients)))))

content_of_reduced : (old new : Row) → Reduced old new → IsSomeNonzero (meant new) → IsContent (row_sizes (meant new)) 1
content_of_reduced old new (stays h) n = absurd (n h)
content_of_reduced old new (divides middle xs w f t) n = record {
  divides = by_one (row_sizes (meant new));
  greatest = λ d h. divides_one d (of_old d (of_row d d left.factor (λ x k. of_product d x left.factor k) new h));
}
  where
    left : Multiple polynomials laws domain middle new
    left = all_taken_out_multiple polynomials laws domain (forms xs) (forms_are_factors _ xs f.factors.each) middle new t

    of_old : (d : ℕ) → DividesAll d (row_sizes (meant (times left.factor new))) → w.content * d ∣ w.content
    of_old d h = w.is_content.greatest (w.content * d)
        (subst (λ r. DividesAll (w.content * d) (row_sizes (meant r)))
        (sym (scaled_is polynomials laws domain (polys.whole (pos w.content)) old middle w.times))
        (of_row d (w.content * d) (polys.whole (pos w.content)) (of_number w.content d) middle
        (subst (λ r. DividesAll d (row_sizes (meant r))) (sym left.is) h)))

    divides_one : (d : ℕ) → w.content * d ∣ w.content → d ∣ 1
    divides_one d h = dvd_of_mul-dvd-mul_left d (positive w.content w.not_zero) (subst (λ n. w.content * d ∣ n) once h)
      where
        once : w.content ≡ w.content * 1
        once = omega arith

        positive : (c : ℕ) → ¬ (c ≡ 0) → 0 < c
        positive zero m = absurd (m refl)
        positive (suc c) m = omega arith

pub no_common_number : (old new : List Meaning) → PolynomialsReduced old new → IsSomeNonzero new → IsContent (row_sizes new) 1
no_common_number old new h n =
    subst (λ ms. IsContent (row_sizes ms) 1) (sym h.result_is) (content_of_reduced h.row h.result h.holds (subst IsSomeNonzero h.result_is n))
