-- Over the polynomials in n: nothing common divides the multipliers and what is left of Y, since nothing common divides the entries of the vector that
-- the steps give.
use Rattle.std.proofs.Common.{◌≡◌, ℕ, zero, suc, ◌+◌, ◌-◌, ◌<◌, Bool, true, false, List, [], ◌∷◌, map, length, get_or, refl, ap, sym, ◌∙◌, subst, All, arith, inl, inr, ⊎_elim}
use Rattle.std.proofs.lemmas.Bool.{cases_lt}
use Rattle.std.proofs.lemmas.List.{length-map}
use Rattle.std.proofs.lemmas.List.Elements.{All-nil, All-cons}
use Rattle.std.specs.Prelude.{◌⊎◌, cond, pos, negsuc}
use Rattle.ring_laws.specs.Meaning.{Meaning}
use Rattle.ring_laws.specs.Algebra.{Ops, Passing, within}
use Rattle.poly_laws.specs.LongDivision.{all_nought}
use Rattle.poly_laws.specs.Values.{level}
use Rattle.poly_laws.proofs.Equal.{level_laws}
use Rattle.poly_laws.proofs.Fitting.{item_at}
use Rattle.poly_laws.proofs.ListLaws.{sum_nought}
use Rattle.poly_laws.proofs.OneQuotient.{neg_product}
use Rattle.division_laws.specs.Polynomials.{Polynomial, coefficient_of}
use Rattle.division_laws.proofs.Polynomials.{shifted_in, listed_in, listed_at}
use Rattle.kernel_laws.specs.Answers.{FreeVector}
use Rattle.kernel_laws.specs.Elimination.{Run}
use Rattle.kernel_laws.specs.Reduction.{bare}
use Rattle.kernel_laws.specs.Rows.{entry_at}
use Rattle.kernel_laws.specs.RowSteps.{HasQuotient}
use Rattle.kernel_laws.proofs.Belonging.{bare_at}
use Rattle.kernel_laws.proofs.Vectors.{first_vector}
use Rattle.key_laws.specs.CommonDivisors.{IsCommonDivisor}
use Rattle.key_laws.specs.DegreeBounds.{coefficient_count}
use Rattle.key_laws.specs.KeyEquation.{meanings}
use Rattle.key_laws.specs.KeyRows.{key_rows, row_at, rows_below, longest, listing, polynomial_of}
use Rattle.key_laws.proofs.Columns.{columns, key_rows_meant, row_length, listing_meant}
use Rattle.key_laws.proofs.CommonDivisors.{divisor_stays}
use Rattle.poly_divide.specs.Forms.{linear}
use Rattle.reducing.specs.Laws.FactorLists.{laws, domain, linear_is_factor}
use Rattle.reducing.specs.Laws.PolynomialReduction.{polynomial_reduction_laws}
use Rattle.reducing.specs.NothingCommon.{DividesEntries, HasNothingCommon}
use Rattle.reducing.specs.PolynomialRows.{polynomial_reduction}
use Rattle.reducing.proofs.ReducedVectors.{nothing_common}
use Rattle.hypergeometric.specs.LinearForm.{Factor}
use Rattle.hypergeometric.specs.FormOrder.{IsSorted}
use Rattle.term_pieces.specs.NormalForm.{Normal}
use Rattle.pole_laws.proofs.NormalPolynomials.{list_in}
use Rattle.form_rings.specs.OneVariable.{forms_in_n}
use Rattle.form_rings.specs.OneVariableLaws.{laws_in_n}
use Rattle.key_sides.proofs.Lifts.{lift_in}
use Rattle.key_system.specs.Solved.{IsChosen}
use Rattle.key_equation.specs.Answers.{IsSolution}
use Rattle.key_equation.specs.Reduced.{IsReduced}
use Rattle.key_equation.specs.Cancelling.{LeavesInOrder}
use Rattle.key_equation.specs.Polynomials.{q_over, b_over, form_over}
use Rattle.key_equation.proofs.LeftOver.{OfSome, OfZero, left_over}
use Rattle.key_equation.proofs.WhatIsLeft.{forms_in_ring}

abbrev o : Ops Meaning
o = (level 1).ops

abbrev W : Ops (Passing (level 1))
W = within (level 1) laws.closed

unit_some : ¬ (W.unit ≡ W.nought)
unit_some e = lone (ap (λ (x : Passing (level 1)). x.0) e)
  where
    lone : ¬ (o.unit ≡ o.nought)
    lone e = cc

listing_at : {A : Type 0} (x : A) (n : ℕ) (f : ℕ → A) (k : ℕ) → k < n → get_or (listing n f) k x ≡ f k
listing_at x zero f k b = absurd (omega (arith, b))
listing_at x (suc n) f zero b = refl
listing_at x (suc n) f (suc k) b = listing_at x n (λ i. f (suc i)) k (omega (arith, b))

listing_length : {A : Type 0} (n : ℕ) (f : ℕ → A) → length (listing n f) ≡ n
listing_length zero f = refl
listing_length (suc n) f = ap suc (listing_length n (λ i. f (suc i)))

-- what divides the negative of a value divides the value
twice : (x : Passing (level 1)) → W.neg (W.neg x) ≡ x
twice x =
    let y = W.neg x in
    sym (laws.ring.nought_sum (W.neg y)) ∙ ap (λ t. W.sum t (W.neg y)) (sym (laws.ring.sum_neg x)) ∙ laws.ring.sum_assoc x y (W.neg y)
    ∙ ap (W.sum x) (laws.ring.sum_neg y) ∙ sum_nought W laws.ring x

of_negative : (t x : Passing (level 1)) → HasQuotient (level 1) t.0 (o.neg x.0) → HasQuotient (level 1) t.0 x.0
of_negative t x h = record {
  quotient = W.neg h.quotient;
  is = ap (λ (v : Passing (level 1)). v.0) (neg_product W laws.ring h.quotient t) ∙ ap o.neg h.is ∙ ap (λ (v : Passing (level 1)). v.0) (twice x);
}

negative_at : (row : List Meaning) (k : ℕ) → k < length row → entry_at o (map o.neg row) k ≡ o.neg (entry_at o row k)
negative_at [] k b = absurd (omega (arith, b))
negative_at (x ∷ xs) zero b = refl
negative_at (x ∷ xs) (suc k) b = negative_at xs k (omega (arith, b))

negatives : (row : List (Passing (level 1))) → bare (level 1) (map W.neg row) ≡ map o.neg (bare (level 1) row)
negatives [] = refl
negatives (x ∷ xs) = ap (λ t. o.neg x.0 ∷ t) (negatives xs)

-- what divides each entry of a row or of its negative divides each entry of the row
of_signed : (t : Passing (level 1)) (row : List (Passing (level 1))) (vector : List Meaning)
    → (vector ≡ bare (level 1) row) ⊎ (vector ≡ map o.neg (bare (level 1) row)) → DividesEntries t.0 vector → DividesEntries t.0 (bare (level 1) row)
of_signed t row vector (inl e) h k b = subst (DividesEntries t.0) e h k b
of_signed t row vector (inr e) h k b =
    let at : entry_at o (bare (level 1) row) k ≡ (entry_at W row k).0 = bare_at (level 1) laws.closed 0 row k in
    subst (HasQuotient (level 1) t.0) (sym at)
    (of_negative t (entry_at W row k)
    (subst (HasQuotient (level 1) t.0) (ap (λ v. entry_at o v k) e ∙ negative_at (bare (level 1) row) k b ∙ ap o.neg at)
    (h k (omega (arith, b, ap length e, length-map (bare (level 1) row) o.neg)))))

-- a vector whose entries belong to the ring
record Belongs (vector : List Meaning) : Type 0 where
  row : List (Passing (level 1))
  row_is : bare (level 1) row ≡ vector

signed_belongs : (row : List (Passing (level 1))) (vector : List Meaning)
    → (vector ≡ bare (level 1) row) ⊎ (vector ≡ map o.neg (bare (level 1) row)) → Belongs vector
signed_belongs row vector (inl e) = record { row = row; row_is = sym e }
signed_belongs row vector (inr e) = record { row = map W.neg row; row_is = negatives row ∙ sym e }

-- each of the rows is as long as another
all_long : (n : ℕ) (cs : List (List (Passing (level 1)))) → ((p : ℕ) → length (row_at W cs p) ≡ n) → (p : ℕ)
    → All (λ row. length row ≡ n) (rows_below W cs p)
all_long n cs each zero = All-nil (λ row. length row ≡ n)
all_long n cs each (suc p) = by (all_nought W (row_at W cs p)) (all_long n cs each p)
  where
    by : (b : Bool) → All (λ row. length row ≡ n) (rows_below W cs p)
        → All (λ row. length row ≡ n) (cond b (rows_below W cs p) (row_at W cs p ∷ rows_below W cs p))
    by true rest = rest
    by false rest = All-cons (λ row. length row ≡ n) (row_at W cs p) (rows_below W cs p) (each p) rest

module _ (normal : Normal) (sides : List (Polynomial (level 1))) (whole : Meaning) (multipliers : List Meaning)
    (h : IsChosen (level 1) polynomial_reduction forms_in_n (q_over (level 1) forms_in_n normal) (b_over (level 1) forms_in_n normal)
    (meanings (level 1) sides) whole multipliers) where
  abbrev q : Polynomial (level 1)
  q = lift_in (level 1) (level_laws 1) forms_in_n laws_in_n (list_in normal.q)

  abbrev b : Polynomial (level 1)
  b = shifted_in (level 1) (level_laws 1) (negsuc 0) (lift_in (level 1) (level_laws 1) forms_in_n laws_in_n (list_in normal.r))

  abbrev first : ℕ
  first = coefficient_count h.bound

  abbrev count : ℕ
  count = length (meanings (level 1) sides)

  abbrev columns_in : List (List (Passing (level 1)))
  columns_in = columns (level 1) laws q b first sides

  abbrev rows_in : List (List (Passing (level 1)))
  rows_in = rows_below W columns_in (longest columns_in)

  rows_long : All (λ row. length row ≡ first + count) rows_in
  rows_long = all_long (first + count) columns_in
      (λ p. row_length (level 1) laws q b first sides p
      ∙ ap (λ m. first + m) (sym (length-map sides (λ (t : Polynomial (level 1)). t.0)))) (longest columns_in)

  -- the vector of the steps
  found : FreeVector (level 1) (first + count) first (map (bare (level 1)) rows_in) (bare (level 1) h.row) h.free
  found =
      first_vector (level 1) laws domain polynomial_reduction polynomial_reduction_laws unit_some (first + count) rows_in
      rows_long (suc h.free) (omega (arith, h.by_steps.first_free.free.within)) h.by_steps.by_steps.ran.open_rows h.by_steps.by_steps.pivots
      h.by_steps.by_steps.ran.divisor
      (subst (λ rs. Run (level 1) polynomial_reduction rs (suc h.free) h.by_steps.by_steps.ran.open_rows h.by_steps.by_steps.pivots
      h.by_steps.by_steps.ran.divisor) (key_rows_meant (level 1) laws q b first sides) h.by_steps.by_steps.ran.run)
      first h.free (omega arith) h.by_steps.first_free (bare (level 1) h.row) h.by_steps.by_steps.back

  none_of_row : HasNothingCommon (bare (level 1) h.row)
  none_of_row =
      nothing_common (first + count) (key_rows o q.0 b.0 first (meanings (level 1) sides)) h.free (bare (level 1) h.row) h.by_steps.by_steps found.ends

  belongs : Belongs h.parts.vector
  belongs = signed_belongs h.row h.parts.vector h.parts.signed.is

  entry_is : (k : ℕ) → (entry_at W belongs.row k).0 ≡ entry_at o h.parts.vector k
  entry_is k = sym (bare_at (level 1) laws.closed 0 belongs.row k) ∙ ap (λ v. entry_at o v k) belongs.row_is

  -- Y as a polynomial of the ring
  abbrev y : Polynomial (level 1)
  y = listed_in (level 1) laws (listing first (λ k. entry_at W belongs.row k)) (listing first (λ k. (entry_at W belongs.row k).0))
      (listing_meant (level 1) laws (λ (t : Passing (level 1)). t.0) first (λ k. entry_at W belongs.row k))

  y_is : whole ≡ y.0
  y_is = h.parts.y_is ∙ ap (polynomial_of o first) (λ i k. sym (entry_is k) i)

  coefficient_is : (k : ℕ) → k < first → coefficient_of o y.0 k ≡ entry_at o h.parts.vector k
  coefficient_is k c =
      item_at (level 1) laws.closed laws.ring laws.magnitudes y k
      ∙ ap (λ (t : Passing (level 1)). t.0)
      (listed_at (level 1) laws (listing first (λ k. entry_at W belongs.row k)) (listing first (λ k. (entry_at W belongs.row k).0))
      (listing_meant (level 1) laws (λ (t : Passing (level 1)). t.0) first (λ k. entry_at W belongs.row k)) k
      ∙ listing_at W.nought first (λ k. entry_at W belongs.row k) k c) ∙ entry_is k

  vector_length : length h.parts.vector ≡ first + count
  vector_length =
      ⊎_elim (λ e. ap length e ∙ found.size) (λ e. ap length e ∙ length-map (bare (level 1) h.row) o.neg ∙ found.size) h.parts.signed.is

  many : length multipliers ≡ count
  many = ap length h.parts.multipliers_are ∙ listing_length count (λ j. entry_at o h.parts.vector (first + j))

  multiplier_is : (j : ℕ) → j < count → entry_at o multipliers j ≡ entry_at o h.parts.vector (first + j)
  multiplier_is j c =
      ap (λ ms. entry_at o ms j) h.parts.multipliers_are ∙ listing_at o.nought count (λ j. entry_at o h.parts.vector (first + j)) j c

  -- a common divisor divides each entry
  divides_entries : (t : Meaning) → IsCommonDivisor (level 1) (length multipliers) (entry_at o multipliers) y.0 t → DividesEntries t h.parts.vector
  divides_entries t d k c =
      ⊎_elim (λ s. subst (HasQuotient (level 1) t) (coefficient_is k s) (d.of_y k))
      (λ s.
      let back : first + (k - first) ≡ k = omega (arith, s) in
      let within : k - first < count = omega (arith, c, s, vector_length) in
      subst (HasQuotient (level 1) t) (multiplier_is (k - first) within ∙ ap (entry_at o h.parts.vector) back)
      (d.of_multipliers (k - first) (omega (arith, within, many))))
      (cases_lt k first)

  reduced_whole : IsReduced (length multipliers) (entry_at o multipliers) y.0
  reduced_whole = record {
    numbers = λ c l d. none_of_row.numbers c l
        (of_signed (o.whole (pos c), laws.closed.whole (pos c)) h.row h.parts.vector h.parts.signed.is (divides_entries (o.whole (pos c)) d));
    forms = λ u v p d. none_of_row.forms u v p
        (of_signed (linear (pos u) v, (linear_is_factor u v p.from_one).0) h.row h.parts.vector h.parts.signed.is (divides_entries (linear (pos u) v) d));
  }

  module _ (left : Meaning) (poles : List Factor) (sorted : IsSorted normal.poles.factors)
      (leaves : LeavesInOrder (level 2) (form_over (level 1) forms_in_n) normal.poles.factors whole left poles) where
    of_left : (t : Passing (level 1)) → IsCommonDivisor (level 1) (length multipliers) (entry_at o multipliers) left t.0
        → IsCommonDivisor (level 1) (length multipliers) (entry_at o multipliers) y.0 t.0
    of_left t d =
        ⊎_elim
        (λ (s : OfSome (level 1) (level_laws 1) forms_in_n laws_in_n normal.poles.factors y left poles).
        divisor_stays (level 1) (level_laws 1) (length multipliers) (entry_at o multipliers) y s.outcome.value
        (forms_in_ring (level 1) (level_laws 1) forms_in_n laws_in_n s.outcome.gone) t
        (ap (λ (f : Polynomial (level 1)). f.0) s.outcome.of_y)
        (subst (λ f. IsCommonDivisor (level 1) (length multipliers) (entry_at o multipliers) f t.0) s.outcome.value_is d))
        (λ (z : OfZero (level 1) (level_laws 1) forms_in_n laws_in_n y left poles).
        subst (λ f. IsCommonDivisor (level 1) (length multipliers) (entry_at o multipliers) f t.0) z.left_is d)
        (left_over (level 1) (level_laws 1) forms_in_n laws_in_n normal.poles.factors y left poles sorted
        (subst (λ f. LeavesInOrder (level 2) (form_over (level 1) forms_in_n) normal.poles.factors f left poles) y_is leaves))

    pub reduced_left : IsReduced (length multipliers) (entry_at o multipliers) left
    reduced_left = record {
      numbers = λ c l d. reduced_whole.numbers c l (of_left (o.whole (pos c), laws.closed.whole (pos c)) d);
      forms = λ u v p d. reduced_whole.forms u v p (of_left (linear (pos u) v, (linear_is_factor u v p.from_one).0) d);
    }

pub reduced_solution : (normal : Normal) (sides : List (Polynomial (level 1))) (y : Meaning) (multipliers : List Meaning) (poles : List Factor)
    → IsSorted normal.poles.factors
    → IsSolution (level 1) polynomial_reduction forms_in_n normal (meanings (level 1) sides) y multipliers poles
    → IsReduced (length multipliers) (entry_at (level 1).ops multipliers) y
reduced_solution normal sides y multipliers poles sorted h =
    reduced_left normal sides h.whole multipliers h.chosen y poles sorted h.leaves
