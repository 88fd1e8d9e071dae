-- Nothing common divides the multipliers and what is left of Y, where nothing common divides the entries of the vector of the steps.
use Rattle.std.proofs.Common.{◌≡◌, ℕ, zero, suc, ◌+◌, ◌-◌, ◌<◌, List, [], ◌∷◌, map, length, refl, ap, sym, ◌∙◌, subst, arith, inl, inr, ⊎_elim}
use Rattle.std.proofs.lemmas.Bool.{cases_lt}
use Rattle.std.proofs.lemmas.List.{length-map}
use Rattle.std.specs.Prelude.{◌⊎◌, pos, Option}
use Rattle.ring_laws.specs.Meaning.{Meaning}
use Rattle.ring_laws.specs.Algebra.{Ops, Passing, within}
use Rattle.poly_laws.specs.Values.{level}
use Rattle.poly_laws.proofs.Fitting.{item_at}
use Rattle.poly_laws.proofs.ListLaws.{sum_nought}
use Rattle.poly_laws.proofs.OneQuotient.{neg_product}
use Rattle.division_laws.specs.Polynomials.{coefficient_of}
use Rattle.division_laws.proofs.Polynomials.{listed_at}
use Rattle.kernel_laws.specs.Rows.{entry_at}
use Rattle.kernel_laws.specs.RowSteps.{HasQuotient}
use Rattle.kernel_laws.specs.Reduction.{bare}
use Rattle.kernel_laws.specs.Answers.{Vector, meant}
use Rattle.kernel_laws.proofs.Belonging.{bare_at}
use Rattle.key_laws.specs.CommonDivisors.{IsCommonDivisor}
use Rattle.key_laws.specs.DegreeBounds.{coefficient_count}
use Rattle.key_laws.specs.KeyRows.{listing}
use Rattle.key_laws.proofs.Columns.{listing_meant}
use Rattle.poly_divide.specs.Forms.{linear}
use Rattle.reducing.specs.Laws.FactorLists.{laws, linear_is_factor}
use Rattle.reducing.specs.NothingCommon.{DividesEntries, HasNothingCommon}
use Rattle.reducing.proofs.ReducedVectors.{nothing_common}
use Rattle.term_pieces.specs.NormalForm.{Normal}
use Rattle.right_claims.specs.Choice.{IsReduced}
use Rattle.right_claims.specs.KeySolutions.{rows_of_key, IsChosenVector, multiplier_of}
use Rattle.right_claims.proofs.FreeVectors.{steps_free}
use Rattle.right_claims.proofs.LeastSolutions.{entries, entries_are, y_value}
use Rattle.right_claims.proofs.Listings.{listing_at}

abbrev o : Ops Meaning
o = (level 1).ops

abbrev W : Ops (Passing (level 1))
W = within (level 1) laws.closed

-- what divides the negative of a value divides the value
twice : (x : Passing (level 1)) → W.neg (W.neg x) ≡ x
twice x =
    let y = W.neg x in
    sym (laws.ring.nought_sum (W.neg y)) ∙ ap (λ t. W.sum t (W.neg y)) (sym (laws.ring.sum_neg x)) ∙ laws.ring.sum_assoc x y (W.neg y)
    ∙ ap (W.sum x) (laws.ring.sum_neg y) ∙ sum_nought W laws.ring x

of_negative : (t x : Passing (level 1)) → HasQuotient (level 1) t.0 (o.neg x.0) → HasQuotient (level 1) t.0 x.0
of_negative t x h = record {
  quotient = W.neg h.quotient;
  is = ap (λ (v : Passing (level 1)). v.0) (neg_product W laws.ring h.quotient t) ∙ ap o.neg h.is ∙ ap (λ (v : Passing (level 1)). v.0) (twice x);
}

negative_at : (row : List Meaning) (k : ℕ) → k < length row → entry_at o (map o.neg row) k ≡ o.neg (entry_at o row k)
negative_at [] k b = absurd (omega (arith, b))
negative_at (x ∷ xs) zero b = refl
negative_at (x ∷ xs) (suc k) b = negative_at xs k (omega (arith, b))

-- what divides each entry of a row or of its negative divides each entry of the row
of_signed : (t : Passing (level 1)) (row : List (Passing (level 1))) (vector : List Meaning)
    → (vector ≡ bare (level 1) row) ⊎ (vector ≡ map o.neg (bare (level 1) row)) → DividesEntries t.0 vector → DividesEntries t.0 (bare (level 1) row)
of_signed t row vector (inl e) h k b = subst (DividesEntries t.0) e h k b
of_signed t row vector (inr e) h k b =
    let at : entry_at o (bare (level 1) row) k ≡ (entry_at W row k).0 = bare_at (level 1) laws.closed 0 row k in
    subst (HasQuotient (level 1) t.0) (sym at)
    (of_negative t (entry_at W row k)
    (subst (HasQuotient (level 1) t.0) (ap (λ v. entry_at o v k) e ∙ negative_at (bare (level 1) row) k b ∙ ap o.neg at)
    (h k (omega (arith, b, ap length e, length-map (bare (level 1) row) o.neg)))))

module _ (normal : Normal) (tops : List Meaning) (count : ℕ) (size : length tops ≡ count) (bound : Option ℕ) (free : ℕ) (vector : List Meaning)
    (h : IsChosenVector normal tops count bound free vector) where
  abbrev first : ℕ
  first = coefficient_count bound

  -- nothing common divides each entry of the vector of the steps
  none_of_row : HasNothingCommon (bare (level 1) h.row)
  none_of_row =
      let found = steps_free normal tops count size bound free h.row h.by_steps in
      nothing_common (first + count) (rows_of_key normal tops first) free (bare (level 1) h.row) h.by_steps.by_steps found.ends

  -- the coefficients of Y are its first entries
  coefficient_is : (k : ℕ) → k < first
      → coefficient_of o (y_value normal tops count size bound free vector h).0 k ≡ entry_at o vector k
  coefficient_is k b =
      item_at (level 1) laws.closed laws.ring laws.magnitudes (y_value normal tops count size bound free vector h) k
      ∙ ap (λ (t : Passing (level 1)). t.0) (listed_at (level 1) laws (listing first v) (listing first (meant (level 1) v))
      (listing_meant (level 1) laws (λ (t : Passing (level 1)). t.0) first v) k ∙ listing_at W.nought first v k b)
      ∙ sym (λ i. entries_are normal tops count size bound free vector h i k)
    where
      v : Vector (level 1)
      v = entries normal tops count size bound free vector h

  vector_length : length vector ≡ first + count
  vector_length =
      let found = steps_free normal tops count size bound free h.row h.by_steps in
      ⊎_elim (λ e. ap length e ∙ found.size) (λ e. ap length e ∙ length-map (bare (level 1) h.row) o.neg ∙ found.size) h.signed.is

  -- a common divisor divides each entry
  divides_entries : (t : Meaning) → IsCommonDivisor (level 1) count (multiplier_of bound vector)
      (y_value normal tops count size bound free vector h).0 t → DividesEntries t vector
  divides_entries t d k b =
      ⊎_elim (λ c. subst (HasQuotient (level 1) t) (coefficient_is k c) (d.of_y k))
      (λ c.
      let back : first + (k - first) ≡ k = omega (arith, c) in
      subst (HasQuotient (level 1) t) (ap (entry_at o vector) back) (d.of_multipliers (k - first) (omega (arith, b, c, vector_length))))
      (cases_lt k first)

  pub reduced_solution : IsReduced count (multiplier_of bound vector) (y_value normal tops count size bound free vector h).0
  reduced_solution = record {
    numbers = λ c l d. none_of_row.numbers c l
        (of_signed (o.whole (pos c), laws.closed.whole (pos c)) h.row vector h.signed.is (divides_entries (o.whole (pos c)) d));
    forms = λ u v p d. none_of_row.forms u v p
        (of_signed (linear (pos u) v, (linear_is_factor u v p.from_one).0) h.row vector h.signed.is (divides_entries (linear (pos u) v) d));
  }
