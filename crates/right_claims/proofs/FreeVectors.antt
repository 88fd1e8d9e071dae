-- The vector of the steps lies in the kernel of the key rows, and ends at the least column of a multiplier at which one ends; so does its negative.
use Rattle.std.proofs.Common.{◌≡◌, ℕ, zero, suc, ◌+◌, Bool, true, false, List, [], ◌∷◌, map, length, refl, ap, sym, ◌∙◌, subst, All, arith, inl, inr}
use Rattle.std.proofs.lemmas.List.Elements.{All-nil, All-cons}
use Rattle.std.specs.Prelude.{◌⊎◌, cond, Option}
use Rattle.ring_laws.specs.Meaning.{Meaning}
use Rattle.ring_laws.specs.Algebra.{Ops, Passing, within}
use Rattle.poly_laws.specs.LongDivision.{all_nought}
use Rattle.poly_laws.specs.Values.{level}
use Rattle.kernel_laws.specs.Answers.{FreeVector}
use Rattle.kernel_laws.specs.Elimination.{Run}
use Rattle.kernel_laws.specs.Reduction.{bare}
use Rattle.kernel_laws.proofs.Vectors.{first_vector}
use Rattle.key_laws.specs.DegreeBounds.{coefficient_count}
use Rattle.key_laws.specs.KeyRows.{key_rows, row_at, rows_below, longest}
use Rattle.key_laws.proofs.Columns.{columns, key_rows_meant, row_length}
use Rattle.key_laws.proofs.NegatedVectors.{negated_vector}
use Rattle.reducing.specs.Laws.FactorLists.{laws, domain}
use Rattle.reducing.specs.PolynomialRows.{polynomial_reduction}
use Rattle.reducing.specs.Laws.PolynomialReduction.{polynomial_reduction_laws}
use Rattle.term_pieces.specs.NormalForm.{Normal}
use Rattle.right_claims.specs.KeySolutions.{q_of, b_of, rows_of_key, IsVectorByTheSteps, IsChosenVector}
use Rattle.right_claims.proofs.Sides.{q_in, b_in, sides_in, sides_are, sides_length}

abbrev o : Ops Meaning
o = (level 1).ops

abbrev W : Ops (Passing (level 1))
W = within (level 1) laws.closed

pub unit_some : ¬ (W.unit ≡ W.nought)
unit_some e = lone (ap (λ (x : Passing (level 1)). x.0) e)
  where
    lone : ¬ (o.unit ≡ o.nought)
    lone e = cc

-- each of the rows is as long as another
all_long : (n : ℕ) (cs : List (List (Passing (level 1)))) → ((p : ℕ) → length (row_at W cs p) ≡ n) → (p : ℕ)
    → All (λ row. length row ≡ n) (rows_below W cs p)
all_long n cs each zero = All-nil (λ row. length row ≡ n)
all_long n cs each (suc p) = by (all_nought W (row_at W cs p)) (all_long n cs each p)
  where
    by : (b : Bool) → All (λ row. length row ≡ n) (rows_below W cs p)
        → All (λ row. length row ≡ n) (cond b (rows_below W cs p) (row_at W cs p ∷ rows_below W cs p))
    by true rest = rest
    by false rest = All-cons (λ row. length row ≡ n) (row_at W cs p) (rows_below W cs p) (each p) rest

module _ (normal : Normal) (tops : List Meaning) (n : ℕ) where
  abbrev columns_in : List (List (Passing (level 1)))
  columns_in = columns (level 1) laws (q_in normal) (b_in normal) n (sides_in normal tops)

  -- the key rows, with entries that belong to the ring
  abbrev pub rows_in : List (List (Passing (level 1)))
  rows_in = rows_below W columns_in (longest columns_in)

  pub rows_are : rows_of_key normal tops n ≡ map (bare (level 1)) rows_in
  rows_are =
      ap (key_rows o (q_of normal) (b_of normal) n) (sym (sides_are normal tops))
      ∙ key_rows_meant (level 1) laws (q_in normal) (b_in normal) n (sides_in normal tops)

  pub rows_long : (count : ℕ) → length tops ≡ count → All (λ row. length row ≡ n + count) rows_in
  rows_long count size = all_long (n + count) columns_in
      (λ p. row_length (level 1) laws (q_in normal) (b_in normal) n (sides_in normal tops) p ∙ ap (λ m. n + m) (sides_length normal tops ∙ size))
      (longest columns_in)

module _ (normal : Normal) (tops : List Meaning) (count : ℕ) (size : length tops ≡ count) (bound : Option ℕ) (free : ℕ) where
  abbrev first : ℕ
  first = coefficient_count bound

  abbrev rows : List (List (Passing (level 1)))
  rows = rows_in normal tops first

  -- the vector of the steps
  pub steps_free : (row : List (Passing (level 1))) → IsVectorByTheSteps normal tops count bound free row
      → FreeVector (level 1) (coefficient_count bound + count) (coefficient_count bound)
      (map (bare (level 1)) (rows_in normal tops (coefficient_count bound))) (bare (level 1) row) free
  steps_free row h =
      first_vector (level 1) laws domain polynomial_reduction polynomial_reduction_laws unit_some (first + count) rows
      (rows_long normal tops first count size) (suc free) (omega (arith, h.first_free.free.within)) h.by_steps.ran.open_rows h.by_steps.pivots
      h.by_steps.ran.divisor
      (subst (λ rs. Run (level 1) polynomial_reduction rs (suc free) h.by_steps.ran.open_rows h.by_steps.pivots h.by_steps.ran.divisor)
      (rows_are normal tops first) h.by_steps.ran.run)
      first free (omega arith) h.first_free (bare (level 1) row) h.by_steps.back

  -- the vector with its sign
  pub record Signed (vector : List Meaning) : Type 0 where
    pub row : List (Passing (level 1))
    pub row_is : bare (level 1) row ≡ vector
    pub found : FreeVector (level 1) (coefficient_count bound + count) (coefficient_count bound)
        (map (bare (level 1)) (rows_in normal tops (coefficient_count bound))) (bare (level 1) row) free

  negatives : (row : List (Passing (level 1))) → bare (level 1) (map W.neg row) ≡ map o.neg (bare (level 1) row)
  negatives [] = refl
  negatives (x ∷ xs) = ap (λ t. o.neg x.0 ∷ t) (negatives xs)

  pub chosen_signed : (vector : List Meaning) → IsChosenVector normal tops count bound free vector → Signed vector
  chosen_signed vector h = by h.signed.is
    where
      by : (vector ≡ bare (level 1) h.row) ⊎ (vector ≡ map o.neg (bare (level 1) h.row)) → Signed vector
      by (inl e) = record { row = h.row; row_is = sym e; found = steps_free h.row h.by_steps }
      by (inr e) = record {
        row = map W.neg h.row;
        row_is = negatives h.row ∙ sym e;
        found = negated_vector (level 1) laws (first + count) first free rows h.row (steps_free h.row h.by_steps);
      }
