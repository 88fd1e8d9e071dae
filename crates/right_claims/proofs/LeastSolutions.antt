-- The chosen vector is a least solution: no solution of the key equation has its last multiplier that isn't zero earlier.
use Rattle.std.proofs.Common.{◌≡◌, ℕ, ◌+◌, ◌-◌, List, length, ap, sym, ◌∙◌, subst}
use Rattle.std.specs.Prelude.{Option}
use Rattle.ring_laws.specs.Meaning.{Meaning}
use Rattle.ring_laws.specs.Algebra.{Ops, within}
use Rattle.poly_laws.specs.Values.{level}
use Rattle.division_laws.specs.Polynomials.{Polynomial}
use Rattle.kernel_laws.specs.Rows.{entry_at}
use Rattle.kernel_laws.specs.Answers.{Vector, meant, FreeVector}
use Rattle.kernel_laws.specs.Reduction.{bare}
use Rattle.kernel_laws.proofs.Belonging.{bare_at}
use Rattle.key_laws.specs.DegreeBounds.{IsDegreeBound, coefficient_count}
use Rattle.key_laws.specs.KeyRows.{key_rows, polynomial_of}
use Rattle.key_laws.specs.Solutions.{IsLeastSolution}
use Rattle.key_laws.proofs.Columns.{key_rows_meant}
use Rattle.key_laws.proofs.Answers.{free_solution}
use Rattle.key_laws.proofs.Kernels.{y_in}
use Rattle.reducing.specs.Laws.FactorLists.{laws, domain}
use Rattle.term_pieces.specs.NormalForm.{Normal}
use Rattle.pole_laws.specs.Orders.{sides_of}
use Rattle.right_claims.specs.KeySolutions.{q_of, b_of, IsChosenVector, y_of, multiplier_of}
use Rattle.right_claims.proofs.Sides.{q_in, b_in, sides_in, sides_are, sides_length}
use Rattle.right_claims.proofs.FreeVectors.{Signed, chosen_signed}

abbrev o : Ops Meaning
o = (level 1).ops

module _ (normal : Normal) (tops : List Meaning) (count : ℕ) (size : length tops ≡ count) (bound : Option ℕ) (free : ℕ) (vector : List Meaning)
    (h : IsChosenVector normal tops count bound free vector) where
  pub signed : Signed normal tops count size bound free vector
  signed = chosen_signed normal tops count size bound free vector h

  abbrev first : ℕ
  first = coefficient_count bound

  -- its entries, Y and the multipliers, as values of the rings
  abbrev pub entries : Vector (level 1)
  entries = entry_at (within (level 1) laws.closed) signed.row

  pub entries_are : entry_at o vector ≡ meant (level 1) entries
  entries_are = ap (entry_at o) (sym signed.row_is) ∙ (λ i k. bare_at (level 1) laws.closed 0 signed.row k i)

  abbrev pub y_value : Polynomial (level 1)
  y_value = y_in (level 1) laws (q_in normal) (b_in normal) (coefficient_count bound) (sides_in normal tops) entries

  pub y_value_is : y_value.0 ≡ y_of bound vector
  y_value_is = ap (λ (w : ℕ → Meaning). polynomial_of o (coefficient_count bound) w) (sym entries_are)

  abbrev pub multiplier_values : Vector (level 1)
  multiplier_values j = entries (coefficient_count bound + j)

  pub multiplier_values_are : meant (level 1) multiplier_values ≡ multiplier_of bound vector
  multiplier_values_are = λ i j. sym entries_are i (coefficient_count bound + j)

  bound_in : IsDegreeBound o (q_of normal) (b_of normal) (bare (level 2) (sides_in normal tops)) bound
  bound_in = subst (λ s. IsDegreeBound o (q_of normal) (b_of normal) s bound) (sym (sides_are normal tops)) h.by_steps.is_bound

  found_in : FreeVector (level 1) (first + length (sides_in normal tops)) first
      (key_rows o (q_of normal) (b_of normal) first (bare (level 2) (sides_in normal tops))) (bare (level 1) signed.row) free
  found_in =
      subst (λ m. FreeVector (level 1) (first + m) first (key_rows o (q_of normal) (b_of normal) first (bare (level 2) (sides_in normal tops)))
      (bare (level 1) signed.row) free) (sym (sides_length normal tops ∙ size))
      (subst (λ rs. FreeVector (level 1) (first + count) first rs (bare (level 1) signed.row) free)
      (sym (key_rows_meant (level 1) laws (q_in normal) (b_in normal) first (sides_in normal tops))) signed.found)

  pub least_solution : IsLeastSolution (level 1) (q_of normal) (b_of normal) (sides_of normal tops) (y_of bound vector) (multiplier_of bound vector)
      (free - coefficient_count bound)
  least_solution =
      subst (λ v. IsLeastSolution (level 1) (q_of normal) (b_of normal) (sides_of normal tops) (y_of bound v) (multiplier_of bound v) (free - first))
      signed.row_is
      (subst (λ s. IsLeastSolution (level 1) (q_of normal) (b_of normal) s (y_of bound (bare (level 1) signed.row))
      (multiplier_of bound (bare (level 1) signed.row)) (free - first)) (sides_are normal tops)
      (free_solution (level 1) laws domain (q_in normal) (b_in normal) (sides_in normal tops) bound bound_in signed.row free found_in))
