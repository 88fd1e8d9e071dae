-- The first free column, the vector that the steps give at it, and its sign are each only one.
use Rattle.std.proofs.Common.{◌≡◌, ℕ, zero, suc, ◌+◌, ◌<◌, List, [], ◌∷◌, map, refl, ap, sym, ◌∙◌, subst, arith, ⊎_elim, inl, inr}
use Rattle.std.proofs.lemmas.Int.{ints}
use Rattle.std.specs.Prelude.{◌⊎◌, pos, ◌<ℤ◌, Option}
use Rattle.ring_laws.specs.Meaning.{Meaning}
use Rattle.ring_laws.specs.Algebra.{Ops, Passing, within}
use Rattle.poly_laws.specs.Values.{level}
use Rattle.kernel_laws.specs.Rows.{entry_at}
use Rattle.kernel_laws.specs.Reduction.{bare}
use Rattle.kernel_laws.specs.Answers.{Vector, VectorOf}
use Rattle.kernel_laws.proofs.Belonging.{bare_at}
use Rattle.kernel_laws.proofs.FrontRuns.{one_first_free}
use Rattle.kernel_laws.proofs.OneVector.{one_vector}
use Rattle.key_laws.specs.DegreeBounds.{coefficient_count}
use Rattle.key_laws.proofs.OneBound.{one_bound}
use Rattle.reducing.specs.Laws.FactorLists.{laws, domain}
use Rattle.reducing.specs.PolynomialRows.{lead_number, polynomial_reduction}
use Rattle.reducing.specs.Laws.PolynomialReduction.{lead_negative, polynomial_reduction_laws}
use Rattle.term_pieces.specs.NormalForm.{Normal}
use Rattle.pole_laws.specs.Orders.{sides_of}
use Rattle.right_claims.specs.KeySolutions.{q_of, b_of, rows_of_key, IsVectorByTheSteps, IsSigned, IsChosenVector}

abbrev o : Ops Meaning
o = (level 1).ops

-- the entries of a row, each of the ring
abbrev entries : List (Passing (level 1)) → Vector (level 1)
entries row = entry_at (within (level 1) laws.closed) row

one_row : (columns : ℕ) (rows : List (List Meaning)) (free : ℕ) (v w : List Meaning) → VectorOf (level 1) polynomial_reduction columns rows free v
    → VectorOf (level 1) polynomial_reduction columns rows free w → v ≡ w
one_row columns rows free v w p q = one_vector (level 1) laws domain polynomial_reduction polynomial_reduction_laws columns rows free v w p q

-- the entry of a vector of negatives
negative_at : (row : List Meaning) (k : ℕ) → entry_at o (map o.neg row) k ≡ o.neg (entry_at o row k)
negative_at [] k = refl
negative_at (x ∷ xs) zero = refl
negative_at (x ∷ xs) (suc k) = negative_at xs k

-- an entry and its negative haven't both a positive leading coefficient
one_sign : (row : List (Passing (level 1))) (k : ℕ) → pos 0 <ℤ lead_number (entry_at o (bare (level 1) row) k)
    → pos 0 <ℤ lead_number (entry_at o (map o.neg (bare (level 1) row)) k) → ⊥
one_sign row k h n =
    let entry : Passing (level 1) = entries row k in
    let is : entry_at o (bare (level 1) row) k ≡ entry.0 = bare_at (level 1) laws.closed 0 row k in
    omega (arith, ints, h, n, ap lead_number is, ap lead_number (negative_at (bare (level 1) row) k ∙ ap o.neg is) ∙ lead_negative entry)

one_signed : (row : List (Passing (level 1))) (v w : List Meaning) (k : ℕ) → IsSigned (bare (level 1) row) v k → IsSigned (bare (level 1) row) w k → v ≡ w
one_signed row v w k h n = by h.is n.is
  where
    by : (v ≡ bare (level 1) row) ⊎ (v ≡ map o.neg (bare (level 1) row)) → (w ≡ bare (level 1) row) ⊎ (w ≡ map o.neg (bare (level 1) row)) → v ≡ w
    by (inl a) (inl b) = a ∙ sym b
    by (inl a) (inr b) = absurd (one_sign row k (subst (λ (u : List Meaning). pos 0 <ℤ lead_number (entry_at o u k)) a h.positive)
        (subst (λ (u : List Meaning). pos 0 <ℤ lead_number (entry_at o u k)) b n.positive))
    by (inr a) (inl b) = absurd (one_sign row k (subst (λ (u : List Meaning). pos 0 <ℤ lead_number (entry_at o u k)) b n.positive)
        (subst (λ (u : List Meaning). pos 0 <ℤ lead_number (entry_at o u k)) a h.positive))
    by (inr a) (inr b) = a ∙ sym b

module _ (normal : Normal) (tops : List Meaning) (count : ℕ) (bound other : Option ℕ) (free later : ℕ) (vector another : List Meaning)
    (h : IsChosenVector normal tops count bound free vector) (k : IsChosenVector normal tops count other later another) where
  pub bounds : bound ≡ other
  bounds = one_bound o (q_of normal) (b_of normal) (sides_of normal tops) bound other h.by_steps.is_bound k.by_steps.is_bound

  moved : IsVectorByTheSteps normal tops count bound later k.row
  moved = subst (λ s. IsVectorByTheSteps normal tops count s later k.row) (sym bounds) k.by_steps

  abbrev columns : ℕ
  columns = coefficient_count bound + count

  abbrev rows : List (List Meaning)
  rows = rows_of_key normal tops (coefficient_count bound)

  frees : free ≡ later
  frees = one_first_free (level 1) laws domain polynomial_reduction polynomial_reduction_laws columns (coefficient_count bound) rows free later
      h.by_steps.by_steps.pivots moved.by_steps.pivots h.by_steps.by_steps.ran moved.by_steps.ran h.by_steps.first_free moved.first_free

  same_rows : bare (level 1) h.row ≡ bare (level 1) k.row
  same_rows = one_row columns rows free (bare (level 1) h.row) (bare (level 1) k.row) h.by_steps.by_steps
      (subst (λ n. VectorOf (level 1) polynomial_reduction columns rows n (bare (level 1) k.row)) (sym frees) moved.by_steps)

  pub vectors : vector ≡ another
  vectors = one_signed h.row vector another free h.signed
      (subst (λ n. IsSigned (bare (level 1) h.row) another n) (sym frees) (subst (λ r. IsSigned r another later) (sym same_rows) k.signed))
