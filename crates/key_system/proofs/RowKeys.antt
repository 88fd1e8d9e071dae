-- What the rows of the code are good for: their sizes, and the vectors of their kernel.
use Rattle.std.specs.Prelude.{◌≡◌, ℕ, zero, suc, ◌+◌, ◌≤◌, IsTrue, Bool, true, false, cond, Vec, Result, IfOk, All, List, [], ◌∷◌, map, length, refl}
use Rattle.std.proofs.Common.{ap, sym, ◌∙◌, subst}
use Rattle.std.proofs.lemmas.List.{length-map, length-append}
use Rattle.std.proofs.lemmas.List.Elements.{All-nil, All-cons}
use Rattle.std.proofs.lemmas.Result.{IfOk-weaker}
use Rattle.ring_laws.specs.Meaning.{Meaning, items}
use Rattle.ring_laws.specs.Algebra.{Ops, Algebra, Laws}
use Rattle.poly_laws.specs.LongDivision.{all_nought}
use Rattle.poly_laws.specs.PolyAlgebra.{poly_algebra, poly_ops}
use Rattle.kernel_laws.specs.Rows.{InKernel}
use Rattle.kernel_laws.specs.Answers.{Vector, meant}
use Rattle.kernel_laws.specs.Reduction.{bare}
use Rattle.kernel_laws.proofs.Kernels.{first_of, rest_of}
use Rattle.division_laws.specs.Polynomials.{Polynomial, coefficient_of}
use Rattle.key_laws.specs.KeyEquation.{SolvesWith, key_difference}
use Rattle.key_laws.specs.KeyRows.{listing, power_of_k, key_columns, key_rows, row_at, rows_below, longest, polynomial_of, unknowns}
use Rattle.key_laws.proofs.Kernels.{kernel_solves, unknowns_in_kernel}
use Rattle.key_laws.proofs.ValuesOfCode.{values_of, bare_values}
use Rattle.fraction_free.specs.RowAnswers.{rows_meant}

length_listing : {A : Type 0} (n : ℕ) (f : ℕ → A) → length (listing n f) ≡ n
length_listing zero f = refl
length_listing (suc n) f = ap suc (length_listing n (λ i. f (suc i)))

-- each row has an entry for each column
row_sizes : {A : Type 0} (o : Ops A) (columns : List (List A)) (n : ℕ) → All (λ row. length row ≡ length columns) (rows_below o columns n)
row_sizes o columns zero = All-nil (λ row. length row ≡ length columns)
row_sizes o columns (suc n) = by (all_nought o (row_at o columns n)) (row_sizes o columns n)
  where
    by : (zeros : Bool) → All (λ row. length row ≡ length columns) (rows_below o columns n)
        → All (λ row. length row ≡ length columns) (cond zeros (rows_below o columns n) (row_at o columns n ∷ rows_below o columns n))
    by true h = h
    by false h = All-cons (λ row. length row ≡ length columns) (row_at o columns n) (rows_below o columns n)
        (length-map columns _) h

-- there is a column for each coefficient of Y and for each multiplier
column_count : (o : Ops Meaning) (q b : Meaning) (n : ℕ) (sides : List Meaning) → length (map items (key_columns o q b n sides)) ≡ n + length sides
column_count o q b n sides =
    length-map (key_columns o q b n sides) items
    ∙ length-append (listing n (λ i. key_difference o q b (power_of_k o i))) (map (poly_ops o).neg sides)
    ∙ (λ i. length_listing n (λ i. key_difference o q b (power_of_k o i)) i + length-map sides (poly_ops o).neg i)

module _ {E Z : Type 0} (value : E → Meaning) where
  sizes_of : (n : ℕ) (rows : List (Vec E Z)) → All (λ row. length row ≡ n) (rows_meant value rows)
      → All (λ (row : Vec E Z). length row.items ≡ n) rows
  sizes_of n [] h = All-nil (λ (row : Vec E Z). length row.items ≡ n)
  sizes_of n (row ∷ rows) h =
      All-cons (λ (row : Vec E Z). length row.items ≡ n) row rows
      (sym (length-map row.items value) ∙ first_of (λ (r : List Meaning). length r ≡ n) (map value row.items) (rows_meant value rows) h)
      (sizes_of n rows (rest_of (λ (r : List Meaning). length r ≡ n) (map value row.items) (rows_meant value rows) h))

  key_sizes : (o : Ops Meaning) (q b : Meaning) (n : ℕ) (sides : List Meaning) (rows : List (Vec E Z))
      → rows_meant value rows ≡ key_rows o q b n sides → All (λ (row : Vec E Z). length row.items ≡ n + length sides) rows
  key_sizes o q b n sides rows e =
      sizes_of (n + length sides) rows
      (subst (λ (rs : List (List Meaning)). All (λ row. length row ≡ n + length sides) rs) (sym e)
      (subst (λ m. All (λ row. length row ≡ m) (key_rows o q b n sides)) (column_count o q b n sides)
      (row_sizes o (map items (key_columns o q b n sides)) (longest (map items (key_columns o q b n sides))))))

  -- each row of the code has an entry for each unknown
  pub sizes_of_code : {T F : Type 0} (o : Ops Meaning) (meaning : T → Meaning) (q b : T) (n : ℕ) (sides : List T)
      (r : Result (Vec (Vec E Z) Z) F)
      → IfOk r (λ rows. rows_meant value rows.items ≡ key_rows o (meaning q) (meaning b) n (map meaning sides))
      → IfOk r (λ rows. All (λ (row : Vec E Z). length row.items ≡ n + length sides) rows.items)
  sizes_of_code o meaning q b n sides r h =
      IfOk-weaker r (λ (rows : Vec (Vec E Z) Z). rows_meant value rows.items ≡ key_rows o (meaning q) (meaning b) n (map meaning sides))
      (λ (rows : Vec (Vec E Z) Z). All (λ (row : Vec E Z). length row.items ≡ n + length sides) rows.items)
      (λ rows e. subst (λ m. All (λ (row : Vec E Z). length row.items ≡ n + m) rows.items) (length-map sides meaning)
      (key_sizes o (meaning q) (meaning b) n (map meaning sides) rows.items e)) h

module _ {T : Type 0} (a : Algebra) (l : Laws a) (meaning : T → Meaning) (passes : (x : T) → IsTrue ((poly_algebra a).passes (meaning x)))
    (q b : T) (n : ℕ) (sides : List T) where
  abbrev sides_in : List (Polynomial a)
  sides_in = values_of (poly_algebra a) meaning passes sides

  same : bare (poly_algebra a) (values_of (poly_algebra a) meaning passes sides) ≡ map meaning sides
  same = bare_values (poly_algebra a) meaning passes sides

  as_many : length (values_of (poly_algebra a) meaning passes sides) ≡ length sides
  as_many = length-map sides (λ x. (meaning x, passes x))

  kernel_vector_solves : (v : Vector a)
      → InKernel a.ops (n + length sides) (key_rows a.ops (meaning q) (meaning b) n (map meaning sides)) (meant a v)
      → SolvesWith a.ops (meaning q) (meaning b) (map meaning sides) (polynomial_of a.ops n (meant a v)) (λ j. meant a v (n + j))
  kernel_vector_solves v h =
      subst (λ s. SolvesWith a.ops (meaning q) (meaning b) s (polynomial_of a.ops n (meant a v)) (λ j. meant a v (n + j))) same
      (kernel_solves a l (meaning q, passes q) (meaning b, passes b) n sides_in v
      (subst (λ m. InKernel a.ops (n + m) (key_rows a.ops (meaning q) (meaning b) n (bare (poly_algebra a) sides_in)) (meant a v)) (sym as_many)
      (subst (λ s. InKernel a.ops (n + length sides) (key_rows a.ops (meaning q) (meaning b) n s) (meant a v)) (sym same) h)))

  solution_is_in_kernel : (y : Polynomial a) (multipliers : Vector a)
      → SolvesWith a.ops (meaning q) (meaning b) (map meaning sides) y.0 (meant a multipliers)
      → ((i : ℕ) → n ≤ i → coefficient_of a.ops y.0 i ≡ a.ops.nought)
      → InKernel a.ops (n + length sides) (key_rows a.ops (meaning q) (meaning b) n (map meaning sides)) (unknowns a.ops n y.0 (meant a multipliers))
  solution_is_in_kernel y multipliers solves short =
      subst (λ s. InKernel a.ops (n + length sides) (key_rows a.ops (meaning q) (meaning b) n s) (unknowns a.ops n y.0 (meant a multipliers))) same
      (subst (λ m. InKernel a.ops (n + m) (key_rows a.ops (meaning q) (meaning b) n (bare (poly_algebra a) sides_in))
      (unknowns a.ops n y.0 (meant a multipliers))) as_many
      (unknowns_in_kernel a l (meaning q, passes q) (meaning b, passes b) n sides_in y multipliers
      (subst (λ s. SolvesWith a.ops (meaning q) (meaning b) s y.0 (meant a multipliers)) (sym same) solves) short))

  module _ {E Z F : Type 0} (value : E → Meaning) (r : Result (Vec (Vec E Z) Z) F)
      (are : IfOk r (λ rows. rows_meant value rows.items ≡ key_rows a.ops (meaning q) (meaning b) n (map meaning sides))) where
    abbrev AreKeyRows : Vec (Vec E Z) Z → Type 0
    AreKeyRows rows = rows_meant value rows.items ≡ key_rows a.ops (meaning q) (meaning b) n (map meaning sides)

    -- the vectors of the kernel of the code's rows are solutions
    pub code_solves : IfOk r (λ rows. (v : Vector a) → InKernel a.ops (n + length sides) (rows_meant value rows.items) (meant a v)
        → SolvesWith a.ops (meaning q) (meaning b) (map meaning sides) (polynomial_of a.ops n (meant a v)) (λ j. meant a v (n + j)))
    code_solves =
        IfOk-weaker r AreKeyRows
        (λ (rows : Vec (Vec E Z) Z). (v : Vector a) → InKernel a.ops (n + length sides) (rows_meant value rows.items) (meant a v)
        → SolvesWith a.ops (meaning q) (meaning b) (map meaning sides) (polynomial_of a.ops n (meant a v)) (λ j. meant a v (n + j)))
        (λ rows e v h. kernel_vector_solves v
        (subst (λ (rs : List (List Meaning)). InKernel a.ops (n + length sides) rs (meant a v)) e h)) are

    -- and each solution with so few coefficients is such a vector
    pub code_all : IfOk r (λ rows. (y : Polynomial a) (multipliers : Vector a)
        → SolvesWith a.ops (meaning q) (meaning b) (map meaning sides) y.0 (meant a multipliers)
        → ((i : ℕ) → n ≤ i → coefficient_of a.ops y.0 i ≡ a.ops.nought)
        → InKernel a.ops (n + length sides) (rows_meant value rows.items) (unknowns a.ops n y.0 (meant a multipliers)))
    code_all =
        IfOk-weaker r AreKeyRows
        (λ (rows : Vec (Vec E Z) Z). (y : Polynomial a) (multipliers : Vector a)
        → SolvesWith a.ops (meaning q) (meaning b) (map meaning sides) y.0 (meant a multipliers)
        → ((i : ℕ) → n ≤ i → coefficient_of a.ops y.0 i ≡ a.ops.nought)
        → InKernel a.ops (n + length sides) (rows_meant value rows.items) (unknowns a.ops n y.0 (meant a multipliers)))
        (λ rows e y multipliers solves short.
        subst (λ (rs : List (List Meaning)). InKernel a.ops (n + length sides) rs (unknowns a.ops n y.0 (meant a multipliers))) (sym e)
        (solution_is_in_kernel y multipliers solves short)) are
