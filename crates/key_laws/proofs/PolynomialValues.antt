-- Values of the polynomials that belong to the ring, of rows of them and of their products with vectors.
use Rattle.std.specs.Prelude.{◌≡◌, ℕ, zero, suc, List, [], ◌∷◌, map, refl}
use Rattle.std.proofs.Common.{ap, sym, ◌∙◌}
use Rattle.std.proofs.lemmas.List.Elements.{All-nil, All-cons}
use Rattle.ring_laws.specs.Meaning.{items, listed, parted-joined}
use Rattle.ring_laws.specs.Algebra.{Ops, Algebra, Passing, within, Laws, same_passing}
use Rattle.poly_laws.specs.Evaluation.{list_value}
use Rattle.poly_laws.specs.Lists.{coefficient_at, list_sum, list_product, trimmed}
use Rattle.poly_laws.specs.PolyAlgebra.{poly_algebra}
use Rattle.poly_laws.proofs.Coefficients.{meanings_of, coefficients, meanings-coefficients, meanings-trimmed, trimmed_passes, poly_closed, coefficients-nought}
use Rattle.poly_laws.proofs.Fitting.{meanings-at, item_at}
use Rattle.poly_laws.proofs.ListLaws.{at_sum}
use Rattle.poly_laws.proofs.PolyLaws.{coefficient-sum, coefficient-product}
use Rattle.poly_laws.proofs.StepMeanings.{meanings-value}
use Rattle.poly_laws.proofs.Trimming.{at_trimmed}
use Rattle.kernel_laws.specs.Rows.{entry_at, total, dot, InKernel}
use Rattle.kernel_laws.specs.Reduction.{bare}
use Rattle.kernel_laws.proofs.Kernels.{first_of, rest_of}
use Rattle.key_laws.specs.EvaluatedRows.{rows_at}
use Rattle.key_laws.proofs.ListValues.{value_same, value_sum, value_product}

module _ (a : Algebra) (l : Laws a) where
  abbrev base : Ops (Passing a)
  base = within a l.closed

  abbrev pub polynomials : Ops (Passing (poly_algebra a))
  polynomials = within (poly_algebra a) (poly_closed a l.closed)

  abbrev pub list_of : Passing (poly_algebra a) → List (Passing a)
  list_of f = coefficients a l.closed f

  -- the polynomial with these coefficients
  abbrev pub polynomial_in : List (Passing a) → Passing (poly_algebra a)
  polynomial_in xs =
      (listed (trimmed a.ops (meanings_of a l.closed xs)), trimmed_passes a l.closed xs (trimmed a.ops (meanings_of a l.closed xs)) (meanings-trimmed a l.closed xs))

  pub polynomial_at : (xs : List (Passing a)) (k : ℕ) → coefficient_at base (list_of (polynomial_in xs)) k ≡ coefficient_at base xs k
  polynomial_at xs k =
      same_passing a (coefficient_at base (list_of (polynomial_in xs)) k) (coefficient_at base xs k)
      (sym (item_at a l.closed l.ring l.magnitudes (polynomial_in xs) k)
      ∙ ap (λ t. coefficient_at a.ops t k) (parted-joined (trimmed a.ops (meanings_of a l.closed xs)) ∙ sym (meanings-trimmed a l.closed xs))
      ∙ meanings-at a l.closed l.ring l.magnitudes (trimmed base xs) k
      ∙ ap (λ (t : Passing a). t.0) (at_trimmed base l.ring xs k))

  module _ (v : Passing a) where
    abbrev pub value_in : Passing (poly_algebra a) → Passing a
    value_in f = list_value base v (list_of f)

    pub value_meant : (f : Passing (poly_algebra a)) → list_value a.ops v.0 (items f.0) ≡ (list_value base v (list_of f)).0
    value_meant f = ap (list_value a.ops v.0) (sym (meanings-coefficients a l.closed f)) ∙ sym (meanings-value a l v (list_of f))

    value_nought : value_in polynomials.nought ≡ base.nought
    value_nought = ap (list_value base v) (coefficients-nought a l.closed)

    sum_in : (f g : Passing (poly_algebra a)) → value_in (polynomials.sum f g) ≡ base.sum (value_in f) (value_in g)
    sum_in f g =
        value_same base l.ring v (list_of (polynomials.sum f g)) (list_sum base (list_of f) (list_of g))
        (λ k. coefficient-sum a l.closed l.ring f g k ∙ sym (at_sum base l.ring (list_of f) (list_of g) k))
        ∙ value_sum base l.ring v (list_of f) (list_of g)

    product_in : (f g : Passing (poly_algebra a)) → value_in (polynomials.product f g) ≡ base.product (value_in f) (value_in g)
    product_in f g =
        value_same base l.ring v (list_of (polynomials.product f g)) (list_product base (list_of f) (list_of g))
        (coefficient-product a l.closed l.ring f g)
        ∙ value_product base l.ring v (list_of f) (list_of g)

    entry_in : (row : List (Passing (poly_algebra a))) (k : ℕ) → value_in (entry_at polynomials row k) ≡ entry_at base (map value_in row) k
    entry_in [] k = value_nought
    entry_in (f ∷ row) zero = refl
    entry_in (f ∷ row) (suc k) = entry_in row k

    total_in : (n : ℕ) (f : ℕ → Passing (poly_algebra a)) (g : ℕ → Passing a) → ((k : ℕ) → value_in (f k) ≡ g k)
        → value_in (total polynomials n f) ≡ total base n g
    total_in zero f g h = value_nought
    total_in (suc n) f g h =
        sum_in (f 0) (total polynomials n (λ k. f (suc k)))
        ∙ cc (h 0, total_in n (λ k. f (suc k)) (λ k. g (suc k)) (λ k. h (suc k)))

    dot_in : (n : ℕ) (row : List (Passing (poly_algebra a))) (w : ℕ → Passing (poly_algebra a))
        → value_in (dot polynomials n row w) ≡ dot base n (map value_in row) (λ k. value_in (w k))
    dot_in n row w =
        total_in n (λ k. polynomials.product (entry_at polynomials row k) (w k)) (λ k. base.product (entry_at base (map value_in row) k) (value_in (w k)))
        (λ k. product_in (entry_at polynomials row k) (w k) ∙ ap (λ t. base.product t (value_in (w k))) (entry_in row k))

    abbrev pub rows_in : List (List (Passing (poly_algebra a))) → List (List (Passing a))
    rows_in rows = map (λ row. map value_in row) rows

    -- the values of a vector of the kernel lie in the kernel of the values
    pub kernel_in : (n : ℕ) (rows : List (List (Passing (poly_algebra a)))) (w : ℕ → Passing (poly_algebra a)) → InKernel polynomials n rows w
        → InKernel base n (rows_in rows) (λ k. value_in (w k))
    kernel_in n [] w h = All-nil (λ r. dot base n r (λ k. value_in (w k)) ≡ base.nought)
    kernel_in n (row ∷ rows) w h =
        All-cons (λ r. dot base n r (λ k. value_in (w k)) ≡ base.nought) (map value_in row) (rows_in rows)
        (sym (dot_in n row w) ∙ ap value_in (first_of (λ r. dot polynomials n r w ≡ polynomials.nought) row rows h) ∙ value_nought)
        (kernel_in n rows w (rest_of (λ r. dot polynomials n r w ≡ polynomials.nought) row rows h))

    row_meant : (row : List (Passing (poly_algebra a)))
        → map (λ f. list_value a.ops v.0 (items f)) (bare (poly_algebra a) row) ≡ bare a (map value_in row)
    row_meant [] = refl
    row_meant (f ∷ row) = λ i. value_meant f i ∷ row_meant row i

    pub rows_meant : (rows : List (List (Passing (poly_algebra a)))) → rows_at a.ops v.0 (map (bare (poly_algebra a)) rows) ≡ map (bare a) (rows_in rows)
    rows_meant [] = refl
    rows_meant (row ∷ rows) = λ i. row_meant row i ∷ rows_meant rows i
