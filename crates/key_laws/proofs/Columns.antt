-- The product of a vector with the row of a power is the coefficient of that power in q(k) Y(k+1) - b(k) Y(k) - (a_0 s_0 + ..),
-- where the vector has the coefficients of Y and then the multipliers.
use Rattle.std.specs.Prelude.{◌≡◌, ℕ, zero, suc, ◌+◌, List, [], ◌∷◌, ◌++◌, map, length, refl}
use Rattle.std.proofs.Common.{ap, sym, ◌∙◌}
use Rattle.std.proofs.lemmas.List.{length-map, length-append, map-append}
use mathlib.Core.Path.{ap₂}
use Rattle.ring_laws.specs.Meaning.{items}
use Rattle.ring_laws.specs.Algebra.{Ops, Algebra, Passing, within, Laws}
use Rattle.poly_laws.specs.PolyAlgebra.{poly_algebra, poly_ops}
use Rattle.poly_laws.proofs.Coefficients.{meanings_of, meanings-coefficients}
use Rattle.poly_laws.proofs.ListLaws.{neg_nought}
use Rattle.poly_laws.proofs.PolyLaws.{coefficient-neg}
use Rattle.kernel_laws.specs.Rows.{total, dot}
use Rattle.kernel_laws.specs.Answers.{Vector}
use Rattle.kernel_laws.specs.Reduction.{bare}
use Rattle.poly_laws.proofs.Rings.{solvable}
use Rattle.kernel_laws.proofs.Totals.{total_same}
use Rattle.ring_solver.proofs.Read.{reading, ring}
use Rattle.key_laws.specs.KeyRows.{listing, power_list, key_columns, key_rows, row_at, rows_below, longest}
use Rattle.key_laws.proofs.AppendedRows.{dot_append}
use Rattle.key_laws.proofs.Differences.{difference_at}
use Rattle.key_laws.proofs.LinearForms.{IsLinear, by_powers, difference_linear}
use Rattle.division_laws.proofs.Polynomials.{polynomials, list_of, part, listed_in, listed_at}
use Rattle.key_laws.proofs.Polynomials.{difference_in, difference_parts, mixed_at}
use Rattle.key_laws.proofs.Rows.{all_rows_meant}

module _ (a : Algebra) (l : Laws a) where
  abbrev base : Ops (Passing a)
  base = within a l.closed

  abbrev P : Type 0
  P = Passing (poly_algebra a)

  pub power_meant : (i : ℕ) → meanings_of a l.closed (power_list base i) ≡ power_list a.ops i
  power_meant zero = refl
  power_meant (suc i) = ap (λ t. a.ops.nought ∷ t) (power_meant i)

  abbrev power_in : ℕ → Passing (poly_algebra a)
  power_in i = listed_in a l (power_list base i) (power_list a.ops i) (power_meant i)

  pub listing_meant : {X Y : Type 0} (f : X → Y) (n : ℕ) (v : ℕ → X) → map f (listing n v) ≡ listing n (λ i. f (v i))
  listing_meant f zero v = refl
  listing_meant f (suc n) v = ap (λ t. f (v 0) ∷ t) (listing_meant f n (λ i. v (suc i)))

  length-listing : {X : Type 0} (n : ℕ) (v : ℕ → X) → length (listing n v) ≡ n
  length-listing zero v = refl
  length-listing (suc n) v = ap suc (length-listing n (λ i. v (suc i)))

  module _ (q b : Passing (poly_algebra a)) (n : ℕ) (sides : List (Passing (poly_algebra a))) where
    abbrev y_columns : List P
    y_columns = listing n (λ i. difference_in a l q b (power_in i))

    abbrev side_columns : List P
    side_columns = map (polynomials a l).neg sides

    abbrev pub columns : List (List (Passing a))
    columns = map (list_of a l) (listing n (λ i. difference_in a l q b (power_in i)) ++ map (polynomials a l).neg sides)

    sides_meant : (fs : List P) → map (poly_ops a.ops).neg (bare (poly_algebra a) fs) ≡ bare (poly_algebra a) (map (polynomials a l).neg fs)
    sides_meant [] = refl
    sides_meant (f ∷ fs) = ap (λ t. (poly_ops a.ops).neg f.0 ∷ t) (sides_meant fs)

    items_meant : (fs : List P) → map items (bare (poly_algebra a) fs) ≡ map (bare a) (map (list_of a l) fs)
    items_meant [] = refl
    items_meant (f ∷ fs) = ap₂ (λ t ts. t ∷ ts) (sym (meanings-coefficients a l.closed f)) (items_meant fs)

    polynomials_meant : key_columns a.ops q.0 b.0 n (bare (poly_algebra a) sides) ≡ bare (poly_algebra a) (y_columns ++ side_columns)
    polynomials_meant =
        ap₂ ◌++◌ (sym (listing_meant (λ (t : P). t.0) n (λ i. difference_in a l q b (power_in i)))) (sides_meant sides)
        ∙ sym (map-append (λ (t : P). t.0) y_columns side_columns)

    -- the rows are those of the polynomials that belong to the ring
    pub key_rows_meant : key_rows a.ops q.0 b.0 n (bare (poly_algebra a) sides) ≡ map (bare a) (rows_below base columns (longest columns))
    key_rows_meant =
        ap (λ c. rows_below a.ops c (longest c)) (ap (map items) polynomials_meant ∙ items_meant (y_columns ++ side_columns))
        ∙ all_rows_meant a l columns

    dot_listing : (m : ℕ) (f : ℕ → P) (v : Vector a) (p : ℕ)
        → dot base m (row_at base (map (list_of a l) (listing m f)) p) v ≡ total base m (λ i. base.product (part a l (f i) p) (v i))
    dot_listing zero f v p = refl
    dot_listing (suc m) f v p =
        ap (base.sum (base.product (part a l (f 0) p) (v 0))) (dot_listing m (λ i. f (suc i)) (λ i. v (suc i)) p)

    by_side : (w s r : Passing a) → base.sum (base.product (base.neg s) w) (base.neg r) ≡ base.neg (base.sum (base.product w s) r)
    by_side w s r = ring (solvable base l.ring) (w ∷ s ∷ r ∷ []) (search reading depth 40 fits 20000) refl

    dot_sides : (fs : List P) (w : Vector a) (p : ℕ)
        → dot base (length fs) (row_at base (map (list_of a l) (map (polynomials a l).neg fs)) p) w ≡ base.neg (mixed_at a l w fs p)
    dot_sides [] w p = sym (neg_nought base l.ring)
    dot_sides (f ∷ fs) w p =
        ap₂ base.sum (ap (λ t. base.product t (w 0)) (coefficient-neg a l.closed l.ring f p)) (dot_sides fs (λ j. w (suc j)) p)
        ∙ by_side (w 0) (part a l f p) (mixed_at a l (λ j. w (suc j)) fs p)

    -- the coefficients of Y
    dot_y : (v : Vector a) (p : ℕ)
        → dot base n (row_at base (map (list_of a l) y_columns) p) v ≡ difference_at base l.ring (list_of a l q) (list_of a l b) (listing n v) p
    dot_y v p =
        dot_listing n (λ i. difference_in a l q b (power_in i)) v p
        ∙ total_same base n (λ i. base.product (part a l (difference_in a l q b (power_in i)) p) (v i))
        (λ i. base.product (v i) (difference_at base l.ring (list_of a l q) (list_of a l b) (power_list base i) p))
        (λ i c. ap (λ t. base.product t (v i)) (difference_parts a l q b (power_in i) p
        ∙ linear.same (list_of a l (power_in i)) (power_list base i) (listed_at a l (power_list base i) (power_list a.ops i) (power_meant i)))
        ∙ l.ring.product_comm (difference_at base l.ring (list_of a l q) (list_of a l b) (power_list base i) p) (v i))
        ∙ sym (by_powers base l.ring n v (λ xs. difference_at base l.ring (list_of a l q) (list_of a l b) xs p) linear)
      where
        linear : IsLinear base l.ring (λ xs. difference_at base l.ring (list_of a l q) (list_of a l b) xs p)
        linear = difference_linear base l.ring (list_of a l q) (list_of a l b) p

    parted_row : (fs gs : List P) (p : ℕ)
        → row_at base (map (list_of a l) (fs ++ gs)) p ≡ row_at base (map (list_of a l) fs) p ++ row_at base (map (list_of a l) gs) p
    parted_row [] gs p = refl
    parted_row (f ∷ fs) gs p = ap (λ t. part a l f p ∷ t) (parted_row fs gs p)

    length_row : (fs : List P) (p : ℕ) → length (row_at base (map (list_of a l) fs) p) ≡ length fs
    length_row [] p = refl
    length_row (f ∷ fs) p = ap suc (length_row fs p)

    y_length : (p : ℕ) → length (row_at base (map (list_of a l) y_columns) p) ≡ n
    y_length p = length_row y_columns p ∙ length-listing n (λ i. difference_in a l q b (power_in i))

    side_length : (p : ℕ) → length (row_at base (map (list_of a l) side_columns) p) ≡ length sides
    side_length p = length_row side_columns p ∙ length-map sides (polynomials a l).neg

    pub dot_row : (v : Vector a) (p : ℕ)
        → dot base (n + length sides) (row_at base columns p) v
        ≡ base.sum (difference_at base l.ring (list_of a l q) (list_of a l b) (listing n v) p) (base.neg (mixed_at a l (λ j. v (n + j)) sides p))
    dot_row v p =
        ap (λ r. dot base (n + length sides) r v) (parted_row y_columns side_columns p)
        ∙ dot_append base l.ring (row_at base (map (list_of a l) y_columns) p) (row_at base (map (list_of a l) side_columns) p) v (n + length sides)
        (ap₂ ◌+◌ (sym (y_length p)) (sym (side_length p)))
        ∙ ap₂ base.sum
        (ap (λ m. dot base m (row_at base (map (list_of a l) y_columns) p) v) (y_length p) ∙ dot_y v p)
        (ap₂ (λ m i. dot base m (row_at base (map (list_of a l) side_columns) p) (λ j. v (i + j))) (side_length p) (y_length p)
        ∙ dot_sides sides (λ j. v (n + j)) p)

    -- each row has an entry for each column
    pub row_length : (p : ℕ) → length (row_at base columns p) ≡ n + length sides
    row_length p =
        ap length (parted_row y_columns side_columns p)
        ∙ length-append (row_at base (map (list_of a l) y_columns) p) (row_at base (map (list_of a l) side_columns) p)
        ∙ ap₂ ◌+◌ (y_length p) (side_length p)
