-- The vectors of the kernel of the key rows are the solutions of the key equation with few enough coefficients.
use Rattle.std.specs.Prelude.{◌≡◌, ℕ, zero, suc, ◌+◌, ◌<◌, ◌≤◌, List, [], ◌∷◌, length, refl}
use Rattle.std.proofs.Common.{ap, sym, ◌∙◌, ⊎_elim, subst, arith}
use Rattle.std.proofs.lemmas.Bool.{cases_lt}
use Rattle.ring_laws.specs.Meaning.{Meaning}
use Rattle.ring_laws.specs.Algebra.{Ops, Algebra, Passing, within, Laws}
use Rattle.poly_laws.specs.Lists.{coefficient_at, SameCoefficients}
use Rattle.poly_laws.specs.PolyAlgebra.{poly_algebra}
use Rattle.poly_laws.proofs.Fitting.{item_at}
use Rattle.poly_laws.proofs.OneQuotient.{equal_by}
use Rattle.kernel_laws.specs.Rows.{dot, InKernel}
use Rattle.kernel_laws.specs.Answers.{Vector, meant}
use Rattle.kernel_laws.specs.Reduction.{bare}
use Rattle.kernel_laws.proofs.Belonging.{kernel_down, kernel_up}
use Rattle.division_laws.specs.Polynomials.{coefficient_of}
use Rattle.key_laws.specs.KeyEquation.{SolvesWith}
use Rattle.key_laws.specs.KeyRows.{listing, joined, unknowns, polynomial_of, key_rows, row_at, rows_below, longest}
use Rattle.key_laws.proofs.Columns.{listing_meant, columns, key_rows_meant, dot_row}
use Rattle.key_laws.proofs.Differences.{difference_at}
use Rattle.division_laws.proofs.Polynomials.{part_nought, list_of, part, listed_in, listed_at}
use Rattle.key_laws.proofs.LinearForms.{IsLinear, difference_linear}
use Rattle.key_laws.proofs.Polynomials.{mixed_at, solves_at, solves_by}
use Rattle.key_laws.proofs.Rows.{in_kernel_at, in_kernel_by}

pub joined_first : {A : Type 0} (n : ℕ) (f g : ℕ → A) (k : ℕ) → k < n → joined n f g k ≡ f k
joined_first zero f g k b = absurd (omega arith)
joined_first (suc n) f g zero b = refl
joined_first (suc n) f g (suc k) b = joined_first n (λ i. f (suc i)) g k (omega arith)

pub joined_later : {A : Type 0} (n : ℕ) (f g : ℕ → A) (k j : ℕ) → k ≡ n + j → joined n f g k ≡ g j
joined_later zero f g k j e = let same : k ≡ j = omega arith in ap g same
joined_later (suc n) f g zero j e = absurd (omega arith)
joined_later (suc n) f g (suc k) j e = joined_later n (λ i. f (suc i)) g k j (omega arith)

listing_first : {A : Type 0} (o : Ops A) (n : ℕ) (f : ℕ → A) (k : ℕ) → k < n → coefficient_at o (listing n f) k ≡ f k
listing_first o zero f k b = absurd (omega arith)
listing_first o (suc n) f zero b = refl
listing_first o (suc n) f (suc k) b = listing_first o n (λ i. f (suc i)) k (omega arith)

listing_later : {A : Type 0} (o : Ops A) (n : ℕ) (f : ℕ → A) (k : ℕ) → n ≤ k → coefficient_at o (listing n f) k ≡ o.nought
listing_later o zero f k b = refl
listing_later o (suc n) f zero b = absurd (omega arith)
listing_later o (suc n) f (suc k) b = listing_later o n (λ i. f (suc i)) k (omega arith)

joined_map : {A B : Type 0} (h : A → B) (n : ℕ) (f g : ℕ → A) (k : ℕ) → h (joined n f g k) ≡ joined n (λ i. h (f i)) (λ i. h (g i)) k
joined_map h zero f g k = refl
joined_map h (suc n) f g zero = refl
joined_map h (suc n) f g (suc k) = joined_map h n (λ i. f (suc i)) g k

module _ (a : Algebra) (l : Laws a) where
  abbrev base : Ops (Passing a)
  base = within a l.closed

  mixed_same : (v w : Vector a) (fs : List (Passing (poly_algebra a))) (p : ℕ) → ((j : ℕ) → v j ≡ w j) → mixed_at a l v fs p ≡ mixed_at a l w fs p
  mixed_same v w [] p h = refl
  mixed_same v w (f ∷ fs) p h = cc (h 0, mixed_same (λ j. v (suc j)) (λ j. w (suc j)) fs p (λ j. h (suc j)))

  module _ (q b : Passing (poly_algebra a)) (n : ℕ) (sides : List (Passing (poly_algebra a))) where
    abbrev rows : List (List Meaning)
    rows = key_rows a.ops q.0 b.0 n (bare (poly_algebra a) sides)

    abbrev rows_within : List (List (Passing a))
    rows_within = rows_below base (columns a l q b n sides) (longest (columns a l q b n sides))

    linear : (p : ℕ) → IsLinear base l.ring (λ xs. difference_at base l.ring (list_of a l q) (list_of a l b) xs p)
    linear p = difference_linear base l.ring (list_of a l q) (list_of a l b) p

    abbrev pub y_in : Vector a → Passing (poly_algebra a)
    y_in v = listed_in a l (listing n v) (listing n (meant a v)) (listing_meant a l (λ (t : Passing a). t.0) n v)

    same_y : (v : Vector a) (p : ℕ)
        → difference_at base l.ring (list_of a l q) (list_of a l b) (list_of a l (y_in v)) p
        ≡ difference_at base l.ring (list_of a l q) (list_of a l b) (listing n v) p
    same_y v p =
        (linear p).same (list_of a l (y_in v)) (listing n v)
        (listed_at a l (listing n v) (listing n (meant a v)) (listing_meant a l (λ (t : Passing a). t.0) n v))

    -- a vector of the kernel has the coefficients of a solution and then its multipliers
    pub kernel_solves : (v : Vector a) → InKernel a.ops (n + length sides) (key_rows a.ops q.0 b.0 n (bare (poly_algebra a) sides)) (meant a v)
        → SolvesWith a.ops q.0 b.0 (bare (poly_algebra a) sides) (polynomial_of a.ops n (meant a v)) (λ j. meant a v (n + j))
    kernel_solves v h = solves_by a l q b sides (y_in v) (λ j. v (n + j)) at_power
      where
        up : InKernel base (n + length sides) rows_within v
        up = kernel_up a l.closed (n + length sides) rows_within v
            (subst (λ r. InKernel a.ops (n + length sides) r (meant a v)) (key_rows_meant a l q b n sides) h)

        at_power : (p : ℕ) → difference_at base l.ring (list_of a l q) (list_of a l b) (list_of a l (y_in v)) p
            ≡ mixed_at a l (λ j. v (n + j)) sides p
        at_power p =
            same_y v p
            ∙ equal_by base l.ring (difference_at base l.ring (list_of a l q) (list_of a l b) (listing n v) p) (mixed_at a l (λ j. v (n + j)) sides p)
            (sym (dot_row a l q b n sides v p)
            ∙ in_kernel_at base l.ring (n + length sides) v (columns a l q b n sides) up p)

    -- and the other way round, for a solution with no coefficient from n on
    pub solution_vector : (y : Passing (poly_algebra a)) → Vector a → Vector a
    solution_vector y multipliers = joined n (part a l y) multipliers

    pub solution_in_kernel : (y : Passing (poly_algebra a)) (multipliers : Vector a)
        → SolvesWith a.ops q.0 b.0 (bare (poly_algebra a) sides) y.0 (meant a multipliers)
        → ((i : ℕ) → n ≤ i → coefficient_of a.ops y.0 i ≡ a.ops.nought)
        → InKernel a.ops (n + length sides) (key_rows a.ops q.0 b.0 n (bare (poly_algebra a) sides)) (meant a (joined n (part a l y) multipliers))
    solution_in_kernel y multipliers solves short =
        subst (λ r. InKernel a.ops (n + length sides) r (meant a v)) (sym (key_rows_meant a l q b n sides))
        (kernel_down a l.closed (n + length sides) rows_within v (meant a v) (λ k. refl)
        (in_kernel_by base l.ring (n + length sides) v (columns a l q b n sides) at_power))
      where
        v : Vector a
        v = joined n (part a l y) multipliers

        same : SameCoefficients base (listing n (joined n (part a l y) multipliers)) (list_of a l y)
        same i = ⊎_elim
            (λ c. listing_first base n (joined n (part a l y) multipliers) i c ∙ joined_first n (part a l y) multipliers i c)
            (λ c. listing_later base n (joined n (part a l y) multipliers) i c ∙ sym (part_nought a l y i (short i c)))
            (cases_lt i n)

        at_power : (p : ℕ) → dot base (n + length sides)
            (row_at base (columns a l q b n sides) p) (joined n (part a l y) multipliers) ≡ base.nought
        at_power p =
            let w : Vector a = joined n (part a l y) multipliers in
            let mixed : mixed_at a l (λ j. w (n + j)) sides p ≡ mixed_at a l multipliers sides p =
            mixed_same (λ j. w (n + j)) multipliers sides p (λ j. joined_later n (part a l y) multipliers (n + j) j refl) in
            dot_row a l q b n sides w p
            ∙ ap (λ t. base.sum t (base.neg (mixed_at a l (λ j. w (n + j)) sides p)))
            ((linear p).same (listing n w) (list_of a l y) same ∙ solves_at a l q b sides y multipliers solves p ∙ sym mixed)
            ∙ l.ring.sum_neg (mixed_at a l (λ j. w (n + j)) sides p)

    same_parts : (y : Passing (poly_algebra a)) → (λ (k : ℕ). (part a l y k).0) ≡ coefficient_of a.ops y.0
    same_parts y = λ i k. sym (item_at a l.closed l.ring l.magnitudes y k) i

    same_unknowns : (y : Passing (poly_algebra a)) (multipliers : Vector a)
        → meant a (joined n (part a l y) multipliers) ≡ unknowns a.ops n y.0 (meant a multipliers)
    same_unknowns y multipliers =
        let each : meant a (joined n (part a l y) multipliers) ≡ joined n (λ k. (part a l y k).0) (meant a multipliers) =
        λ i k. joined_map (λ (t : Passing a). t.0) n (part a l y) multipliers k i in
        each ∙ ap (λ (f : ℕ → Meaning). joined n f (meant a multipliers)) (same_parts y)

    pub unknowns_in_kernel : (y : Passing (poly_algebra a)) (multipliers : Vector a)
        → SolvesWith a.ops q.0 b.0 (bare (poly_algebra a) sides) y.0 (meant a multipliers)
        → ((i : ℕ) → n ≤ i → coefficient_of a.ops y.0 i ≡ a.ops.nought)
        → InKernel a.ops (n + length sides) (key_rows a.ops q.0 b.0 n (bare (poly_algebra a) sides)) (unknowns a.ops n y.0 (meant a multipliers))
    unknowns_in_kernel y multipliers solves short =
        subst (λ (w : ℕ → Meaning). InKernel a.ops (n + length sides) rows w) (same_unknowns y multipliers)
        (solution_in_kernel y multipliers solves short)
