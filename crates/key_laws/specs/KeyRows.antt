-- The key equation as rows of a linear system: the columns are the coefficients of Y and then the multipliers, and each row is a power of k.
-- b stands for r(k-1).
use Rattle.std.specs.Prelude.{ℕ, zero, suc, max, cond, List, [], ◌∷◌, ◌++◌, map, length}
use Rattle.ring_laws.specs.Meaning.{Meaning, items, listed}
use Rattle.ring_laws.specs.Algebra.{Ops}
use Rattle.poly_laws.specs.Lists.{coefficient_at, trimmed}
use Rattle.poly_laws.specs.LongDivision.{all_nought}
use Rattle.poly_laws.specs.PolyAlgebra.{poly_ops}
use Rattle.key_laws.specs.KeyEquation.{key_difference}
use Rattle.division_laws.specs.Polynomials.{coefficient_of}

-- f 0, f 1, .., n of them
abbrev pub listing : {A : Type 0} → ℕ → (ℕ → A) → List A
listing zero f = []
listing (suc n) f = f 0 ∷ listing n (λ i. f (suc i))

-- the list of coefficients of k^i
abbrev pub power_list : {A : Type 0} → Ops A → ℕ → List A
power_list o zero = o.unit ∷ []
power_list o (suc i) = o.nought ∷ power_list o i

-- k^i
abbrev pub power_of_k : Ops Meaning → ℕ → Meaning
power_of_k o i = listed (trimmed o (power_list o i))

-- the polynomial with these coefficients of k^0, k^1, .., n of them
abbrev pub polynomial_of : Ops Meaning → ℕ → (ℕ → Meaning) → Meaning
polynomial_of o n f = listed (trimmed o (listing n f))

-- the first n entries are those of f, and those of g follow
abbrev pub joined : {A : Type 0} → ℕ → (ℕ → A) → (ℕ → A) → ℕ → A
joined zero f g k = g k
joined (suc n) f g zero = f 0
joined (suc n) f g (suc k) = joined n (λ i. f (suc i)) g k

-- the unknowns: n coefficients of Y, and then the multipliers
abbrev pub unknowns : Ops Meaning → ℕ → Meaning → (ℕ → Meaning) → ℕ → Meaning
unknowns o n y multipliers = joined n (coefficient_of o y) multipliers

-- what each unknown is multiplied with: q(k) (k+1)^i - b(k) k^i for the coefficient of k^i in Y, and - s_j for the multiplier a_j
abbrev pub key_columns : Ops Meaning → (q b : Meaning) → ℕ → List Meaning → List Meaning
key_columns o q b n sides = listing n (λ i. key_difference o q b (power_of_k o i)) ++ map (poly_ops o).neg sides

-- the coefficients of a power of k, column by column
abbrev pub row_at : {A : Type 0} → Ops A → List (List A) → ℕ → List A
row_at o columns power = map (λ column. coefficient_at o column power) columns

-- a row of zeros is left out
abbrev pub with_row : {A : Type 0} → Ops A → List A → List (List A) → List (List A)
with_row o row rows = cond (all_nought o row) rows (row ∷ rows)

-- the rows of the powers below n, from the greatest down
abbrev pub rows_below : {A : Type 0} → Ops A → List (List A) → ℕ → List (List A)
rows_below o columns zero = []
rows_below o columns (suc power) = with_row o (row_at o columns power) (rows_below o columns power)

-- the length of the longest of the lists
abbrev pub longest : {A : Type 0} → List (List A) → ℕ
longest [] = 0
longest (x ∷ xs) = max (length x) (longest xs)

-- the rows of the powers of k, from the greatest down, without rows of zeros
abbrev pub key_rows : Ops Meaning → (q b : Meaning) → ℕ → List Meaning → List (List Meaning)
key_rows o q b n sides =
    let columns = map items (key_columns o q b n sides) in
    rows_below o columns (longest columns)
