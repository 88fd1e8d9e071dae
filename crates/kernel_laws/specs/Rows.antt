-- Rows, vectors, and the vectors that the rows send to zero.
-- A vector is a function from columns to entries, of which only the first `columns` count; a row is a list of entries.
use Rattle.std.specs.Prelude.{◌≡◌, ℕ, zero, suc, List, get_or, All}
use Rattle.ring_laws.specs.Algebra.{Ops}

-- the entry of a row at a column, and zero past its end
abbrev pub entry_at : {A : Type 0} → Ops A → List A → ℕ → A
entry_at o row column = get_or row column o.nought

-- f 0 + f 1 + .., n of them
abbrev pub total : {A : Type 0} → Ops A → ℕ → (ℕ → A) → A
total o zero f = o.nought
total o (suc n) f = o.sum (f 0) (total o n (λ k. f (suc k)))

-- a row times a vector
abbrev pub dot : {A : Type 0} → Ops A → ℕ → List A → (ℕ → A) → A
dot o columns row v = total o columns (λ k. o.product (entry_at o row k) (v k))

-- the vector lies in the kernel: each row times the vector is zero
abbrev pub InKernel : {A : Type 0} → Ops A → ℕ → List (List A) → (ℕ → A) → Type 0
InKernel o columns rows v = All (λ row. dot o columns row v ≡ o.nought) rows
