-- The columns at which vectors of a kernel end, and what a list of vectors spans.
use Rattle.std.specs.Prelude.{◌≡◌, ℕ, suc, ◌<◌, List, [], ◌∷◌}
use Rattle.ring_laws.specs.Algebra.{Ops}
use Rattle.kernel_laws.specs.Rows.{InKernel}

-- the last entry that isn't zero stands at column j
pub record EndsAt {A : Type 0} (o : Ops A) (columns : ℕ) (v : ℕ → A) (j : ℕ) : Type 0 where
  pub within : j < columns
  pub here : ¬ (v j ≡ o.nought)
  pub later : (k : ℕ) → j < k → k < columns → v k ≡ o.nought

-- some vector of the kernel ends at column j
pub record Ends {A : Type 0} (o : Ops A) (columns : ℕ) (rows : List (List A)) (j : ℕ) : Type 0 where
  pub vector : ℕ → A
  pub kernel : InKernel o columns rows vector
  pub ends : EndsAt o columns vector j

-- of the columns from the first up to n, this many have P
pub data Counted (P : ℕ → Type 0) (n : ℕ) : ℕ → ℕ → Type 0 where
  none : Counted P n n 0
  with : {j count : ℕ} → P j → Counted P n (suc j) count → Counted P n j (suc count)
  without : {j count : ℕ} → ¬ (P j) → Counted P n (suc j) count → Counted P n j count

-- the sum of multiples of the vectors
abbrev pub combined : {A : Type 0} → Ops A → (ℕ → A) → List (ℕ → A) → ℕ → A
combined o c [] k = o.nought
combined o c (v ∷ vs) k = o.sum (o.product (c 0) (v k)) (combined o (λ i. c (suc i)) vs k)

-- some multiple of w, by a factor that isn't zero, is a sum of multiples of the vectors
pub record Spanned {A : Type 0} (o : Ops A) (columns : ℕ) (vs : List (ℕ → A)) (w : ℕ → A) : Type 0 where
  pub factor : A
  pub nonzero : ¬ (factor ≡ o.nought)
  pub by : ℕ → A
  pub is : (k : ℕ) → k < columns → o.product factor (w k) ≡ combined o by vs k
