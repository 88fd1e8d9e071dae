-- What becomes of one row when the pivot's column is cleared, before it is reduced.
use Rattle.std.specs.Prelude.{◌≡◌, ℕ, ◌<◌, List, [], ◌∷◌, length}
use Rattle.std.specs.List.{AllZip}
use Rattle.ring_laws.specs.Meaning.{Meaning}
use Rattle.ring_laws.specs.Algebra.{Ops, Algebra, Passing}
use Rattle.kernel_laws.specs.Rows.{entry_at}

-- p*x - e*y
abbrev pub cross : {A : Type 0} → Ops A → A → A → A → A → A
cross o p x e y = o.sum (o.product p x) (o.neg (o.product e y))

-- that at each column of two rows of one length
abbrev pub crossed : {A : Type 0} → Ops A → A → List A → A → List A → List A
crossed o p [] e ys = []
crossed o p (x ∷ xs) e [] = []
crossed o p (x ∷ xs) e (y ∷ ys) = cross o p x e y ∷ crossed o p xs e ys

-- the counterpart |p|*|x| + |e|*|y| fits
abbrev pub CrossInBounds : Algebra → Meaning → Meaning → Meaning → Meaning → Type 0
CrossInBounds a p x e y =
    a.ops.Fits (a.ops.sum (a.ops.product (a.ops.magnitude p) (a.ops.magnitude x)) (a.ops.product (a.ops.magnitude e) (a.ops.magnitude y)))

-- that fits at each column of two rows
abbrev pub CrossingInBounds : Algebra → Meaning → List Meaning → Meaning → List Meaning → Type 0
CrossingInBounds a p xs e ys = (k : ℕ) → k < length xs → CrossInBounds a p (entry_at a.ops xs k) e (entry_at a.ops ys k)

-- t divides x
pub record HasQuotient (a : Algebra) (t x : Meaning) : Type 0 where
  pub quotient : Passing a
  pub is : a.ops.product quotient.0 t ≡ x

-- the quotients of the entries by t
abbrev pub Quotients : Algebra → Meaning → List Meaning → List Meaning → Type 0
Quotients a t xs quotients = AllZip (λ q x. a.ops.product q t ≡ x) quotients xs

-- t doesn't divide each entry
pub record NoQuotients (a : Algebra) (t : Meaning) (xs : List Meaning) : Type 0 where
  pub index : ℕ
  pub within : index < length xs
  pub none : ¬ (HasQuotient a t (entry_at a.ops xs index))

-- the entries are divided from the left, up to the first that t doesn't divide
abbrev pub QuotientsInBounds : (Meaning → Meaning → Type 0) → Algebra → Meaning → List Meaning → Type 0
QuotientsInBounds InBounds a t xs =
    (k : ℕ) → k < length xs → ((i : ℕ) → i < k → HasQuotient a t (entry_at a.ops xs i)) → InBounds (entry_at a.ops xs k) t

-- the row divided by t where t divides every entry, and the row itself where it doesn't
pub data Divided (a : Algebra) (t : Meaning) (xs : List Meaning) : List Meaning → Type 0 where
  divided : (quotients : List Meaning) → Quotients a t xs quotients → Divided a t xs quotients
  kept : NoQuotients a t xs → Divided a t xs xs
