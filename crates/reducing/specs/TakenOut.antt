-- Taking factors out of a row, each as often as it divides every entry, in any ring.
use Rattle.std.specs.Prelude.{◌≡◌, ℕ, zero, suc, List, [], ◌∷◌, map, ⊤}
use Rattle.ring_laws.specs.Meaning.{Meaning}
use Rattle.ring_laws.specs.Algebra.{Ops, Algebra, Passing}
use Rattle.kernel_laws.specs.Reduction.{bare}
use Rattle.kernel_laws.specs.RowSteps.{QuotientsInBounds}

-- t times itself, this often
abbrev pub raised_to : {A : Type 0} → Ops A → A → ℕ → A
raised_to o t zero = o.unit
raised_to o t (suc n) = o.product (raised_to o t n) t

-- each entry times t
abbrev pub times_row : (a : Algebra) → Meaning → List (Passing a) → List Meaning
times_row a t row = map (λ x. a.ops.product x.0 t) row

-- the old row is the new row times a power of t, and t doesn't divide every entry of the new row
pub record TakenOut (a : Algebra) (t : Meaning) (old new : List (Passing a)) : Type 0 where
  pub power : ℕ
  pub times : bare a old ≡ times_row a (raised_to a.ops t power) new
  pub no_more : (quotients : List (Passing a)) → ¬ (bare a new ≡ times_row a t quotients)

-- the new row is what is left when each factor, in its order, is taken out
pub data AllTakenOut (a : Algebra) : List Meaning → List (Passing a) → List (Passing a) → Type 0 where
  none : {row : List (Passing a)} → AllTakenOut a [] row row
  next : {t : Meaning} {ts : List Meaning} {old between new : List (Passing a)} → TakenOut a t old between → AllTakenOut a ts between new
      → AllTakenOut a (t ∷ ts) old new

-- the divisions by t are in bounds: of the row, and of what is left of it by any power of t
abbrev pub TakingOutInBounds : (Meaning → Meaning → Type 0) → (a : Algebra) → Meaning → List (Passing a) → Type 0
TakingOutInBounds InBounds a t row =
    (power : ℕ) (rest : List (Passing a)) → bare a row ≡ times_row a (raised_to a.ops t power) rest → QuotientsInBounds InBounds a t (bare a rest)

-- so are those by each factor, of what the factors before it leave
abbrev pub AllTakingOutInBounds : (Meaning → Meaning → Type 0) → (a : Algebra) → List Meaning → List (Passing a) → Type 0
AllTakingOutInBounds InBounds a [] row = ⊤
AllTakingOutInBounds InBounds a (t ∷ ts) row =
    TakingOutInBounds InBounds a t row × ((between : List (Passing a)) → TakenOut a t row between → AllTakingOutInBounds InBounds a ts between)
