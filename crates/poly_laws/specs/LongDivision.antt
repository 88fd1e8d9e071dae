-- Long division of a list of coefficients by a list with a last coefficient, from the greatest power down, as a relation.
use Rattle.std.specs.Prelude.{◌≡◌, ℕ, ◌<◌, Bool, true, ◌&&◌, List, [], ◌∷◌, ◌++◌, length, drop, replicate}
use Rattle.ring_laws.specs.Meaning.{Meaning, items}
use Rattle.ring_laws.specs.Algebra.{Ops, Algebra, Passing, SumInBounds, ProductInBounds}
use Rattle.poly_laws.specs.Lists.{coefficient_at}

-- the list less c times gs, at each place of the list
abbrev pub list_less : {A : Type 0} → Ops A → List A → A → List A → List A
list_less o [] c gs = []
list_less o (r ∷ rs) c [] = r ∷ rs
list_less o (r ∷ rs) c (g ∷ gs) = o.sum r (o.neg (o.product c g)) ∷ list_less o rs c gs

-- the last item of a list, which is given as its first item and the rest
abbrev pub last_of : {A : Type 0} → A → List A → A
last_of x [] = x
last_of x (y ∷ ys) = last_of y ys

-- all items but the last of a list, which is given as its first item and the rest
abbrev pub front_of : {A : Type 0} → A → List A → List A
front_of x [] = []
front_of x (y ∷ ys) = x ∷ front_of y ys

-- long division by gs and then lead: of these coefficients these are the quotient and the rest
pub data Divided (a : Algebra) (gs : List Meaning) (lead : Meaning) : List Meaning → List Meaning → List Meaning → Type 0 where
  begin : Divided a gs lead [] [] (replicate (length gs) a.ops.nought)
  step : {xs qs rs : List Meaning} (x : Meaning) (c : Passing a) → Divided a gs lead xs qs rs → a.ops.product c.0 lead ≡ last_of x rs
      → Divided a gs lead (x ∷ xs) (c.0 ∷ qs) (list_less a.ops (front_of x rs) c.0 gs)

-- each item is nought
abbrev pub all_nought : {A : Type 0} → Ops A → List A → Bool
all_nought o [] = true
all_nought o (x ∷ xs) = o.is_nought x && all_nought o xs

-- the products with the divisor, and the differences
abbrev pub ReductionInBounds : Algebra → List Meaning → Meaning → List Meaning → Type 0
ReductionInBounds a rs c gs =
    (k : ℕ) → k < length gs
    → ProductInBounds a c (coefficient_at a.ops gs k) × SumInBounds a (coefficient_at a.ops rs k) (a.ops.product c (coefficient_at a.ops gs k))

-- a step of a division: that of the greatest coefficient, and then the products and the differences
pub record StepInBounds (a : Algebra) (InBounds : Meaning → Meaning → Type 0) (gs : List Meaning) (lead x : Meaning)
    (rs : List Meaning) : Type 0 where
  pub division : InBounds (last_of x rs) lead
  pub reduction : (c : Passing a) → a.ops.product c.0 lead ≡ last_of x rs → ReductionInBounds a (front_of x rs) c.0 gs

-- each step of the division of a list by gs and then lead is in bounds
abbrev pub ListDivisionInBounds : Algebra → (Meaning → Meaning → Type 0) → List Meaning → List Meaning → Meaning → Type 0
ListDivisionInBounds a InBounds ms gs lead =
    (x : Meaning) (xs qs rs : List Meaning) (i : ℕ) → drop i ms ≡ x ∷ xs → Divided a gs lead xs qs rs → StepInBounds a InBounds gs lead x rs

-- each step of the division of polynomials is in bounds
abbrev pub DivisionInBounds : Algebra → (Meaning → Meaning → Type 0) → Meaning → Meaning → Type 0
DivisionInBounds a InBounds f g = (gs : List Meaning) (lead : Meaning) → gs ++ lead ∷ [] ≡ items g → ListDivisionInBounds a InBounds (items f) gs lead

-- at some power there is no coefficient that the division can go on with
pub record Stuck (a : Algebra) (ms gs : List Meaning) (lead : Meaning) : Type 0 where
  pub x : Meaning
  pub xs : List Meaning
  pub qs : List Meaning
  pub rs : List Meaning
  pub i : ℕ
  pub here : drop i ms ≡ x ∷ xs
  pub run : Divided a gs lead xs qs rs
  pub none : (c : Passing a) → ¬ (a.ops.product c.0 lead ≡ last_of x rs)
