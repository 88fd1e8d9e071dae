-- What the private functions over lists of coefficients answer.
use Rattle.std.specs.Prelude.{◌≡◌, List, [], ◌∷◌, map, Result, Ok, Err, Vec, Option, Some, None}
use Rattle.ring_laws.specs.Algebra.{Algebra}
use Rattle.poly_laws.specs.Lists.{list_sum}
use Rattle.poly_laws.specs.Bounds.{ListSumInBounds, ScalingInBounds}
use Rattle.poly_laws.specs.LongDivision.{Divided, Stuck, ListDivisionInBounds}
use Rattle.ring_laws.specs.Meaning.{Meaning}
use Rattle.ring_laws.specs.Answer.{OnFault}
use Rattle.ring_laws.specs.declared.faults.RingFault.{RingFault}

-- a list of values of these meanings; `TooLarge` comes only where the operation is not in bounds
abbrev pub GivesList : {T Z : Type 0} → (T → Meaning) → Type 0 → List Meaning → Result (Vec T Z) RingFault → Type 0
GivesList meaning InBounds meanings (Ok list) = map meaning list.items ≡ meanings
GivesList meaning InBounds meanings (Err fault) = OnFault (¬ InBounds) fault

-- the same, and a list comes only where the operation is in bounds
abbrev pub GivesListInBounds : {T Z : Type 0} → (T → Meaning) → Type 0 → List Meaning → Result (Vec T Z) RingFault → Type 0
GivesListInBounds meaning InBounds meanings (Ok list) = InBounds × (map meaning list.items ≡ meanings)
GivesListInBounds meaning InBounds meanings (Err fault) = OnFault (¬ InBounds) fault

-- the quotient and the rest of a list by gs and then lead, or none where some step has no coefficient;
-- `TooLarge` comes only where a step is not in bounds
abbrev pub DividesList : {Q : Type 0} → (a : Algebra) → (Meaning → Meaning → Type 0) → (Q → List Meaning) → (Q → List Meaning)
    → List Meaning → List Meaning → Meaning → Result (Option Q) RingFault → Type 0
DividesList a InBounds quotient rest ms gs lead (Ok (Some divided)) = Divided a gs lead ms (quotient divided) (rest divided)
DividesList a InBounds quotient rest ms gs lead (Ok None) = Stuck a ms gs lead
DividesList a InBounds quotient rest ms gs lead (Err fault) = OnFault (¬ (ListDivisionInBounds a InBounds ms gs lead)) fault

-- a value of this meaning; `TooLarge` comes only where the operation is not in bounds
abbrev pub GivesValue : {T : Type 0} → (T → Meaning) → Type 0 → Meaning → Result T RingFault → Type 0
GivesValue meaning InBounds m (Ok value) = meaning value ≡ m
GivesValue meaning InBounds m (Err fault) = OnFault (¬ InBounds) fault

-- the products with t, their sums with the coefficients of one power less, and the sum with x are in bounds
pub record RaisingInBounds (a : Algebra) (t x : Meaning) (ys : List Meaning) : Type 0 where
  pub products : ScalingInBounds a t ys
  pub row : ListSumInBounds a (map (a.ops.product t) ys) (a.ops.nought ∷ ys)
  pub constant : ListSumInBounds a (x ∷ []) (list_sum a.ops (map (a.ops.product t) ys) (a.ops.nought ∷ ys))
