-- Steps that may find nothing, which is no refusal.
use Rattle.std.specs.Prelude.{List, ◌∷◌, Option, Some, None}
use Rattle.steps.specs.Operations.{Counterpart}
use Rattle.steps.specs.Steps.{Steps, gives, makes}

-- what a value of the code stands for, where there is one
abbrev pub found : {T A : Type 0} → (T → A) → Option T → Option A
found view None = None
found view (Some x) = Some (view x)

-- one more item, where there is a list
abbrev pub in_front : {A : Type 0} → A → Option (List A) → Option (List A)
in_front x None = None
in_front x (Some xs) = Some (x ∷ xs)

-- f where there is something, and nothing where there isn't
abbrev pub where_some : {P R A B : Type 0} → Option A → (A → Steps P R (Option B)) → Steps P R (Option B)
where_some None f = gives None
where_some (Some x) f = f x

-- the value, which is made of what was found by an operation at the place
abbrev pub made_of : {P R A B : Type 0} → P → (A → Counterpart) → (A → B) → Option A → Steps P R (Option B)
made_of at counterpart value None = gives None
made_of at counterpart value (Some x) = makes at (counterpart x) (Some (value x))
