-- What is done step by step: what comes out or the first refusal, and the operations up to there, in order. A place is whatever an
-- operation is done at, and a reason whatever is refused for but a limit that is passed.
use Rattle.std.specs.Prelude.{ℕ, if◌then◌else◌, nat_le, List, [], ◌∷◌, ◌++◌, Result, Ok, Err}
use Rattle.steps.specs.declared.limits.LimitName.{LimitName}
use Rattle.steps.specs.Limits.{greatest_count, capped}
use Rattle.steps.specs.Operations.{Counterpart, Operation, HasTooLarge}

-- why nothing comes out: a limit is passed, with what was counted, or there is a reason
pub data Refusal (Reason : Type 0) : Type 0 where
  limit : LimitName → (counted : ℕ) → Refusal Reason
  because : Reason → Refusal Reason

-- what comes out or the first refusal, and the operations up to there, each with its place, in order
pub record Steps (Place Reason A : Type 0) : Type 0 where
  pub outcome : Result A (Refusal Reason)
  pub operations : List (Operation Place)

-- some operation at the place isn't in bounds
abbrev pub IsTooLargeAt : {P R A : Type 0} → Steps P R A → P → Type 0
IsTooLargeAt steps at = HasTooLarge steps.operations at

-- x, without an operation
abbrev pub gives : {P R A : Type 0} → A → Steps P R A
gives x = record { outcome = Ok x; operations = [] }

-- the refusal, without an operation
abbrev pub refuses : {P R A : Type 0} → Refusal R → Steps P R A
refuses r = record { outcome = Err r; operations = [] }

-- x, which is made by an operation at the place
abbrev pub makes : {P R A : Type 0} → P → Counterpart → A → Steps P R A
makes at counterpart x = record { outcome = Ok x; operations = record { place = at; counterpart = counterpart } ∷ [] }

-- the steps that follow from what came out, with the operations that were done in front of theirs; after a refusal none follow
abbrev pub after : {P R A B : Type 0} → Result A (Refusal R) → List (Operation P) → (A → Steps P R B) → Steps P R B
after (Ok x) done f = record { outcome = (f x).outcome; operations = done ++ (f x).operations }
after (Err r) done f = record { outcome = Err r; operations = done }

infixr 2 ◌then◌
-- the first steps, and where they give something, those that follow from it
abbrev pub ◌then◌ : {P R A B : Type 0} → Steps P R A → (A → Steps P R B) → Steps P R B
steps then f = after steps.outcome steps.operations f

-- x, where the count is within the limit
abbrev pub limited : {R A : Type 0} → LimitName → ℕ → A → Result A (Refusal R)
limited name count x = if nat_le count (greatest_count name) then Ok x else Err (limit name (capped count))

-- x where the count is within the limit, and else the refusal with the count; without an operation
abbrev pub within_limit : {P R A : Type 0} → LimitName → ℕ → A → Steps P R A
within_limit name count x = record { outcome = limited name count x; operations = [] }
