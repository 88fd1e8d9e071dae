-- What an answer of the code says of what is done step by step.
use Rattle.std.specs.Prelude.{◌≡◌, Result, Ok, Err}
use Rattle.steps.specs.Steps.{Steps, Refusal, IsTooLargeAt}

-- what a fault of the code says: that the steps are refused, that they are too large at a place, or that there is no memory
pub data Cause (Place Reason : Type 0) : Type 0 where
  refused : Refusal Reason → Cause Place Reason
  too_large : Place → Cause Place Reason
  no_memory : Cause Place Reason

-- The steps end with this refusal, or an operation at the place isn't in bounds. Want of memory may come whatever they are.
abbrev pub HasCause : {P R A : Type 0} → Steps P R A → Cause P R → Type 0
HasCause steps (refused refusal) = steps.outcome ≡ Err refusal
HasCause steps (too_large at) = IsTooLargeAt steps at
HasCause steps no_memory = Unit {0}

-- an answer is what the steps give, and what a fault says has its cause in them
abbrev pub Answers : {P R F T A : Type 0} → (F → Cause P R) → (T → A) → Steps P R A → Result T F → Type 0
Answers says view steps (Ok x) = steps.outcome ≡ Ok (view x)
Answers says view steps (Err fault) = HasCause steps (says fault)
