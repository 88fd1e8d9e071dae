-- What the calls on a key equation answer. b stands for r(k-1).
use Rattle.std.specs.Prelude.{◌≡◌, ℕ, pos, ◌<ℤ◌, List, length, Option, Result, Ok, Err}
use Rattle.ring_laws.specs.Meaning.{Meaning}
use Rattle.ring_laws.specs.Algebra.{Algebra}
use Rattle.ring_laws.specs.Answer.{OnFault}
use Rattle.ring_laws.specs.declared.faults.RingFault.{RingFault}
use Rattle.steps.specs.declared.faults.StepFault.{StepFault}
use Rattle.steps.specs.declared.faults.StepFault.TheVariants.{Limit, TooLarge, Memory}
use Rattle.steps.specs.declared.limits.LimitName.TheVariants.{Columns}
use Rattle.steps.specs.Steps.{limited, limit}
use Rattle.kernel_laws.specs.Rows.{entry_at}
use Rattle.key_laws.specs.DegreeBounds.{IsDegreeBound}
use Rattle.key_laws.specs.Solutions.{IsLeastSolution}
use Rattle.form_rings.specs.Forms.{Forms}
use Rattle.key_system.specs.Reckoning.{BoundInBounds}

-- the degree bound; `TooLarge` comes only where its one operation is not in bounds
abbrev pub GivesBound : Algebra → (q b : Meaning) → List Meaning → Result (Option ℕ) RingFault → Type 0
GivesBound a q b sides (Ok bound) = IsDegreeBound a.ops q b sides bound
GivesBound a q b sides (Err fault) = OnFault (¬ BoundInBounds a q b) fault

-- so many columns are within the limit
abbrev pub AreFewColumns : ℕ → Type 0
AreFewColumns columns = limited {R = ⊥} Columns columns (tt {0}) ≡ Ok (tt {0})

-- what is said of a fault: the limit is passed by the columns, which are counted, or a step is not in bounds
abbrev pub OnStepFault : ℕ → Type 0 → StepFault → Type 0
OnStepFault columns InBounds (Limit name counted) = limited {R = ⊥} Columns columns (tt {0}) ≡ Err (limit name counted)
OnStepFault columns InBounds TooLarge = ¬ InBounds
OnStepFault columns InBounds Memory = Unit {0}

-- a solution whose last multiplier that isn't zero stands at the least place that there is, and has a positive lead
pub record IsLeastWithSign (a : Algebra) (forms : Forms) (q b : Meaning) (sides : List Meaning) (y : Meaning) (multipliers : List Meaning) : Type
    0 where
  pub size : length multipliers ≡ length sides
  pub last : ℕ
  pub least : IsLeastSolution a q b sides y (entry_at a.ops multipliers) last
  pub positive : pos 0 <ℤ forms.lead (entry_at a.ops multipliers last)
