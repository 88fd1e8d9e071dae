-- What elimination answers.
use Rattle.std.specs.Prelude.{◌≡◌, ℕ, List, map, Result, Ok, Err, Vec, ⊤}
use Rattle.either.specs.declared.Either.{Either}
use Rattle.either.specs.declared.Either.TheVariants.{Left, Right}
use Rattle.ring_laws.specs.Meaning.{Meaning}
use Rattle.ring_laws.specs.Algebra.{Algebra}
use Rattle.ring_laws.specs.Answer.{OnFault}
use Rattle.ring_laws.specs.declared.faults.RingFault.{RingFault}
use Rattle.kernel_laws.specs.Reduction.{Reduction}
use Rattle.kernel_laws.specs.Answers.{FreeVector, AllPivots, VectorOf}
use Rattle.fraction_free.specs.declared.kernels.Kernel.{Kernel}
use Rattle.fraction_free.specs.declared.kernels.Pivots.{Pivots}
use Rattle.fraction_free.specs.RowAnswers.{rows_meant}

-- the vector of the first free column from the first on, or the rank where there is none; `TooLarge` only where a step is not in bounds
abbrev pub Eliminates : {T : Type 0} → (T → Meaning) → (a : Algebra) → (columns first : ℕ) → List (List Meaning) → Type 0
    → Result (Either (Kernel T) Pivots) RingFault → Type 0
Eliminates meaning a columns first rows InBounds (Ok (Left kernel)) =
    FreeVector a columns first rows (map meaning kernel.vector.items) kernel.free
Eliminates meaning a columns first rows InBounds (Ok (Right pivots)) = AllPivots a columns first rows pivots.rank
Eliminates meaning a columns first rows InBounds (Err fault) = OnFault (¬ InBounds) fault

-- the vector is the one that elimination and back substitution give at its column
abbrev pub IsByTheSteps : {T : Type 0} → (T → Meaning) → (a : Algebra) → Reduction → (columns : ℕ) → List (List Meaning)
    → Result (Either (Kernel T) Pivots) RingFault → Type 0
IsByTheSteps meaning a r columns rows (Ok (Left kernel)) = VectorOf a r columns rows kernel.free (map meaning kernel.vector.items)
IsByTheSteps meaning a r columns rows (Ok (Right pivots)) = ⊤
IsByTheSteps meaning a r columns rows (Err fault) = ⊤

-- and no other vector is given by them there
abbrev pub IsOnlyByTheSteps : {T : Type 0} → (T → Meaning) → (a : Algebra) → Reduction → (columns : ℕ) → List (List Meaning)
    → Result (Either (Kernel T) Pivots) RingFault → Type 0
IsOnlyByTheSteps meaning a r columns rows (Ok (Left kernel)) =
    (other : List Meaning) → VectorOf a r columns rows kernel.free other → other ≡ map meaning kernel.vector.items
IsOnlyByTheSteps meaning a r columns rows (Ok (Right pivots)) = ⊤
IsOnlyByTheSteps meaning a r columns rows (Err fault) = ⊤

-- P holds of the vectors
abbrev pub AnswersBasis : {T Z : Type 0} → (T → Meaning) → (List (List Meaning) → Type 0) → Result (Vec (Vec T Z) Z) RingFault → Type 0
AnswersBasis meaning P (Ok vectors) = P (rows_meant meaning vectors.items)
AnswersBasis meaning P (Err fault) = ⊤
