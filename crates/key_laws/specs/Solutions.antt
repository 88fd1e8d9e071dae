-- A solution of the key equation in which a multiplier isn't zero.
use Rattle.std.specs.Prelude.{ℕ, ◌<◌, List, length}
use Rattle.ring_laws.specs.Meaning.{Meaning}
use Rattle.ring_laws.specs.Algebra.{Algebra}
use Rattle.kernel_laws.specs.Kernels.{EndsAt}
use Rattle.kernel_laws.specs.Answers.{Vector, meant}
use Rattle.division_laws.specs.Polynomials.{Polynomial}
use Rattle.key_laws.specs.KeyEquation.{SolvesWith}

-- no solution has its last multiplier that isn't zero at place j
abbrev pub NoSolutionEnds : Algebra → (q b : Meaning) → List Meaning → ℕ → Type 0
NoSolutionEnds a q b sides j =
    (y : Polynomial a) (multipliers : Vector a) → SolvesWith a.ops q b sides y.0 (meant a multipliers)
    → ¬ EndsAt a.ops (length sides) (meant a multipliers) j

-- a solution whose last multiplier that isn't zero stands at the least place that there is
pub record IsLeastSolution (a : Algebra) (q b : Meaning) (sides : List Meaning) (y : Meaning) (multipliers : ℕ → Meaning) (last : ℕ) : Type 0 where
  pub solves : SolvesWith a.ops q b sides y multipliers
  pub ends : EndsAt a.ops (length sides) multipliers last
  pub least : (j : ℕ) → j < last → NoSolutionEnds a q b sides j
