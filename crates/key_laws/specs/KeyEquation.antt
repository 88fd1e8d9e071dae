-- Gosper's key equation q(k) Y(k+1) - r(k-1) Y(k) = a_0 s_0(k) + a_1 s_1(k) + .., whose multipliers a_j are free of k (A=B chapters 5 and 6).
-- Its polynomials in k are meanings over any ring: lists of coefficients of any length, with numbers of any size.
use Rattle.std.specs.Prelude.{◌≡◌, ℕ, suc, ◌<◌, List, [], ◌∷◌, length}
use Rattle.ring_laws.specs.Meaning.{Meaning}
use Rattle.ring_laws.specs.Algebra.{Ops, Algebra}
use Rattle.poly_laws.specs.PolyAlgebra.{poly_ops, poly_algebra}
use Rattle.division_laws.specs.Polynomials.{Polynomial, at_next, at_previous, constant}
use Rattle.kernel_laws.specs.Answers.{Vector, meant}
use Rattle.kernel_laws.specs.Reduction.{bare}

-- the meanings of several polynomials
abbrev pub meanings : (a : Algebra) → List (Polynomial a) → List Meaning
meanings a fs = bare (poly_algebra a) fs

-- q(k) Y(k+1) - b(k) Y(k)
abbrev pub key_difference : Ops Meaning → (q b y : Meaning) → Meaning
key_difference o q b y = (poly_ops o).sum ((poly_ops o).product q (at_next o y)) ((poly_ops o).neg ((poly_ops o).product b y))

-- a_0 s_0 + a_1 s_1 + .., one multiplier for each side
abbrev pub combination : Ops Meaning → (ℕ → Meaning) → List Meaning → Meaning
combination o multipliers [] = (poly_ops o).nought
combination o multipliers (side ∷ sides) =
    (poly_ops o).sum ((poly_ops o).product (constant o (multipliers 0)) side) (combination o (λ j. multipliers (suc j)) sides)

-- Y and the multipliers solve the equation, with b for r(k-1)
abbrev pub SolvesWith : Ops Meaning → (q b : Meaning) → List Meaning → Meaning → (ℕ → Meaning) → Type 0
SolvesWith o q b sides y multipliers = key_difference o q b y ≡ combination o multipliers sides

-- Y and the multipliers solve the equation
abbrev pub KeyEquation : Ops Meaning → (q r : Meaning) → List Meaning → Meaning → (ℕ → Meaning) → Type 0
KeyEquation o q r sides y multipliers = SolvesWith o q (at_previous o r) sides y multipliers

-- with b for r(k-1): in every solution, of any degree and with numbers of any size, each multiplier is zero
abbrev pub InsolubleWith : Algebra → (q b : Meaning) → List Meaning → Type 0
InsolubleWith a q b sides =
    (y : Polynomial a) (multipliers : Vector a) → SolvesWith a.ops q b sides y.0 (meant a multipliers)
    → (j : ℕ) → j < length sides → (multipliers j).0 ≡ a.ops.nought

-- in every solution each multiplier is zero
abbrev pub Insoluble : Algebra → (q r : Meaning) → List Meaning → Type 0
Insoluble a q r sides = InsolubleWith a q (at_previous a.ops r) sides
