-- The forms of a list are divided out of Y in their order, each as often as it divides what is left and stands in the list. This is said over any
-- algebra of polynomials, to which a map sends each form.
use Rattle.std.specs.Prelude.{◌≡◌, ℕ, zero, suc, ◌≤◌, ◌-◌, ◌⊎◌, List, [], ◌∷◌}
use Rattle.ring_laws.specs.Meaning.{Meaning}
use Rattle.ring_laws.specs.Algebra.{Algebra, Passing}
use Rattle.poly_laws.specs.Powers.{power_in}
use Rattle.kernel_laws.specs.RowSteps.{HasQuotient}
use Rattle.hypergeometric.specs.LinearForm.{LinearForm, Factor}
use Rattle.hypergeometric.specs.FactorLists.{factor_with}

-- the forms that stay: one with the power that is left of it stays, and goes where none is left
abbrev pub staying : LinearForm → ℕ → List Factor → List Factor
staying f zero xs = xs
staying f (suc power) xs = factor_with f (suc power) ∷ xs

-- Y is the rest times a polynomial to a power; more can't be divided out, since all powers went or the polynomial doesn't divide the rest
pub record IsDividedOut (a : Algebra) (form : Meaning) (powers : ℕ) (y rest : Meaning) (power : ℕ) : Type 0 where
  pub within : power ≤ powers
  pub is : y ≡ a.ops.product rest (power_in a.ops form power)
  pub most : (power ≡ powers) ⊎ (¬ (HasQuotient a form rest))

-- what is left of Y and of the forms of a list, when one after another is divided out
pub data CancelsInOrder (a : Algebra) (polynomial : LinearForm → Meaning) : List Factor → Meaning → Meaning → List Factor → Type 0 where
  all_done : {y : Meaning} → CancelsInOrder a polynomial [] y y []
  next_form : {x : Factor} {xs : List Factor} {y left : Meaning} {poles : List Factor} (rest : Passing a) (power : ℕ)
      → IsDividedOut a (polynomial x.form) x.power y rest.0 power → CancelsInOrder a polynomial xs rest.0 left poles
      → CancelsInOrder a polynomial (x ∷ xs) y left (staying x.form (x.power - power) poles)

-- What is left of Y and of the chains: where Y is zero there are no poles, and else the forms of the chains are divided out in their order.
pub data LeavesInOrder (a : Algebra) (polynomial : LinearForm → Meaning) (chains : List Factor) (y : Meaning) : Meaning → List Factor → Type 0 where
  of_zero : y ≡ a.ops.nought → LeavesInOrder a polynomial chains y y []
  of_nonzero : {left : Meaning} {poles : List Factor} → ¬ (y ≡ a.ops.nought) → CancelsInOrder a polynomial chains y left poles
      → LeavesInOrder a polynomial chains y left poles
