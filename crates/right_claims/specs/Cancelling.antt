-- The forms of the chains are divided out of Y in their order, each as often as it divides what is left and stands among the chains.
use Rattle.std.specs.Prelude.{◌≡◌, ℕ, zero, suc, ◌≤◌, ◌-◌, ◌⊎◌, List, [], ◌∷◌}
use Rattle.ring_laws.specs.Meaning.{Meaning}
use Rattle.poly_laws.specs.Values.{level}
use Rattle.poly_laws.specs.Powers.{power_in}
use Rattle.division_laws.specs.Polynomials.{Polynomial}
use Rattle.kernel_laws.specs.RowSteps.{HasQuotient}
use Rattle.hypergeometric.specs.LinearForm.{LinearForm, Factor}
use Rattle.hypergeometric.specs.FactorLists.{factor_with}
use Rattle.hypergeometric.specs.Products.{form_polynomial}

-- the form divides Y
abbrev pub Divides : LinearForm → Meaning → Type 0
Divides f y = HasQuotient (level 2) (form_polynomial f) y

-- the forms that stay: one with the power that is left of it stays, and goes where none is left
abbrev pub staying : LinearForm → ℕ → List Factor → List Factor
staying f zero xs = xs
staying f (suc power) xs = factor_with f (suc power) ∷ xs

-- Y is the rest times the form to a power; more can't be divided out, since all powers went or the form doesn't divide the rest
pub record IsDividedOut (x : Factor) (y rest : Meaning) (power : ℕ) : Type 0 where
  pub within : power ≤ x.power
  pub is : y ≡ (level 2).ops.product rest (power_in (level 2).ops (form_polynomial x.form) power)
  pub most : (power ≡ x.power) ⊎ (¬ (Divides x.form rest))

-- what is left of Y and of the forms of a list, when one after another is divided out
pub data CancelsInOrder : List Factor → Meaning → Meaning → List Factor → Type 0 where
  all_done : {y : Meaning} → CancelsInOrder [] y y []
  next_form : {x : Factor} {xs : List Factor} {y left : Meaning} {poles : List Factor} (rest : Polynomial (level 1)) (power : ℕ)
      → IsDividedOut x y rest.0 power → CancelsInOrder xs rest.0 left poles
      → CancelsInOrder (x ∷ xs) y left (staying x.form (x.power - power) poles)

-- What is left of Y and of the chains: where Y is zero there are no poles, and else the forms of the chains are divided out in their order.
pub data LeavesInOrder (chains : List Factor) (y : Meaning) : Meaning → List Factor → Type 0 where
  of_zero : y ≡ (level 2).ops.nought → LeavesInOrder chains y y []
  of_nonzero : {left : Meaning} {poles : List Factor} → ¬ (y ≡ (level 2).ops.nought) → CancelsInOrder chains y left poles
      → LeavesInOrder chains y left poles
