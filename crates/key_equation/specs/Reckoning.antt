-- When the steps of an order are in bounds, from q(k) on: the two products, the steps of the key equation, and the divisions of Y by pole forms.
use Rattle.std.specs.Prelude.{◌≡◌, ℕ, ◌<◌, List, ◌∷◌, ◌++◌}
use Rattle.ring_laws.specs.Meaning.{Meaning}
use Rattle.ring_laws.specs.Algebra.{Algebra, Passing}
use Rattle.poly_laws.specs.LongDivision.{DivisionInBounds}
use Rattle.poly_laws.specs.PolyAlgebra.{poly_algebra}
use Rattle.poly_laws.specs.Powers.{power_in}
use Rattle.kernel_laws.specs.Reduction.{Reduction}
use Rattle.hypergeometric.specs.LinearForm.{LinearForm, Factor}
use Rattle.term_pieces.specs.NormalForm.{Normal}
use Rattle.form_rings.specs.Forms.{Forms}
use Rattle.key_sides.specs.Powers.{PowersInBounds}
use Rattle.key_sides.specs.ListPowers.{list_powers, list_before}
use Rattle.key_system.specs.Reckoning.{SolvingInBounds}
use Rattle.key_system.specs.Solved.{IsChosen}
use Rattle.key_equation.specs.Cancelling.{CancelsInOrder}
use Rattle.key_equation.specs.Polynomials.{form_over, q_over, b_over}

-- each division by a polynomial is in bounds: of Y, and of each rest that is left of Y while some of its powers are to be divided out
abbrev pub DividingInBounds : Algebra → (Meaning → Meaning → Type 0) → Meaning → ℕ → Meaning → Type 0
DividingInBounds a InBounds form powers y =
    (rest : Passing a) (power : ℕ) → power < powers → y ≡ a.ops.product rest.0 (power_in a.ops form power) → InBounds rest.0 form

-- so it is for each form of a list, of what the forms before it leave of Y
abbrev pub CancellingInBounds : Algebra → (Meaning → Meaning → Type 0) → (LinearForm → Meaning) → List Factor → Meaning → Type 0
CancellingInBounds a InBounds polynomial chains y =
    (before : List Factor) (x : Factor) (after : List Factor) (left : Meaning) (poles : List Factor) → chains ≡ before ++ x ∷ after
    → CancelsInOrder a polynomial before y left poles → DividingInBounds a InBounds (polynomial x.form) x.power left

-- the steps of an order with a normal form and sides; Y is divided where it isn't zero
pub record OrderInBounds (InBounds : Meaning → Meaning → Type 0) (a : Algebra) (r : Reduction) (forms : Forms) (normal : Normal)
    (sides : List Meaning) : Type 0 where
  pub q : PowersInBounds (poly_algebra a) (list_powers a forms normal.q)
  pub b : PowersInBounds (poly_algebra a) (list_powers a forms (list_before normal.r))
  pub solving : SolvingInBounds InBounds a r (q_over a forms normal) (b_over a forms normal) sides
  pub cancelling : (y : Meaning) (multipliers : List Meaning)
      → IsChosen a r forms (q_over a forms normal) (b_over a forms normal) sides y multipliers → ¬ (y ≡ (poly_algebra a).ops.nought)
      → CancellingInBounds (poly_algebra a) (DivisionInBounds a InBounds) (form_over a forms) normal.poles.factors y
