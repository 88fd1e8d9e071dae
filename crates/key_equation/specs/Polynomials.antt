-- The polynomials of a key equation over a ring of forms, for a normal form and sides.
use Rattle.std.specs.Prelude.{◌≡◌, List, map}
use Rattle.ring_laws.specs.Meaning.{Meaning}
use Rattle.ring_laws.specs.Algebra.{Algebra}
use Rattle.poly_laws.specs.Values.{level}
use Rattle.division_laws.specs.Polynomials.{Polynomial, at_previous}
use Rattle.key_laws.specs.KeyEquation.{meanings}
use Rattle.hypergeometric.specs.LinearForm.{LinearForm, FactorList}
use Rattle.hypergeometric.specs.FormOrder.{IsSorted}
use Rattle.hypergeometric.specs.Products.{form_polynomial, list_polynomial}
use Rattle.term_pieces.specs.NormalForm.{Normal, IsNormalFormOf}
use Rattle.pole_laws.specs.Orders.{sides_of}
use Rattle.form_rings.specs.Forms.{Forms}
use Rattle.key_sides.specs.Lifted.{lifted}

-- a form over the ring
abbrev pub form_over : Algebra → Forms → LinearForm → Meaning
form_over a forms f = lifted a forms (form_polynomial f)

-- a list of forms over the ring
abbrev pub list_over : Algebra → Forms → FactorList → Meaning
list_over a forms l = lifted a forms (list_polynomial l)

-- q(k) of a normal form
abbrev pub q_over : Algebra → Forms → Normal → Meaning
q_over a forms normal = list_over a forms normal.q

-- r(k-1) of it
abbrev pub b_over : Algebra → Forms → Normal → Meaning
b_over a forms normal = at_previous a.ops (list_over a forms normal.r)

-- a normal form of q0/r0, two sorted lists of which the first isn't zero as a polynomial
pub record IsNormalFor (normal : Normal) (q0 r0 : FactorList) : Type 0 where
  pub normal_form : IsNormalFormOf normal q0 r0
  pub q_sorted : IsSorted q0.factors
  pub r_sorted : IsSorted r0.factors
  pub not_zero : ¬ (list_polynomial q0 ≡ (level 2).ops.nought)

-- it is a normal form of two such lists
pub record IsOfQuotient (normal : Normal) : Type 0 where
  pub q0 : FactorList
  pub r0 : FactorList
  pub normal_for : IsNormalFor normal q0 r0

-- the sides are g times these polynomials, over the ring
abbrev pub AreSidesOf : Algebra → Forms → Normal → List (Polynomial (level 1)) → List Meaning → Type 0
AreSidesOf a forms normal tops sides = sides ≡ map (lifted a forms) (sides_of normal (meanings (level 1) tops))
