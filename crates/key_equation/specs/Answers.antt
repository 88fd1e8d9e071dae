-- What is found of the key equation of an order.
use Rattle.std.specs.Prelude.{ℕ, ◌≤◌, List, map}
use Rattle.std.specs.List.{AllByRecursion}
use Rattle.ring_laws.specs.Meaning.{Meaning}
use Rattle.ring_laws.specs.Algebra.{Algebra}
use Rattle.poly_laws.specs.PolyAlgebra.{poly_algebra}
use Rattle.poly_laws.specs.Values.{level}
use Rattle.kernel_laws.specs.Rows.{entry_at}
use Rattle.kernel_laws.specs.RowSteps.{HasQuotient}
use Rattle.kernel_laws.specs.Reduction.{Reduction}
use Rattle.division_laws.specs.Polynomials.{Polynomial}
use Rattle.key_laws.specs.KeyEquation.{meanings}
use Rattle.key_laws.specs.Certificates.{CertificateIdentity}
use Rattle.hypergeometric.specs.LinearForm.{LinearForm, Factor, FactorList}
use Rattle.hypergeometric.specs.ProperTerm.{ProperTerm, HasFractions}
use Rattle.hypergeometric.specs.FactorLists.{power_of}
use Rattle.term_pieces.specs.Pieces.{Pieces, ArePiecesOf}
use Rattle.term_pieces.specs.NormalForm.{Normal, IsNormalFormOf}
use Rattle.gosper_theorem.specs.RationalCertificates.{HasNoCertificate}
use Rattle.form_rings.specs.Forms.{Forms}
use Rattle.key_sides.specs.Lifted.{lifted}
use Rattle.key_system.specs.Solved.{IsChosen}
use Rattle.key_system.specs.Answers.{IsLeastWithSign}
use Rattle.key_equation.specs.Cancelling.{LeavesInOrder}
use Rattle.key_equation.specs.Polynomials.{form_over, list_over, q_over, b_over, IsNormalFor, AreSidesOf}

-- no form of the poles divides Y, and each stands there at most as often as in the chains
pub record AreNeededPoles (a : Algebra) (polynomial : LinearForm → Meaning) (chains : List Factor) (y : Meaning) (poles : List Factor) : Type 0 where
  pub none_divides : AllByRecursion (λ x. ¬ (HasQuotient a (polynomial x.form) y)) poles
  pub within : (f : LinearForm) → power_of f poles ≤ power_of f chains

-- a solution of the key equation, and what is left of its Y and of the chains
pub record IsSolution (a : Algebra) (r : Reduction) (forms : Forms) (normal : Normal) (sides : List Meaning) (y : Meaning)
    (multipliers : List Meaning) (poles : List Factor) : Type 0 where
  pub whole : Meaning
  -- the equation holds, the last multiplier that isn't zero stands at the least place that there is, and its lead is positive
  pub least : IsLeastWithSign a forms (q_over a forms normal) (b_over a forms normal) sides whole multipliers
  -- it is the one that the steps of elimination give
  pub chosen : IsChosen a r forms (q_over a forms normal) (b_over a forms normal) sides whole multipliers
  pub leaves : LeavesInOrder (poly_algebra a) (form_over a forms) normal.poles.factors whole y poles

-- The identity of a certificate: for sides g p_j, and whatever q0 and r0 are whose normal form this is,
-- q0(k) Y(k+1) D(k) - r0(k-1) Y(k) D(k+1) = (a_0 p_0 + a_1 p_1 + ..) D(k) D(k+1).
abbrev pub IsCertified : Algebra → Forms → Normal → List Meaning → Meaning → List Meaning → FactorList → Type 0
IsCertified a forms normal sides y multipliers poles =
    (q0 r0 : FactorList) (tops : List (Polynomial (level 1))) → IsNormalFor normal q0 r0 → AreSidesOf a forms normal tops sides
    → CertificateIdentity a.ops (list_over a forms q0) (list_over a forms r0) (map (lifted a forms) (meanings (level 1) tops)) y
    (entry_at a.ops multipliers) (list_over a forms poles)

-- for sides g p_j of the pieces of a term: no quotient of polynomials in n and k is a certificate
abbrev pub HasNoRationalCertificate : Algebra → Forms → Normal → List Meaning → Type 0
HasNoRationalCertificate a forms normal sides =
    (f : ProperTerm) (pieces : Pieces) (order : ℕ) (tops : List (Polynomial (level 1))) → HasFractions f → ArePiecesOf pieces f order
    → IsNormalFormOf normal pieces.q0 pieces.r0 → AreSidesOf a forms normal tops sides → HasNoCertificate pieces tops
