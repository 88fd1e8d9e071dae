use Rattle.std.proofs.Common.{subst}
use Rattle.ring_laws.specs.Answer.{OnFault, fault_weaker}
use Rattle.poly_laws.specs.PolyAlgebra.{poly_algebra}
use Rattle.hypergeometric.specs.LinearForm.{FactorList}
use Rattle.key_sides.specs.Powers.{PowersInBounds}
use Rattle.key_sides.specs.ListPowers.{list_powers, list_before}
use Rattle.key_equation.proofs.Dividing.{returned}
use Rattle.key_equation.proofs.solving.outer_polynomials.Goals as goal

-- r(k-1) is out of bounds
pub returns-in_err-b-clause-too_large : goal.returns-in_err-b-clause-too_large
returns-in_err-b-clause-too_large g c =
    returned _ c.from_residual-in_err-b.result c.in_err-b.field-0.0 c.from_residual-in_err-b.ensures.1
    (fault_weaker c.in_err-b.field-0.0 (λ none both. none both.1)
    (subst (λ (xs : FactorList). OnFault (¬ PowersInBounds (poly_algebra g.B.Ring.algebra)
    (list_powers g.B.Ring.algebra g.B.FormRing.forms (list_before xs))) c.in_err-b.field-0.0) c.r.ensures.r c.in_err-b.ensures.too_large))
