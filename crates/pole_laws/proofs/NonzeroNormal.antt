-- What is left of lists that aren't zero isn't zero.
use Rattle.std.specs.Prelude.{◌≡◌, negsuc, List}
use Rattle.std.proofs.Common.{ap, ◌∙◌}
use Rattle.ring_laws.specs.Algebra.{same_passing}
use Rattle.poly_laws.specs.Values.{level}
use Rattle.poly_laws.proofs.Equal.{level_laws}
use Rattle.poly_laws.proofs.ListLaws.{nought_product}
use Rattle.division_laws.specs.Polynomials.{Polynomial, at_previous}
use Rattle.division_laws.proofs.Shifts.{later_nought}
use Rattle.hypergeometric.specs.LinearForm.{Factor, FactorList}
use Rattle.hypergeometric.specs.FormOrder.{IsSorted}
use Rattle.hypergeometric.specs.Products.{list_polynomial}
use Rattle.term_pieces.specs.NormalForm.{Normal, form_above, form_below, matched, IsWithout, IsNormalFormOf}
use Rattle.pole_laws.specs.Cancelled.{of_forms}
use Rattle.pole_laws.proofs.FormProducts.{in_k_ring}
use Rattle.pole_laws.proofs.NormalPolynomials.{in_k, shift_by, list_in, without_product}

left_some : (l whole : FactorList) (taken : List Factor) → IsSorted whole.factors → IsWithout l whole taken
    → ¬ (list_polynomial whole ≡ (level 2).ops.nought) → ¬ (list_in l ≡ in_k.nought)
left_some l whole taken sorted is some z =
    some (ap (λ (t : Polynomial (level 1)). t.0)
    (without_product l whole taken sorted is ∙ ap (λ t. in_k.product t (list_in (of_forms taken))) z
    ∙ nought_product in_k in_k_ring (list_in (of_forms taken))))

pub q_some : (normal : Normal) (q0 r0 : FactorList) → IsNormalFormOf normal q0 r0 → IsSorted q0.factors
    → ¬ (list_polynomial q0 ≡ (level 2).ops.nought) → ¬ (list_polynomial normal.q ≡ (level 2).ops.nought)
q_some normal q0 r0 is sorted some z =
    left_some normal.q q0 (matched form_above normal.matches) sorted is.q some (same_passing (level 2) (list_in normal.q) in_k.nought z)

-- r at k-1 too
pub r_some : (normal : Normal) (q0 r0 : FactorList) → IsNormalFormOf normal q0 r0 → IsSorted r0.factors
    → ¬ (list_polynomial r0 ≡ (level 2).ops.nought) → ¬ (at_previous (level 1).ops (list_polynomial normal.r) ≡ (level 2).ops.nought)
r_some normal q0 r0 is sorted some z =
    left_some normal.r r0 (matched form_below normal.matches) sorted is.r some
    (later_nought (level 1) (level_laws 1) (negsuc 0) (list_in normal.r)
    (same_passing (level 2) (shift_by (negsuc 0) (list_in normal.r)) in_k.nought z))
