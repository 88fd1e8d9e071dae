-- The polynomial of a list of factors at k + c is that of the list, at k + c: both have the same value everywhere.
use Rattle.std.proofs.Common.{◌≡◌, List, [], ◌∷◌, length, refl, ap, sym, ◌∙◌, arith}
use Rattle.std.specs.Prelude.{ℤ, ◌+ℤ◌}
use Rattle.ring_laws.specs.Algebra.{Passing}
use Rattle.poly_laws.specs.Values.{value_at, level}
use Rattle.poly_laws.proofs.Equal.{level_laws, same_values}
use Rattle.poly_laws.proofs.ShiftLaws.{value_at_shift}
use Rattle.poly_laws.proofs.StepMeanings.{shift_passes}
use Rattle.hypergeometric.specs.Point.{point, later_k}
use Rattle.hypergeometric.specs.LinearForm.{FactorList}
use Rattle.hypergeometric.specs.Products.{list_polynomial}
use Rattle.hypergeometric.proofs.FormPolynomials.{list_passes}
use Rattle.hypergeometric.proofs.ListValues.{list_at}
use Rattle.claim_laws.specs.Identity.{list_at_k_plus, poly_at_k_plus}
use Rattle.claim_laws.proofs.IdentityValues.{list_later}

abbrev list_in : FactorList → Passing (level 2)
list_in l = (list_polynomial l, list_passes l)

abbrev list_shifted : ℤ → FactorList → Passing (level 2)
list_shifted c l = (poly_at_k_plus c (list_polynomial l), shift_passes (level 1) (level_laws 1) c (list_in l))

same_at_points : (c : ℤ) (l : FactorList) (point : List ℤ) → length point ≡ 2
    → value_at point (list_polynomial (list_at_k_plus c l)) ≡ value_at point (poly_at_k_plus c (list_polynomial l))
same_at_points c l [] e = absurd (omega (arith, e))
same_at_points c l (k ∷ []) e = absurd (omega (arith, e))
same_at_points c l (k ∷ n ∷ []) e =
    list_at (list_at_k_plus c l) (list_polynomial (list_at_k_plus c l)) refl (point n k) ∙ list_later l c (point n k)
    ∙ sym (value_at_shift k c (n ∷ []) (list_polynomial l) ∙ list_at l (list_polynomial l) refl (later_k (point n k) c))
same_at_points c l (k ∷ n ∷ m ∷ more) e = absurd (omega (arith, e))

pub shifted_list : (c : ℤ) (l : FactorList) → list_polynomial (list_at_k_plus c l) ≡ poly_at_k_plus c (list_polynomial l)
shifted_list c l =
    ap (λ (x : Passing (level 2)). x.0) (same_values 2 (list_in (list_at_k_plus c l)) (list_shifted c l) (same_at_points c l))
