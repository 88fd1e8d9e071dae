-- The lists of a normal form as polynomials: q0 = q * A, r0(k-1) = r(k-1) * B, the chains are g * B, and at k+1 they are A * g,
-- for the products A of the s(k) and B of the s(k-h-1) over the matches.
use Rattle.std.specs.Prelude.{◌≡◌, ℤ, pos, negsuc, ◌+ℤ◌, ◌*ℤ◌, List, [], ◌∷◌, length, refl}
use Rattle.std.proofs.Common.{ap, sym, ◌∙◌, arith}
use Rattle.ring_solver.proofs.Read.{ring_z, reading_z}
use Rattle.ring_laws.specs.Algebra.{Ops}
use Rattle.poly_laws.specs.Values.{value_at, level}
use Rattle.poly_laws.proofs.Equal.{level_laws, same_values}
use Rattle.poly_laws.proofs.Keeps.{value_at_keeps}
use Rattle.poly_laws.proofs.ShiftLaws.{value_at_shift}
use Rattle.division_laws.specs.Polynomials.{Polynomial, at_previous, at_next}
use Rattle.division_laws.proofs.Polynomials.{polynomials, shifted_in}
use Rattle.hypergeometric.specs.Point.{Point, point, values, values_in_n, later_k}
use Rattle.hypergeometric.specs.LinearForm.{Factor, FactorList, forms_value, factor_list_value}
use Rattle.hypergeometric.specs.FormOrder.{IsSorted}
use Rattle.hypergeometric.specs.ProperTerm.{poly_value}
use Rattle.hypergeometric.specs.Products.{list_polynomial}
use Rattle.hypergeometric.proofs.FormPolynomials.{list_passes}
use Rattle.hypergeometric.proofs.ListValues.{list_at}
use Rattle.term_pieces.specs.NormalForm.{Normal, form_above, form_below, matched, IsWithout, IsNormalFormOf}
use Rattle.term_pieces.proofs.NormalValues.{without_value, r_value, g_value, poles_value, chains_below as product_below, chains_next as product_next}
use Rattle.pole_laws.specs.Cancelled.{of_forms}

-- the polynomials in k over those in n, and a shift by a number
abbrev pub in_k : Ops (Polynomial (level 1))
in_k = polynomials (level 1) (level_laws 1)

abbrev pub shift_by : ℤ → Polynomial (level 1) → Polynomial (level 1)
shift_by w f = shifted_in (level 1) (level_laws 1) w f

-- a list as a polynomial
abbrev pub list_in : FactorList → Polynomial (level 1)
list_in l = (list_polynomial l, list_passes l)

-- polynomials that have the same value at each point are the same
pub same_polynomials : (x y : Polynomial (level 1)) → ((p : Point) → poly_value x.0 p ≡ poly_value y.0 p) → x ≡ y
same_polynomials x y h = same_values 2 x y at_point
  where
    at_point : (point : List ℤ) → length point ≡ 2 → value_at point x.0 ≡ value_at point y.0
    at_point [] e = absurd (omega arith)
    at_point (k ∷ []) e = absurd (omega arith)
    at_point (k ∷ n ∷ []) e = h (point n k)
    at_point (k ∷ n ∷ m ∷ rest) e = absurd (omega (arith, e))

pub product_at : (x y : Polynomial (level 1)) (p : Point) → poly_value (in_k.product x y).0 p ≡ poly_value x.0 p *ℤ poly_value y.0 p
product_at x y p = (value_at_keeps (values p)).product x.0 y.0

pub shift_at : (w : ℤ) (x : Polynomial (level 1)) (p : Point) → poly_value (shift_by w x).0 p ≡ poly_value x.0 (later_k p w)
shift_at w x p = value_at_shift p.k w (values_in_n p) x.0

pub value_of : (l : FactorList) (p : Point) → poly_value (list_in l).0 p ≡ factor_list_value l p
value_of l p = list_at l (list_polynomial l) refl p

pub forms_alone : (xs : List Factor) (p : Point) → poly_value (list_in (of_forms xs)).0 p ≡ forms_value xs p
forms_alone xs p = value_of (of_forms xs) p ∙ one_times (forms_value xs p)
  where
    one_times : (x : ℤ) → pos 1 *ℤ x ≡ x
    one_times x = ring_z (x ∷ []) (search reading_z depth 40 fits 20000) refl

-- a list is what is left of it, times what was taken
pub without_product : (l whole : FactorList) (taken : List Factor) → IsSorted whole.factors → IsWithout l whole taken
    → list_in whole ≡ in_k.product (list_in l) (list_in (of_forms taken))
without_product l whole taken sorted is =
    same_polynomials (list_in whole) (in_k.product (list_in l) (list_in (of_forms taken)))
    (λ p. value_of whole p ∙ without_value p l whole taken sorted is
    ∙ sym (product_at (list_in l) (list_in (of_forms taken)) p ∙ (λ i. value_of l p i *ℤ forms_alone taken p i)))

module _ (normal : Normal) (q0 r0 : FactorList) (is : IsNormalFormOf normal q0 r0) where
  abbrev pub above : Polynomial (level 1)
  above = list_in (of_forms (matched form_above normal.matches))

  abbrev pub below : Polynomial (level 1)
  below = shift_by (negsuc 0) (list_in (of_forms (matched form_below normal.matches)))

  pub of_q : IsSorted q0.factors → list_in q0 ≡ in_k.product (list_in normal.q) above
  of_q sorted = without_product normal.q q0 (matched form_above normal.matches) sorted is.q

  below_at : (p : Point) → poly_value below.0 p ≡ forms_value (matched form_below normal.matches) (later_k p (negsuc 0))
  below_at p =
      shift_at (negsuc 0) (list_in (of_forms (matched form_below normal.matches))) p
      ∙ forms_alone (matched form_below normal.matches) (later_k p (negsuc 0))

  pub of_r : IsSorted r0.factors → shift_by (negsuc 0) (list_in r0) ≡ in_k.product (shift_by (negsuc 0) (list_in normal.r)) below
  of_r sorted =
      same_polynomials (shift_by (negsuc 0) (list_in r0)) (in_k.product (shift_by (negsuc 0) (list_in normal.r)) below)
      (λ p. shift_at (negsuc 0) (list_in r0) p ∙ value_of r0 (later_k p (negsuc 0)) ∙ r_value (later_k p (negsuc 0)) normal q0 r0 is sorted
      ∙ sym (product_at (shift_by (negsuc 0) (list_in normal.r)) below p
      ∙ (λ i. (shift_at (negsuc 0) (list_in normal.r) p ∙ value_of normal.r (later_k p (negsuc 0))) i *ℤ below_at p i)))

  pub of_chains : list_in normal.poles ≡ in_k.product (list_in normal.g) below
  of_chains =
      same_polynomials (list_in normal.poles) (in_k.product (list_in normal.g) below)
      (λ p. value_of normal.poles p ∙ poles_value p normal q0 r0 is ∙ product_below p normal.matches
      ∙ sym (product_at (list_in normal.g) below p
      ∙ (λ i. (value_of normal.g p ∙ g_value p normal q0 r0 is) i *ℤ below_at p i)))

  pub of_next : shift_by (pos 1) (list_in normal.poles) ≡ in_k.product above (list_in normal.g)
  of_next =
      same_polynomials (shift_by (pos 1) (list_in normal.poles)) (in_k.product above (list_in normal.g))
      (λ p. shift_at (pos 1) (list_in normal.poles) p ∙ value_of normal.poles (later_k p (pos 1)) ∙ poles_value (later_k p (pos 1)) normal q0 r0 is
      ∙ product_next p normal.matches
      ∙ sym (product_at above (list_in normal.g) p
      ∙ (λ i. forms_alone (matched form_above normal.matches) p i *ℤ (value_of normal.g p ∙ g_value p normal q0 r0 is) i)))

  -- the same between the polynomials themselves
  pub q_kept : IsSorted q0.factors
      → list_polynomial q0 ≡ (level 2).ops.product (list_polynomial normal.q) (list_polynomial (of_forms (matched form_above normal.matches)))
  q_kept sorted = ap (λ (t : Polynomial (level 1)). t.0) (of_q sorted)

  pub r_kept : IsSorted r0.factors
      → list_polynomial r0 ≡ (level 2).ops.product (list_polynomial normal.r) (list_polynomial (of_forms (matched form_below normal.matches)))
  r_kept sorted = ap (λ (t : Polynomial (level 1)). t.0) (without_product normal.r r0 (matched form_below normal.matches) sorted is.r)

  pub chains_here : list_polynomial normal.poles ≡ (level 2).ops.product (list_polynomial normal.g)
      (at_previous (level 1).ops (list_polynomial (of_forms (matched form_below normal.matches))))
  chains_here = ap (λ (t : Polynomial (level 1)). t.0) of_chains

  pub chains_next : at_next (level 1).ops (list_polynomial normal.poles)
      ≡ (level 2).ops.product (list_polynomial (of_forms (matched form_above normal.matches))) (list_polynomial normal.g)
  chains_next = ap (λ (t : Polynomial (level 1)). t.0) of_next
