-- The identity of polynomials, as an equation of values at each point.
use Rattle.std.proofs.Common.{◌≡◌, ℕ, suc, List, [], ◌∷◌, map, refl, ap, sym, ◌∙◌}
use Rattle.std.proofs.Math.IntN.{pow}
use Rattle.std.specs.Prelude.{ℤ, pos, negsuc, ◌+ℤ◌, ◌-ℤ◌, ◌*ℤ◌, neg_ℤ}
use Rattle.ring_solver.proofs.Read.{ring_z, reading_z}
use Rattle.ring_laws.specs.Meaning.{Meaning}
use Rattle.poly_laws.specs.Values.{value_at, level}
use Rattle.poly_laws.proofs.Keeps.{of_list, value_at_keeps}
use Rattle.poly_laws.proofs.ShiftLaws.{value_at_shift}
use Rattle.division_laws.specs.Polynomials.{at_previous, constant}
use Rattle.key_laws.proofs.CertificatePoints.{certificate_at}
use Rattle.hypergeometric.specs.Point.{Point, point, values, values_in_n, later_k}
use Rattle.hypergeometric.specs.LinearForm.{Factor, FactorList, forms_value, factor_list_value}
use Rattle.hypergeometric.specs.ProperTerm.{poly_value, value_in_n}
use Rattle.hypergeometric.specs.Claim.{Claim, poles_value}
use Rattle.hypergeometric.specs.FactorLists.{factor_with}
use Rattle.hypergeometric.specs.Products.{list_polynomial}
use Rattle.hypergeometric.proofs.ListValues.{list_at}
use Rattle.term_pieces.specs.Products.{at_later_k}
use Rattle.term_pieces.specs.Pieces.{Top, Pieces}
use Rattle.term_pieces.specs.PieceValues.{top_value}
use Rattle.term_pieces.specs.Tops.{top_polynomial}
use Rattle.term_pieces.proofs.FormValues.{later_k_value}
use Rattle.claim_laws.specs.Identity.{poly_sum, poly_difference, poly_product, list_at_k_plus, sum_of_tops, poles_polynomial, HasIdentity}

one_times : (x : ℤ) → pos 1 *ℤ x ≡ x
one_times x = ring_z (x ∷ []) (search reading_z depth 40 fits 20000) refl

no_k : (x k : ℤ) → x +ℤ k *ℤ pos 0 ≡ x
no_k x k = ring_z (x ∷ k ∷ []) (search reading_z depth 40 fits 20000) refl

-- a list of factors at k + c
forms_later : (xs : List Factor) (c : ℤ) (p : Point)
    → forms_value (map (λ x. factor_with (at_later_k x.form c) x.power) xs) p ≡ forms_value xs (later_k p c)
forms_later [] c p = refl
forms_later (x ∷ xs) c p = λ i. pow (later_k_value x.form c p i) x.power *ℤ forms_later xs c p i

pub list_later : (l : FactorList) (c : ℤ) (p : Point) → factor_list_value (list_at_k_plus c l) p ≡ factor_list_value l (later_k p c)
list_later l c p = ap (λ z. l.scale *ℤ z) (forms_later l.factors c p)

-- the numbers a_j t_j + a_(j+1) t_(j+1) + ..
abbrev pub sum_of_multiples : (ℕ → ℤ) → List Meaning → Point → ℕ → ℤ
sum_of_multiples t [] p j = pos 0
sum_of_multiples t (a ∷ more) p j = value_in_n a p *ℤ t j +ℤ sum_of_multiples t more p (suc j)

list_value : (l : FactorList) (p : Point) → poly_value (list_polynomial l) p ≡ factor_list_value l p
list_value l p = list_at l (list_polynomial l) refl p

poles_are : (xs : List Factor) (p : Point) → poly_value (poles_polynomial xs) p ≡ forms_value xs p
poles_are xs p = list_value (record { scale = pos 1; factors = xs }) p ∙ one_times (forms_value xs p)

module _ (p : Point) where
  pub product_of : (x y : Meaning) (a b : ℤ) → poly_value x p ≡ a → poly_value y p ≡ b → poly_value (poly_product x y) p ≡ a *ℤ b
  product_of x y a b e g = (value_at_keeps (values p)).product x y ∙ (λ i. e i *ℤ g i)

  sum_of : (x y : Meaning) (a b : ℤ) → poly_value x p ≡ a → poly_value y p ≡ b → poly_value (poly_sum x y) p ≡ a +ℤ b
  sum_of x y a b e g = (value_at_keeps (values p)).sum x y ∙ (λ i. e i +ℤ g i)

  pub difference_of : (x y : Meaning) (a b : ℤ) → poly_value x p ≡ a → poly_value y p ≡ b → poly_value (poly_difference x y) p ≡ a +ℤ neg_ℤ b
  difference_of x y a b e g =
      (value_at_keeps (values p)).sum x ((level 2).ops.neg y)
      ∙ (λ i. e i +ℤ ((value_at_keeps (values p)).neg y ∙ ap neg_ℤ g) i)

  pub constant_is : (a : Meaning) → poly_value (constant (level 1).ops a) p ≡ value_in_n a p
  constant_is a = of_list (level 1).ops (value_at (values_in_n p)) (value_at_keeps (values_in_n p)) p.k (a ∷ []) ∙ no_k (value_in_n a p) p.k

  pub top_is : (t : Top) → poly_value (top_polynomial t) p ≡ top_value t p
  top_is t = product_of t.poly (list_polynomial t.factors) (poly_value t.poly p) (factor_list_value t.factors p) refl (list_value t.factors p)

  pub tops_are : (top : ℕ → Top) (multipliers : List Meaning) (j : ℕ)
      → poly_value (sum_of_tops top multipliers j) p ≡ sum_of_multiples (λ i. top_value (top i) p) multipliers p j
  tops_are top [] j = (value_at_keeps (values p)).nought
  tops_are top (a ∷ more) j =
      sum_of (poly_product (constant (level 1).ops a) (top_polynomial (top j))) (sum_of_tops top more (suc j)) _ _
      (product_of (constant (level 1).ops a) (top_polynomial (top j)) _ _ (constant_is a) (top_is (top j))) (tops_are top more (suc j))

  -- q0(k) Y(k+1) D(k) - r0(k-1) Y(k) D(k+1) = S D(k) D(k+1), as numbers
  abbrev pub IdentityAt : Pieces → Claim → ℤ → Type 0
  IdentityAt pieces c s =
      factor_list_value pieces.q0 p *ℤ (poly_value c.y (later_k p (pos 1)) *ℤ poles_value c p)
      +ℤ neg_ℤ (factor_list_value pieces.r0 (later_k p (negsuc 0)) *ℤ (poly_value c.y p *ℤ poles_value c (later_k p (pos 1))))
      ≡ s *ℤ (poles_value c p *ℤ poles_value c (later_k p (pos 1)))

  -- r0(k-1) as a number
  previous_is : (r0 : FactorList) → poly_value (at_previous (level 1).ops (list_polynomial r0)) p ≡ factor_list_value r0 (later_k p (negsuc 0))
  previous_is r0 = value_at_shift p.k (negsuc 0) (values_in_n p) (list_polynomial r0) ∙ list_value r0 (later_k p (negsuc 0))

  pub identity_at : (pieces : Pieces) (c : Claim) (s : Meaning) → HasIdentity pieces c s → IdentityAt pieces c (poly_value s p)
  identity_at pieces c s e =
      (λ i. sym (list_value pieces.q0 p) i *ℤ (poly_value c.y (later_k p (pos 1)) *ℤ sym (poles_are c.poles p) i)
      +ℤ neg_ℤ (sym (previous_is pieces.r0) i *ℤ (poly_value c.y p *ℤ sym (poles_are c.poles (later_k p (pos 1))) i)))
      ∙ certificate_at p.n p.k (list_polynomial pieces.q0) (at_previous (level 1).ops (list_polynomial pieces.r0)) s c.y (poles_polynomial c.poles) e
      ∙ (λ i. poly_value s p *ℤ (poles_are c.poles p i *ℤ poles_are c.poles (later_k p (pos 1)) i))
