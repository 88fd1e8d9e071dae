-- The identity of a certificate holds at each point.
use Rattle.std.specs.Prelude.{◌≡◌, ℕ, suc, ℤ, pos, negsuc, ◌+ℤ◌, ◌-ℤ◌, ◌*ℤ◌, neg_ℤ, List, [], ◌∷◌, refl}
use Rattle.std.proofs.Common.{ap, sym, ◌∙◌, arith}
use Rattle.std.proofs.lemmas.Int.{ints}
use Rattle.ring_solver.proofs.Read.{ring_z, reading_z}
use Rattle.ring_laws.specs.Meaning.{Meaning}
use Rattle.poly_laws.specs.Values.{value_at, level}
use Rattle.poly_laws.proofs.Keeps.{of_list, value_at_keeps}
use Rattle.poly_laws.proofs.ShiftLaws.{value_at_shift}
use Rattle.hypergeometric.specs.Point.{Point, values, values_in_n, later_k}
use Rattle.hypergeometric.specs.ProperTerm.{poly_value}
use Rattle.division_laws.specs.Polynomials.{at_previous, constant}
use Rattle.key_laws.specs.KeyEquation.{combination}
use Rattle.key_laws.specs.Certificates.{CertificateIdentity}
use Rattle.key_laws.proofs.CertificatePoints.{certificate_at}
use Rattle.pole_laws.specs.CertificateValues.{combination_value, HoldsAt}

module _ (p : Point) where
  product_at : (x y : Meaning) → poly_value ((level 2).ops.product x y) p ≡ poly_value x p *ℤ poly_value y p
  product_at x y = (value_at_keeps (values p)).product x y

  previous_at : (x : Meaning) → poly_value (at_previous (level 1).ops x) p ≡ poly_value x (later_k p (negsuc 0))
  previous_at x = value_at_shift p.k (negsuc 0) (values_in_n p) x

  constant_at : (c : Meaning) → poly_value (constant (level 1).ops c) p ≡ value_at (values_in_n p) c
  constant_at c = of_list (level 1).ops (value_at (values_in_n p)) (value_at_keeps (values_in_n p)) p.k (c ∷ []) ∙ alone (value_at (values_in_n p) c) p.k
    where
      alone : (x k : ℤ) → x +ℤ k *ℤ pos 0 ≡ x
      alone x k = ring_z (x ∷ k ∷ []) (search reading_z depth 40 fits 20000) refl

  combination_at : (multipliers : ℕ → Meaning) (ps : List Meaning)
      → poly_value (combination (level 1).ops multipliers ps) p ≡ combination_value multipliers ps p
  combination_at multipliers [] = (value_at_keeps (values p)).nought
  combination_at multipliers (poly ∷ ps) =
      (value_at_keeps (values p)).sum ((level 2).ops.product (constant (level 1).ops (multipliers 0)) poly)
      (combination (level 1).ops (λ j. multipliers (suc j)) ps)
      ∙ (λ i. (product_at (constant (level 1).ops (multipliers 0)) poly ∙ ap (λ t. t *ℤ poly_value poly p) (constant_at (multipliers 0))) i
      +ℤ combination_at (λ j. multipliers (suc j)) ps i)

  difference : (x y : ℤ) → x +ℤ neg_ℤ y ≡ x -ℤ y
  difference x y = omega (arith, ints)

  pub holds_at : (q0 r0 : Meaning) (tops : List Meaning) (y : Meaning) (multipliers : ℕ → Meaning) (poles : Meaning)
      → CertificateIdentity (level 1).ops q0 r0 tops y multipliers poles → HoldsAt q0 r0 tops y multipliers poles p
  holds_at q0 r0 tops y multipliers poles e =
      sym (difference (poly_value q0 p *ℤ (poly_value y (later_k p (pos 1)) *ℤ poly_value poles p))
      (poly_value r0 (later_k p (negsuc 0)) *ℤ (poly_value y p *ℤ poly_value poles (later_k p (pos 1)))))
      ∙ ap (λ r. poly_value q0 p *ℤ (poly_value y (later_k p (pos 1)) *ℤ poly_value poles p)
      +ℤ neg_ℤ (r *ℤ (poly_value y p *ℤ poly_value poles (later_k p (pos 1))))) (sym (previous_at r0))
      ∙ certificate_at p.n p.k q0 (at_previous (level 1).ops r0) (combination (level 1).ops multipliers tops) y poles e
      ∙ ap (λ s. s *ℤ (poly_value poles p *ℤ poly_value poles (later_k p (pos 1)))) (combination_at multipliers tops)
