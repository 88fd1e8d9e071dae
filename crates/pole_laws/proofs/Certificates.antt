-- A solution of the key equation of a normal form, without the poles that divide it, meets the identity of a certificate.
use Rattle.std.specs.Prelude.{◌≡◌, ℤ, pos, negsuc, ◌+ℤ◌, List, [], ◌∷◌, map, refl}
use Rattle.std.proofs.Common.{ap, sym, ◌∙◌, ⊎_elim}
use Rattle.ring_laws.specs.Algebra.{same_passing}
use Rattle.poly_laws.specs.Values.{level}
use Rattle.poly_laws.proofs.Equal.{level_laws}
use Rattle.poly_laws.proofs.Keeps.{value_at_keeps}
use Rattle.poly_laws.proofs.ListLaws.{product_nought, nought_product, neg_nought}
use Rattle.division_laws.specs.Polynomials.{Polynomial}
use Rattle.kernel_laws.specs.Answers.{Vector, meant}
use Rattle.key_laws.specs.KeyEquation.{meanings, KeyEquation, combination}
use Rattle.key_laws.specs.Certificates.{CertificateIdentity}
use Rattle.key_laws.proofs.Polynomials.{difference_in, combination_in, combination_is}
use Rattle.key_laws.proofs.Poles.{combination_times, poles_left}
use Rattle.hypergeometric.specs.Point.{values, later_k}
use Rattle.hypergeometric.specs.LinearForm.{Factor, FactorList}
use Rattle.hypergeometric.specs.FormOrder.{IsSorted}
use Rattle.hypergeometric.specs.Products.{list_polynomial}
use Rattle.term_pieces.specs.NormalForm.{Normal, gosper_forms, IsNormalFormOf}
use Rattle.term_pieces.proofs.NormalValues.{g_value}
use Rattle.pole_laws.specs.Cancelled.{of_forms, IsCancelled}
use Rattle.pole_laws.specs.Orders.{sides_of}
use Rattle.pole_laws.proofs.Domains.{in_n_domain}
use Rattle.pole_laws.proofs.FormProducts.{in_k_ring, no_divisors, forms_in_k, some_gosper}
use Rattle.pole_laws.proofs.NormalPolynomials.{in_k, shift_by, list_in, same_polynomials, shift_at, value_of, forms_alone, without_product, above, below, of_q, of_r, of_chains, of_next}

pub sides_in : (g : Polynomial (level 1)) (tops : List (Polynomial (level 1)))
    → meanings (level 1) (map (in_k.product g) tops) ≡ map ((level 2).ops.product g.0) (meanings (level 1) tops)
sides_in g [] = refl
sides_in g (p ∷ tops) = ap (λ t. (level 2).ops.product g.0 p.0 ∷ t) (sides_in g tops)

module _ (normal : Normal) (q0 r0 : FactorList) (is : IsNormalFormOf normal q0 r0) (sorted_q : IsSorted q0.factors) (sorted_r : IsSorted r0.factors)
    (tops : List (Polynomial (level 1))) (y : Polynomial (level 1)) (v : Vector (level 1))
    (solves : KeyEquation (level 1).ops (list_polynomial normal.q) (list_polynomial normal.r) (sides_of normal (meanings (level 1) tops)) y.0 (meant (level 1) v)) where
  abbrev tops_sum : Polynomial (level 1)
  tops_sum = combination_in (level 1) (level_laws 1) v tops

  -- the equation with g taken out
  by_g : difference_in (level 1) (level_laws 1) (list_in normal.q) (shift_by (negsuc 0) (list_in normal.r)) y ≡ in_k.product (list_in normal.g) tops_sum
  by_g =
      same_passing (level 2) (difference_in (level 1) (level_laws 1) (list_in normal.q) (shift_by (negsuc 0) (list_in normal.r)) y)
      (combination_in (level 1) (level_laws 1) v (map (in_k.product (list_in normal.g)) tops))
      (solves ∙ sym (combination_is (level 1) (level_laws 1) v (map (in_k.product (list_in normal.g)) tops)
      ∙ ap (combination (level 1).ops (meant (level 1) v)) (sides_in (list_in normal.g) tops)))
      ∙ combination_times (level 1) (level_laws 1) v (list_in normal.g) tops

  -- where Y and the product of the chains are multiples of one polynomial, what is left of them meets the identity
  pub by_common : (u d x : Polynomial (level 1)) → y ≡ in_k.product u x → list_in normal.poles ≡ in_k.product d x → ¬ (x ≡ in_k.nought)
      → CertificateIdentity (level 1).ops (list_polynomial q0) (list_polynomial r0) (meanings (level 1) tops) u.0 (meant (level 1) v) d.0
  by_common u d x of_y of_poles some =
      ap (λ (t : Polynomial (level 1)). t.0)
      (poles_left (level 1) (level_laws 1) (list_in normal.q) (shift_by (negsuc 0) (list_in normal.r)) (list_in q0) (shift_by (negsuc 0) (list_in r0))
      (above normal q0 r0 is) (below normal q0 r0 is) (list_in normal.g) (list_in normal.poles)
      (of_q normal q0 r0 is sorted_q) (of_r normal q0 r0 is sorted_r) (of_chains normal q0 r0 is) (of_next normal q0 r0 is) y tops_sum by_g
      in_n_domain u d x of_y of_poles some)
      ∙ ap (λ t. (level 2).ops.product t (in_k.product d (shift_by (pos 1) d)).0) (combination_is (level 1) (level_laws 1) v tops)

  -- where Y isn't zero: over the poles from which the forms went that were divided out of Y
  pub some_y : ¬ (y.0 ≡ (level 2).ops.nought) → (poles : FactorList) (left : Polynomial (level 1)) (gone : List Factor)
      → IsCancelled normal.poles poles y.0 left.0 gone
      → CertificateIdentity (level 1).ops (list_polynomial q0) (list_polynomial r0) (meanings (level 1) tops) left.0 (meant (level 1) v)
      (list_polynomial poles)
  some_y some poles left gone cancelled =
      by_common left (list_in poles) x of_y
      (without_product poles normal.poles gone is.poles.sorted cancelled.of_poles)
      (λ z. some (ap (λ (t : Polynomial (level 1)). t.0) (of_y ∙ ap (in_k.product left) z ∙ product_nought in_k in_k_ring left)))
    where
      x : Polynomial (level 1)
      x = list_in (of_forms gone)

      of_y : y ≡ in_k.product left (list_in (of_forms gone))
      of_y = same_passing (level 2) y (in_k.product left (list_in (of_forms gone))) cancelled.of_y

  of_g : list_in normal.g ≡ forms_in_k (gosper_forms normal.matches)
  of_g =
      same_polynomials (list_in normal.g) (forms_in_k (gosper_forms normal.matches))
      (λ p. value_of normal.g p ∙ g_value p normal q0 r0 is ∙ sym (forms_alone (gosper_forms normal.matches) p))

  some_g : ¬ (list_in q0 ≡ in_k.nought) → ¬ (list_in normal.g ≡ in_k.nought)
  some_g some z =
      some_gosper normal.matches
      (λ w. some (of_q normal q0 r0 is sorted_q ∙ ap (in_k.product (list_in normal.q)) w ∙ product_nought in_k in_k_ring (list_in normal.q)))
      (sym of_g ∙ z)

  -- zero at k+w is zero
  shifted_zero : (w : ℤ) → shift_by w in_k.nought ≡ in_k.nought
  shifted_zero w =
      same_polynomials (shift_by w in_k.nought) in_k.nought
      (λ p. shift_at w in_k.nought p ∙ (value_at_keeps (values (later_k p w))).nought ∙ sym (value_at_keeps (values p)).nought)

  no_difference : (a b : Polynomial (level 1)) → in_k.sum (in_k.product a in_k.nought) (in_k.neg (in_k.product b in_k.nought)) ≡ in_k.nought
  no_difference a b =
      cc (product_nought in_k in_k_ring a, product_nought in_k in_k_ring b, neg_nought in_k in_k_ring, in_k_ring.nought_sum in_k.nought)

  -- where Y is zero: over no poles
  pub no_y : y.0 ≡ (level 2).ops.nought → ¬ (list_polynomial q0 ≡ (level 2).ops.nought)
      → CertificateIdentity (level 1).ops (list_polynomial q0) (list_polynomial r0) (meanings (level 1) tops) (level 2).ops.nought (meant (level 1) v)
      (list_polynomial (of_forms []))
  no_y is_none not_none =
      ap (λ (t : Polynomial (level 1)). t.0) (left_none ∙ sym right_none)
      ∙ ap (λ t. (level 2).ops.product t (in_k.product d (shift_by (pos 1) d)).0) (combination_is (level 1) (level_laws 1) v tops)
    where
      none : y ≡ in_k.nought
      none = same_passing (level 2) y in_k.nought is_none

      some : ¬ (list_in q0 ≡ in_k.nought)
      some e = not_none (ap (λ (t : Polynomial (level 1)). t.0) e)

      d : Polynomial (level 1)
      d = list_in (of_forms [])

      no_tops : tops_sum ≡ in_k.nought
      no_tops =
          ⊎_elim (λ z. absurd (some_g some z)) (λ z. z)
          (no_divisors (list_in normal.g) tops_sum (sym by_g
          ∙ ap (difference_in (level 1) (level_laws 1) (list_in normal.q) (shift_by (negsuc 0) (list_in normal.r))) none
          ∙ ap (λ t. in_k.sum (in_k.product (list_in normal.q) t) (in_k.neg (in_k.product (shift_by (negsuc 0) (list_in normal.r)) in_k.nought)))
          (shifted_zero (pos 1))
          ∙ no_difference (list_in normal.q) (shift_by (negsuc 0) (list_in normal.r))))

      left_none : in_k.sum (in_k.product (list_in q0) (in_k.product (shift_by (pos 1) in_k.nought) (list_in (of_forms []))))
          (in_k.neg (in_k.product (shift_by (negsuc 0) (list_in r0)) (in_k.product in_k.nought (shift_by (pos 1) (list_in (of_forms [])))))) ≡ in_k.nought
      left_none = cc (
        shifted_zero (pos 1),
        nought_product in_k in_k_ring (list_in (of_forms [])),
        nought_product in_k in_k_ring (shift_by (pos 1) (list_in (of_forms []))),
        no_difference (list_in q0) (shift_by (negsuc 0) (list_in r0)),
      )

      right_none : in_k.product tops_sum (in_k.product (list_in (of_forms [])) (shift_by (pos 1) (list_in (of_forms [])))) ≡ in_k.nought
      right_none = ap (λ t. in_k.product t (in_k.product (list_in (of_forms [])) (shift_by (pos 1) (list_in (of_forms []))))) no_tops
          ∙ nought_product in_k in_k_ring (in_k.product (list_in (of_forms [])) (shift_by (pos 1) (list_in (of_forms []))))
