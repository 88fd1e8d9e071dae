-- A solution over a ring of forms, without the poles that divide it, meets the identity of a certificate.
use Rattle.std.specs.Prelude.{◌≡◌, pos, negsuc, List, [], ◌∷◌, map, refl}
use Rattle.std.proofs.Common.{ap, sym, ◌∙◌, ⊎_elim}
use Rattle.ring_laws.specs.Algebra.{Ops, RingLaws, Algebra, Laws, same_passing}
use Rattle.ring_laws.specs.Division.{DomainLaws}
use Rattle.poly_laws.specs.PolyAlgebra.{poly_algebra}
use Rattle.poly_laws.specs.Values.{level}
use Rattle.poly_laws.proofs.Coefficients.{poly_closed}
use Rattle.poly_laws.proofs.ListLaws.{product_nought, nought_product, neg_nought}
use Rattle.poly_laws.proofs.OneQuotient.{NoDivisors}
use Rattle.poly_laws.proofs.PolyDomain.{no_divisors_within, poly_domain}
use Rattle.poly_laws.proofs.PolyLaws.{poly_ring}
use Rattle.kernel_laws.specs.Answers.{Vector, meant}
use Rattle.kernel_laws.specs.Reduction.{bare}
use Rattle.division_laws.specs.Polynomials.{Polynomial}
use Rattle.division_laws.proofs.Polynomials.{polynomials, shifted_in}
use Rattle.division_laws.proofs.Shifts.{later_none}
use Rattle.key_laws.specs.KeyEquation.{meanings, combination, SolvesWith}
use Rattle.key_laws.specs.Certificates.{CertificateIdentity}
use Rattle.key_laws.proofs.Polynomials.{difference_in, combination_in, combination_is}
use Rattle.key_laws.proofs.Poles.{combination_times, poles_left}
use Rattle.hypergeometric.specs.LinearForm.{Factor, FactorList}
use Rattle.term_pieces.specs.NormalForm.{Normal, IsWithout}
use Rattle.pole_laws.specs.Orders.{sides_of}
use Rattle.pole_laws.proofs.FormProducts.{forms_in_k}
use Rattle.pole_laws.proofs.NormalPolynomials.{in_k, shift_by, list_in, above, below, of_q, of_r, of_chains, of_next, without_product}
use Rattle.form_rings.specs.Forms.{Forms, FormLaws}
use Rattle.key_sides.specs.Lifted.{lifted}
use Rattle.key_sides.proofs.Lifts.{lift_in, lift_product, lift_shift}
use Rattle.key_equation.specs.Polynomials.{list_over, q_over, b_over, IsNormalFor}
use Rattle.key_equation.proofs.OnlyZero.{lifted_zero}
use Rattle.key_equation.proofs.LiftedEquations.{lifts_meant}
use Rattle.key_equation.proofs.NormalParts.{g_some}

module _ (a : Algebra) (l : Laws a) (d : DomainLaws a) (forms : Forms) (fl : FormLaws a forms) where
  abbrev P : Ops (Polynomial a)
  P = polynomials a l

  ring : RingLaws (polynomials a l)
  ring = poly_ring a l.closed l.ring

  no_divisors : NoDivisors (polynomials a l)
  no_divisors = no_divisors_within (poly_algebra a) (poly_closed a l.closed) (poly_domain a l d)

  abbrev lift : Polynomial (level 1) → Polynomial a
  lift f = lift_in a l forms fl f

  -- what is a product is one over the ring
  lifts_to : (f g h : Polynomial (level 1)) → f ≡ in_k.product g h → lift f ≡ P.product (lift g) (lift h)
  lifts_to f g h e = ap (lift_in a l forms fl) e ∙ lift_product a l forms fl g h

  -- the polynomials over the ring, and their meanings
  abbrev pub lifts : List (Polynomial (level 1)) → List (Polynomial a)
  lifts tops = map (lift_in a l forms fl) tops

  sides_in : (g : Polynomial (level 1)) (tops : List (Polynomial (level 1)))
      → bare (poly_algebra a) (map (P.product (lift g)) (lifts tops)) ≡ map (lifted a forms) (map ((level 2).ops.product g.0) (meanings (level 1) tops))
  sides_in g [] = refl
  sides_in g (p ∷ tops) = λ i. (sym (lift_product a l forms fl g p) i).0 ∷ sides_in g tops i

  module _ (normal : Normal) (q0 r0 : FactorList) (is : IsNormalFor normal q0 r0) (tops : List (Polynomial (level 1))) (y : Polynomial a) (v : Vector a)
      (solves : SolvesWith a.ops (q_over a forms normal) (b_over a forms normal) (map (lifted a forms) (sides_of normal (meanings (level 1) tops)))
      y.0 (meant a v)) where
    abbrev q : Polynomial a
    q = lift (list_in normal.q)

    abbrev b : Polynomial a
    b = shifted_in a l (negsuc 0) (lift (list_in normal.r))

    abbrev g : Polynomial a
    g = lift (list_in normal.g)

    abbrev tops_sum : Polynomial a
    tops_sum = combination_in a l v (lifts tops)

    -- the equation with g taken out
    by_g : difference_in a l (lift (list_in normal.q)) (shifted_in a l (negsuc 0) (lift (list_in normal.r))) y
        ≡ P.product (lift (list_in normal.g)) (combination_in a l v (lifts tops))
    by_g =
        same_passing (poly_algebra a) (difference_in a l q b y) (combination_in a l v (map (P.product (lift (list_in normal.g))) (lifts tops)))
        (solves ∙ sym (combination_is a l v (map (P.product (lift (list_in normal.g))) (lifts tops))
        ∙ ap (combination a.ops (meant a v)) (sides_in (list_in normal.g) tops)))
        ∙ combination_times a l v (lift (list_in normal.g)) (lifts tops)

    -- r(k-1) and r0(k-1)
    over_r : shifted_in a l (negsuc 0) (lift (list_in r0)) ≡ P.product (shifted_in a l (negsuc 0) (lift (list_in normal.r))) (lift (below normal q0 r0 is.normal_form))
    over_r =
        sym (lift_shift a l forms fl (negsuc 0) (list_in r0))
        ∙ lifts_to (shift_by (negsuc 0) (list_in r0)) (shift_by (negsuc 0) (list_in normal.r)) (below normal q0 r0 is.normal_form)
        (of_r normal q0 r0 is.normal_form is.r_sorted)
        ∙ ap (λ t. P.product t (lift (below normal q0 r0 is.normal_form))) (lift_shift a l forms fl (negsuc 0) (list_in normal.r))

    over_next : shifted_in a l (pos 1) (lift (list_in normal.poles)) ≡ P.product (lift (above normal q0 r0 is.normal_form)) (lift (list_in normal.g))
    over_next =
        sym (lift_shift a l forms fl (pos 1) (list_in normal.poles))
        ∙ lifts_to (shift_by (pos 1) (list_in normal.poles)) (above normal q0 r0 is.normal_form) (list_in normal.g) (of_next normal q0 r0 is.normal_form)

    -- where Y and the product of the chains are multiples of one polynomial, what is left of them meets the identity
    by_common : (u e x : Polynomial a) → y ≡ P.product u x → lift (list_in normal.poles) ≡ P.product e x → ¬ (x ≡ P.nought)
        → CertificateIdentity a.ops (list_over a forms q0) (list_over a forms r0) (map (lifted a forms) (meanings (level 1) tops)) u.0 (meant a v) e.0
    by_common u e x of_y of_poles some =
        ap (λ (t : Polynomial a). t.0)
        (poles_left a l (lift (list_in normal.q)) (shifted_in a l (negsuc 0) (lift (list_in normal.r))) (lift (list_in q0))
        (shifted_in a l (negsuc 0) (lift (list_in r0))) (lift (above normal q0 r0 is.normal_form)) (lift (below normal q0 r0 is.normal_form))
        (lift (list_in normal.g)) (lift (list_in normal.poles))
        (lifts_to (list_in q0) (list_in normal.q) (above normal q0 r0 is.normal_form) (of_q normal q0 r0 is.normal_form is.q_sorted)) over_r
        (lifts_to (list_in normal.poles) (list_in normal.g) (below normal q0 r0 is.normal_form) (of_chains normal q0 r0 is.normal_form)) over_next
        y (combination_in a l v (lifts tops)) by_g d u e x of_y of_poles some)
        ∙ ap (λ t. (poly_algebra a).ops.product t (P.product e (shifted_in a l (pos 1) e)).0)
        (combination_is a l v (lifts tops) ∙ ap (combination a.ops (meant a v)) (lifts_meant a l forms fl tops))

    -- where Y isn't zero: over the poles from which the forms went that were divided out of Y
    pub some_y : ¬ (y.0 ≡ (poly_algebra a).ops.nought) → (poles : FactorList) (left : Polynomial a) (gone : List Factor)
        → IsWithout poles normal.poles gone → y ≡ P.product left (lift (forms_in_k gone))
        → CertificateIdentity a.ops (list_over a forms q0) (list_over a forms r0) (map (lifted a forms) (meanings (level 1) tops)) left.0 (meant a v)
        (list_over a forms poles)
    some_y some poles left gone without of_y =
        by_common left (lift (list_in poles)) (lift (forms_in_k gone)) of_y
        (lifts_to (list_in normal.poles) (list_in poles) (forms_in_k gone)
        (without_product poles normal.poles gone is.normal_form.poles.sorted without))
        (λ z. some (ap (λ (t : Polynomial a). t.0) (of_y ∙ ap (P.product left) z ∙ product_nought P ring left)))

    no_lift : (f : Polynomial (level 1)) → ¬ (f ≡ in_k.nought) → ¬ (lift f ≡ P.nought)
    no_lift f some e = some (same_passing (level 2) f in_k.nought (lifted_zero a l forms fl f (ap (λ (t : Polynomial a). t.0) e)))

    no_difference : (x z : Polynomial a) → P.sum (P.product x P.nought) (P.neg (P.product z P.nought)) ≡ P.nought
    no_difference x z = cc (product_nought P ring x, product_nought P ring z, neg_nought P ring, ring.nought_sum P.nought)

    -- where Y is zero: over any poles
    pub no_y : y.0 ≡ (poly_algebra a).ops.nought → (poles : FactorList)
        → CertificateIdentity a.ops (list_over a forms q0) (list_over a forms r0) (map (lifted a forms) (meanings (level 1) tops)) y.0 (meant a v)
        (list_over a forms poles)
    no_y is_none poles =
        ap (λ (t : Polynomial a). t.0) (left_none ∙ sym right_none)
        ∙ ap (λ t. (poly_algebra a).ops.product t (P.product (lift (list_in poles)) (shifted_in a l (pos 1) (lift (list_in poles)))).0)
        (combination_is a l v (lifts tops) ∙ ap (combination a.ops (meant a v)) (lifts_meant a l forms fl tops))
      where
        none : y ≡ P.nought
        none = same_passing (poly_algebra a) y P.nought is_none

        next_none : shifted_in a l (pos 1) y ≡ P.nought
        next_none = ap (shifted_in a l (pos 1)) none ∙ later_none a l (pos 1)

        no_tops : combination_in a l v (lifts tops) ≡ P.nought
        no_tops =
            ⊎_elim (λ z. absurd (no_lift (list_in normal.g) (g_some normal q0 r0 is) z)) (λ z. z)
            (no_divisors (lift (list_in normal.g)) (combination_in a l v (lifts tops)) (sym by_g
            ∙ (λ i. P.sum (P.product (lift (list_in normal.q)) (next_none i)) (P.neg (P.product (shifted_in a l (negsuc 0) (lift (list_in normal.r))) (none i))))
            ∙ no_difference (lift (list_in normal.q)) (shifted_in a l (negsuc 0) (lift (list_in normal.r)))))

        left_none : P.sum (P.product (lift (list_in q0)) (P.product (shifted_in a l (pos 1) y) (lift (list_in poles))))
            (P.neg (P.product (shifted_in a l (negsuc 0) (lift (list_in r0))) (P.product y (shifted_in a l (pos 1) (lift (list_in poles)))))) ≡ P.nought
        left_none = cc (
          none,
          next_none,
          nought_product P ring (lift (list_in poles)),
          nought_product P ring (shifted_in a l (pos 1) (lift (list_in poles))),
          no_difference (lift (list_in q0)) (shifted_in a l (negsuc 0) (lift (list_in r0))),
        )

        right_none : P.product (combination_in a l v (lifts tops)) (P.product (lift (list_in poles)) (shifted_in a l (pos 1) (lift (list_in poles))))
            ≡ P.nought
        right_none = ap (λ t. P.product t (P.product (lift (list_in poles)) (shifted_in a l (pos 1) (lift (list_in poles))))) no_tops
            ∙ nought_product P ring (P.product (lift (list_in poles)) (shifted_in a l (pos 1) (lift (list_in poles))))
