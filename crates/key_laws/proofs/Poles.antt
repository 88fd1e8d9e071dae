-- What the poles of a solution are: from q0 = q*A, r0(k-1) = b*B, the chains C = g*B with C(k+1) = A*g, and Y for the sides g*p_j, where
-- Y = U*X and C = D*X, follows q0(k) U(k+1) D(k) - r0(k-1) U(k) D(k+1) = (a_0 p_0 + a_1 p_1 + ..) D(k) D(k+1).
use Rattle.std.specs.Prelude.{◌≡◌, suc, pos, List, [], ◌∷◌, map, refl}
use Rattle.std.proofs.Common.{ap, sym, ◌∙◌, ⊎_elim}
use Rattle.ring_laws.specs.Algebra.{Ops, Algebra, Passing, within, Laws}
use Rattle.ring_laws.specs.Division.{DomainLaws}
use Rattle.poly_laws.specs.PolyAlgebra.{poly_algebra}
use Rattle.poly_laws.proofs.Coefficients.{poly_closed}
use Rattle.poly_laws.proofs.ListLaws.{product_nought}
use Rattle.poly_laws.proofs.PolyDomain.{no_divisors_within, poly_domain}
use Rattle.poly_laws.proofs.PolyLaws.{poly_ring}
use Rattle.poly_laws.proofs.OneQuotient.{NoDivisors, cancelled}
use Rattle.kernel_laws.specs.Answers.{Vector}
use Rattle.poly_laws.proofs.Rings.{solvable}
use Rattle.ring_solver.specs.Rings.{CommRing}
use Rattle.ring_solver.proofs.Read.{reading, ring}
use Rattle.division_laws.proofs.Shifts.{later_product, later_nought}
use Rattle.division_laws.proofs.Polynomials.{polynomials, shifted_in, constant_in}
use Rattle.key_laws.proofs.Polynomials.{difference_in, combination_in}

module _ (a : Algebra) (l : Laws a) where
  abbrev base : Ops (Passing a)
  base = within a l.closed

  abbrev P : Ops (Passing (poly_algebra a))
  P = polynomials a l

  abbrev R : CommRing
  R = solvable (polynomials a l) (poly_ring a l.closed l.ring)

  abbrev next : Passing (poly_algebra a) → Passing (poly_algebra a)
  next y = shifted_in a l (pos 1) y

  by_side : (c g s r : Passing (poly_algebra a)) → P.sum (P.product c (P.product g s)) (P.product g r) ≡ P.product g (P.sum (P.product c s) r)
  by_side c g s r = ring R (c ∷ g ∷ s ∷ r ∷ []) (search reading depth 40 fits 20000) refl

  -- g comes out of a combination of multiples of g
  pub combination_times : (v : Vector a) (g : Passing (poly_algebra a)) (ss : List (Passing (poly_algebra a)))
      → combination_in a l v (map (P.product g) ss) ≡ P.product g (combination_in a l v ss)
  combination_times v g [] = sym (product_nought P (poly_ring a l.closed l.ring) g)
  combination_times v g (s ∷ ss) =
      ap (P.sum (P.product (constant_in a l (v 0)) (P.product g s))) (combination_times (λ j. v (suc j)) g ss)
      ∙ by_side (constant_in a l (v 0)) g s (combination_in a l (λ j. v (suc j)) ss)

  -- with all chains as poles
  over_chains : (q A y' g B b y : Passing (poly_algebra a))
      → P.sum (P.product (P.product q A) (P.product y' (P.product g B))) (P.neg (P.product (P.product b B) (P.product y (P.product A g))))
      ≡ P.product (P.product A (P.product g B)) (P.sum (P.product q y') (P.neg (P.product b y)))
  over_chains q A y' g B b y = ring R (q ∷ A ∷ y' ∷ g ∷ B ∷ b ∷ y ∷ []) (search reading depth 40 fits 20000) refl

  regrouped : (A g B s : Passing (poly_algebra a))
      → P.product (P.product A (P.product g B)) (P.product g s) ≡ P.product s (P.product (P.product g B) (P.product A g))
  regrouped A g B s = ring R (A ∷ g ∷ B ∷ s ∷ []) (search reading depth 40 fits 20000) refl

  left_over : (q0 u' x' d x r0 u d' : Passing (poly_algebra a))
      → P.sum (P.product q0 (P.product (P.product u' x') (P.product d x))) (P.neg (P.product r0 (P.product (P.product u x) (P.product d' x'))))
      ≡ P.product (P.sum (P.product q0 (P.product u' d)) (P.neg (P.product r0 (P.product u d')))) (P.product x x')
  left_over q0 u' x' d x r0 u d' = ring R (q0 ∷ u' ∷ x' ∷ d ∷ x ∷ r0 ∷ u ∷ d' ∷ []) (search reading depth 40 fits 20000) refl

  right_over : (s d x d' x' : Passing (poly_algebra a))
      → P.product s (P.product (P.product d x) (P.product d' x')) ≡ P.product (P.product s (P.product d d')) (P.product x x')
  right_over s d x d' x' = ring R (s ∷ d ∷ x ∷ d' ∷ x' ∷ []) (search reading depth 40 fits 20000) refl

  module _ (q b q0 r0 A B g C : Passing (poly_algebra a)) (of_q : q0 ≡ P.product q A) (of_r : r0 ≡ P.product b B) (of_chains : C ≡ P.product g B)
      (of_next : shifted_in a l (pos 1) C ≡ P.product A g) (y s : Passing (poly_algebra a))
      (solves : difference_in a l q b y ≡ P.product g s) where
    -- the identity over all chains
    chained : P.sum (P.product q0 (P.product (next y) C)) (P.neg (P.product r0 (P.product y (next C)))) ≡ P.product s (P.product C (next C))
    chained = cc (
      of_q,
      of_r,
      of_chains,
      of_next,
      over_chains q A (next y) g B b y,
      solves,
      regrouped A g B s,
    )

    module _ (d : DomainLaws a) (u D X : Passing (poly_algebra a)) (of_y : y ≡ P.product u X) (of_poles : C ≡ P.product D X) (some : ¬ (X ≡ P.nought)) where
      over : P.product (P.sum (P.product q0 (P.product (next u) D)) (P.neg (P.product r0 (P.product u (next D))))) (P.product X (next X))
          ≡ P.product (P.product s (P.product D (next D))) (P.product X (next X))
      over = cc (
        chained,
        of_y,
        of_poles,
        later_product a l (pos 1) u X,
        later_product a l (pos 1) D X,
        left_over q0 (next u) (next X) D X r0 u (next D),
        right_over s D X (next D) (next X),
      )

      -- and over the poles that are left
      pub poles_left : P.sum (P.product q0 (P.product (shifted_in a l (pos 1) u) D)) (P.neg (P.product r0 (P.product u (shifted_in a l (pos 1) D))))
          ≡ P.product s (P.product D (shifted_in a l (pos 1) D))
      poles_left =
          cancelled P (poly_ring a l.closed l.ring) no_divisors
          (P.sum (P.product q0 (P.product (next u) D)) (P.neg (P.product r0 (P.product u (next D)))))
          (P.product s (P.product D (next D)))
          (P.product X (next X)) (λ e. ⊎_elim some (λ z. some (later_nought a l (pos 1) X z)) (no_divisors X (next X) e)) over
        where
          no_divisors : NoDivisors P
          no_divisors = no_divisors_within (poly_algebra a) (poly_closed a l.closed) (poly_domain a l d)
