-- To have the same quotient is an equivalence of the solutions whose quotient has a bottom that isn't zero.
use Rattle.std.proofs.Common.{◌≡◌, [], ◌∷◌, refl, ap, sym, ⊎_elim}
use Rattle.ring_solver.specs.Rings.{CommRing}
use Rattle.ring_solver.proofs.Read.{reading, ring}
use Rattle.ring_solver.proofs.Linear.{from_all, by}
use Rattle.ring_laws.specs.Meaning.{Meaning}
use Rattle.ring_laws.specs.Algebra.{Ops, RingLaws, Passing, within, same_passing}
use Rattle.ring_laws.specs.WholeLaws.{whole_laws}
use Rattle.ring_laws.specs.WholeDomain.{whole_domain}
use Rattle.poly_laws.specs.Values.{level}
use Rattle.poly_laws.proofs.Equal.{level_laws}
use Rattle.poly_laws.proofs.OneQuotient.{NoDivisors, equal_by}
use Rattle.poly_laws.proofs.PolyDomain.{no_divisors_within, poly_domain}
use Rattle.poly_laws.proofs.Rings.{solvable, read_nought}
use Rattle.hyper_laws.specs.PolynomialSolutions.{later}
use Rattle.hyper_laws.specs.Cases.{Case}
use Rattle.hyper_laws.specs.Quotients.{quotient_top, quotient_bottom, SameQuotient, HasQuotient}
use Rattle.hyper_laws.proofs.Equations.{product_passes}

module _ {A : Type 0} (o : Ops A) (l : RingLaws o) (d : NoDivisors o) where
  abbrev R : CommRing
  R = solvable o l

  times_zero : (t b u c v e : A) → o.product t c ≡ o.product u b → o.product u e ≡ o.product v c
      → o.product c (o.sum (o.product t e) (o.neg (o.product v b))) ≡ o.nought
  times_zero t b u c v e h i =
      from_all R (by R e h ∷ by R b i ∷ [])
      (ring R (t ∷ b ∷ u ∷ c ∷ v ∷ e ∷ []) (search (reading, read_nought o l) depth 40 fits 20000) refl)

  -- fractions by cross-multiplying, the middle one with a bottom that isn't zero
  pub crosses_join : (t b u c v e : A) → ¬ (c ≡ o.nought) → o.product t c ≡ o.product u b → o.product u e ≡ o.product v c
      → o.product t e ≡ o.product v b
  crosses_join t b u c v e n h i =
      ⊎_elim (λ z. absurd (n z)) (λ z. equal_by o l (o.product t e) (o.product v b) z)
      (d c (o.sum (o.product t e) (o.neg (o.product v b))) (times_zero t b u c v e h i))

abbrev W : Ops (Passing (level 1))
W = within (level 1) (level_laws 1).closed

polynomials_without_divisors : NoDivisors W
polynomials_without_divisors = no_divisors_within (level 1) (level_laws 1).closed (poly_domain (level 0) whole_laws whole_domain)

abbrev top_of : Case → Meaning → Passing (level 1)
top_of k c = (quotient_top k c, product_passes ((level 1).ops.whole k.z.top) ((level 1).ops.product k.a (later 1 c)))

abbrev bottom_of : Case → Meaning → Passing (level 1)
bottom_of k c = (quotient_bottom k c, product_passes ((level 1).ops.whole k.z.bottom) ((level 1).ops.product k.b c))

raised : (x y z w : Passing (level 1)) → (level 1).ops.product x.0 y.0 ≡ (level 1).ops.product z.0 w.0 → W.product x y ≡ W.product z w
raised x y z w e = same_passing (level 1) (W.product x y) (W.product z w) e

pub same_itself : (k : Case) (c : Meaning) → SameQuotient k c k c
same_itself k c = refl

pub same_symmetric : (k l : Case) (c d : Meaning) → SameQuotient k c l d → SameQuotient l d k c
same_symmetric k l c d h = sym h

pub same_chain : (k l m : Case) (c d e : Meaning) → HasQuotient l d → SameQuotient k c l d → SameQuotient l d m e → SameQuotient k c m e
same_chain k l m c d e n h i =
    ap (λ (x : Passing (level 1)). x.0)
    (crosses_join W (level_laws 1).ring polynomials_without_divisors (top_of k c) (bottom_of k c)
    (top_of l d) (bottom_of l d) (top_of m e) (bottom_of m e)
    (λ z. n (ap (λ (x : Passing (level 1)). x.0) z))
    (raised (top_of k c) (bottom_of l d) (top_of l d) (bottom_of k c) h)
    (raised (top_of l d) (bottom_of m e) (top_of m e) (bottom_of l d) i))
