-- Degrees, divisors and primes at k+w are those at k.
use Rattle.std.specs.Prelude.{ℕ, suc, ℤ, neg_ℤ}
use Rattle.std.proofs.Common.{ap, sym, ◌∙◌, subst}
use Rattle.ring_laws.specs.Algebra.{Ops, Algebra, Passing, within, Laws, same_passing}
use Rattle.ring_laws.specs.Division.{DomainLaws}
use Rattle.poly_laws.specs.PolyAlgebra.{poly_algebra}
use Rattle.division_laws.specs.Polynomials.{Polynomial}
use Rattle.division_laws.proofs.Polynomials.{polynomials, list_of, shifted_at}
use Rattle.poly_laws.proofs.ShiftedTops.{shifted_ends, shifted_top}
use Rattle.division_laws.specs.Divisors.{HasDegree, Divides, IsPrime}
use Rattle.division_laws.proofs.Degrees.{ends, lead_some, degree_by}
use Rattle.division_laws.proofs.Shifts.{at_later, later_product, forth_and_back, back_and_forth}
use Rattle.division_laws.proofs.Divisors.{equation, divides_by}

module _ (a : Algebra) (l : Laws a) (d : DomainLaws a) where
  abbrev base : Ops (Passing a)
  base = within a l.closed

  abbrev P : Ops (Polynomial a)
  P = polynomials a l

  pub later_degree : (w : ℤ) (f : Polynomial a) (m : ℕ) → HasDegree a f m → HasDegree a (at_later a l w f) m
  later_degree w f m h =
      degree_by a l d (at_later a l w f) m
      (λ e. lead_some a l d f m h (sym (shifted_top base l.ring (base.whole w) (list_of a l f) m (ends a l d f m h)) ∙ sym (shifted_at a l w f m) ∙ e))
      (λ i b. shifted_at a l w f i ∙ shifted_ends base l.ring (base.whole w) (list_of a l f) m (ends a l d f m h) i b)

  pub later_divides : (w : ℤ) (p f : Polynomial a) → Divides a p f → Divides a (at_later a l w p) (at_later a l w f)
  later_divides w p f h =
      divides_by a l d (at_later a l w p) (at_later a l w f) (at_later a l w h.factor) (at_later a l w h.quotient) (later_degree w h.factor 0 h.free)
      (sym (later_product a l w h.factor f) ∙ ap (at_later a l w) (equation a l d p f h) ∙ later_product a l w p h.quotient)

  -- and back
  pub earlier_divides : (w : ℤ) (p f : Polynomial a) → Divides a (at_later a l w p) (at_later a l w f) → Divides a p f
  earlier_divides w p f h =
      subst (Divides a p) (back_and_forth a l w f)
      (subst (λ t. Divides a t (at_later a l (neg_ℤ w) (at_later a l w f))) (back_and_forth a l w p) (later_divides (neg_ℤ w) (at_later a l w p) (at_later a l w f) h))

  pub later_prime : (w : ℤ) (p : Polynomial a) → IsPrime a p → IsPrime a (at_later a l w p)
  later_prime w p prime = record {
    below = prime.below;
    degree = later_degree w p (suc prime.below) prime.degree;
    minimal = λ c e h free is n of_e.
        let back : ℤ = neg_ℤ w in
        subst (λ t. HasDegree a t 0) (forth_and_back a l w h)
        (later_degree w (at_later a l back h) 0
        (prime.minimal (at_later a l back c) (at_later a l back e) (at_later a l back h) (later_degree back c 0 free)
        (ap (λ (t : Polynomial a). t.0)
        (ap (P.product (at_later a l back c)) (sym (back_and_forth a l w p)) ∙ sym (later_product a l back c (at_later a l w p))
        ∙ ap (at_later a l back) (same_passing (poly_algebra a) (P.product c (at_later a l w p)) (P.product e h) is) ∙ later_product a l back e h))
        n (later_degree back e (suc n) of_e)));
  }
