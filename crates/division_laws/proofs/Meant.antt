-- The laws of division, said of meanings.
use Rattle.std.specs.Prelude.{◌≡◌, ℕ, ℤ, ◌+◌, ◌⊎◌, length}
use Rattle.std.proofs.Common.{ap, sym, subst}
use Rattle.ring_laws.specs.Algebra.{Ops, Algebra, Laws, same_passing, within}
use Rattle.ring_laws.specs.Division.{DomainLaws}
use Rattle.poly_laws.specs.PolyAlgebra.{poly_ops, poly_algebra}
use Rattle.poly_laws.specs.Shift.{poly_shift}
use Rattle.poly_laws.proofs.Trimming.{beyond}
use Rattle.division_laws.specs.Polynomials.{Polynomial}
use Rattle.division_laws.specs.Divisors.{HasDegree, Divides, IsPrime}
use Rattle.division_laws.specs.Division.{Remainder, CommonDivisor}
use Rattle.division_laws.proofs.Polynomials.{polynomials, list_of, nought_part}
use Rattle.division_laws.proofs.Degrees.{product_degree}
use Rattle.division_laws.proofs.PseudoDivision.{divided}
use Rattle.division_laws.proofs.CommonDivisors.{common_of}
use Rattle.division_laws.proofs.Primes.{prime_divides}
use Rattle.division_laws.proofs.Shifts.{at_later}
use Rattle.division_laws.proofs.ShiftedDivisors.{later_degree}

module _ (a : Algebra) (l : Laws a) (d : DomainLaws a) where
  abbrev P : Ops (Polynomial a)
  P = polynomials a l

  meaning : (x y : Polynomial a) → x ≡ y → x.0 ≡ y.0
  meaning x y e = ap (λ (t : Polynomial a). t.0) e

  pub product_has : (f g h : Polynomial a) (m e : ℕ) → HasDegree a f m → HasDegree a g e → h.0 ≡ (poly_ops a.ops).product f.0 g.0 → HasDegree a h (m + e)
  product_has f g h m e of_f of_g is =
      subst (λ t. HasDegree a t (m + e)) (sym (same_passing (poly_algebra a) h (P.product f g) is)) (product_degree a l d f g m e of_f of_g)

  pub shift_has : (f h : Polynomial a) (w : ℤ) (m : ℕ) → HasDegree a f m → h.0 ≡ poly_shift a.ops w f.0 → HasDegree a h m
  shift_has f h w m of_f is =
      subst (λ t. HasDegree a t m) (sym (same_passing (poly_algebra a) h (at_later a l w f) is)) (later_degree a l d w f m of_f)

  pub remainder : (f g : Polynomial a) (m : ℕ) → HasDegree a g m → Remainder a f g m
  remainder f g m of_g =
      let r = divided a l d (length (list_of a l f)) f g m of_g (λ i b. beyond (within a l.closed) (list_of a l f) i b) in
      record {
        factor = r.factor;
        free = r.free;
        quotient = r.quotient;
        rest = r.rest;
        is = meaning (P.product r.factor f) (P.sum (P.product r.quotient g) r.rest) r.is;
        below = λ i b. nought_part a l r.rest i (r.below i b);
      }

  pub common : (f g : Polynomial a) → ¬ (f.0 ≡ (poly_ops a.ops).nought) → CommonDivisor a f g
  common f g some =
      let c = common_of a l d f g (λ e. some (meaning f P.nought e)) in
      record {
        divisor = c.divisor;
        left = c.left;
        right = c.right;
        is = meaning c.divisor (P.sum (P.product c.left f) (P.product c.right g)) c.is;
        of_first = c.of_f;
        of_second = c.of_g;
        some = λ e. c.some (same_passing (poly_algebra a) c.divisor P.nought e);
      }

  pub prime_of_product : (p f g h : Polynomial a) → IsPrime a p → h.0 ≡ (poly_ops a.ops).product f.0 g.0 → Divides a p h → Divides a p f ⊎ Divides a p g
  prime_of_product p f g h prime is of_h =
      prime_divides a l d p f g prime (subst (Divides a p) (same_passing (poly_algebra a) h (P.product f g) is) of_h)
