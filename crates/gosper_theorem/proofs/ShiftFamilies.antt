-- The shifts of a prime upwards and downwards: they don't divide one another.
use Rattle.std.specs.Prelude.{◌≡◌, ℕ, suc, ◌-◌, ◌<◌, ℤ, pos, ◌+ℤ◌, neg_ℤ}
use Rattle.std.proofs.Common.{ap, sym, ◌∙◌, subst, arith}
use Rattle.std.proofs.lemmas.Int.{ints}
use Rattle.ring_laws.specs.Algebra.{Algebra, Laws}
use Rattle.ring_laws.specs.Division.{DomainLaws}
use Rattle.division_laws.specs.Polynomials.{Polynomial}
use Rattle.division_laws.specs.Divisors.{Divides, IsPrime}
use Rattle.division_laws.proofs.Apart.{apart, apart_back}
use Rattle.gosper_theorem.proofs.Fractions.{next}
use Rattle.division_laws.proofs.Shifts.{at_later, later_twice}
use Rattle.division_laws.proofs.ShiftedDivisors.{later_prime}

module _ (a : Algebra) (l : Laws a) (d : DomainLaws a) where
  -- the shifts upwards, and downwards
  abbrev pub up : Polynomial a → ℕ → Polynomial a
  up p j = at_later a l (pos j) p

  abbrev pub down : Polynomial a → ℕ → Polynomial a
  down p j = at_later a l (neg_ℤ (pos j)) p

  steps : (x y z : ℤ) (p : Polynomial a) → x +ℤ y ≡ z → at_later a l y (at_later a l x p) ≡ at_later a l z p
  steps x y z p e = later_twice a l y x p ∙ ap (λ t. at_later a l t p) e

  up_from : (p : Polynomial a) (i j : ℕ) → i < j → at_later a l (pos (suc (j - suc i))) (up p i) ≡ up p j
  up_from p i j b = steps (pos i) (pos (suc (j - suc i))) (pos j) p (sum i j b)
    where
      sum : (i j : ℕ) → i < j → pos i +ℤ pos (suc (j - suc i)) ≡ pos j
      sum i j b = omega (arith, ints, b)

  down_from : (p : Polynomial a) (i j : ℕ) → i < j → at_later a l (pos (suc (j - suc i))) (down p j) ≡ down p i
  down_from p i j b = steps (neg_ℤ (pos j)) (pos (suc (j - suc i))) (neg_ℤ (pos i)) p (sum i j b)
    where
      sum : (i j : ℕ) → i < j → neg_ℤ (pos j) +ℤ pos (suc (j - suc i)) ≡ neg_ℤ (pos i)
      sum i j b = omega (arith, ints, b)

  pub up_next : (p : Polynomial a) (i : ℕ) → next a l d (up p i) ≡ up p (suc i)
  up_next p i = steps (pos i) (pos 1) (pos (suc i)) p (sum i)
    where
      sum : (i : ℕ) → pos i +ℤ pos 1 ≡ pos (suc i)
      sum i = omega (arith, ints)

  pub down_next : (p : Polynomial a) (j : ℕ) → next a l d (down p (suc j)) ≡ down p j
  down_next p j = steps (neg_ℤ (pos (suc j))) (pos 1) (neg_ℤ (pos j)) p (sum j)
    where
      sum : (j : ℕ) → neg_ℤ (pos (suc j)) +ℤ pos 1 ≡ neg_ℤ (pos j)
      sum j = omega (arith, ints)

  pub up_differ : (p : Polynomial a) → IsPrime a p → (i j : ℕ) → i < j → Divides a (up p j) (up p i) → ⊥
  up_differ p prime i j b h =
      let here : IsPrime a (up p i) = later_prime a l d (pos i) p prime in
      apart a l d (up p i) here.below (j - suc i) here.degree (subst (λ t. Divides a t (up p i)) (sym (up_from p i j b)) h)

  pub down_differ : (p : Polynomial a) → IsPrime a p → (i j : ℕ) → i < j → Divides a (down p j) (down p i) → ⊥
  down_differ p prime i j b h =
      let here : IsPrime a (down p j) = later_prime a l d (neg_ℤ (pos j)) p prime in
      apart_back a l d (down p j) here.below (j - suc i) here.degree (subst (Divides a (down p j)) (sym (down_from p i j b)) h)
