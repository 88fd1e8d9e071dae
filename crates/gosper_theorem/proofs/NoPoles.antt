-- Where no prime of q is one of r at the same or a later k, a fraction that solves the equation has a denominator free of k
-- (after A=B chapter 5).
use Rattle.std.specs.Prelude.{◌≡◌, ℕ, zero, suc, ◌≤◌, pos, neg_ℤ, [], ◌∷◌, refl}
use Rattle.std.proofs.Common.{ap, sym, ◌∙◌, ⊎_elim, subst, arith}
use Rattle.ring_laws.specs.Algebra.{Ops, Algebra, Laws}
use Rattle.ring_laws.specs.Division.{DomainLaws}
use Rattle.poly_laws.proofs.PolyLaws.{poly_ring}
use Rattle.poly_laws.proofs.Rings.{solvable}
use Rattle.ring_solver.specs.Rings.{CommRing}
use Rattle.ring_solver.proofs.Read.{reading, ring}
use Rattle.division_laws.specs.Polynomials.{Polynomial}
use Rattle.division_laws.proofs.Polynomials.{polynomials}
use Rattle.division_laws.specs.Divisors.{Divides, IsPrime}
use Rattle.division_laws.proofs.Chains.{has_last}
use Rattle.division_laws.proofs.Divisors.{divides_product, divides_right, divides_sum, divides_neg}
use Rattle.gosper_theorem.proofs.Fractions.{next, Solves, lower}
use Rattle.gosper_theorem.proofs.ShiftFamilies.{up, down, up_next, down_next, up_differ, down_differ}
use Rattle.division_laws.proofs.Primes.{prime_divides, has_prime}
use Rattle.division_laws.proofs.Shifts.{later_by_none}
use Rattle.division_laws.proofs.ShiftedDivisors.{later_divides, earlier_divides, later_prime}

module _ (a : Algebra) (l : Laws a) (d : DomainLaws a) where
  abbrev P : Ops (Polynomial a)
  P = polynomials a l

  abbrev R : CommRing
  R = solvable (polynomials a l) (poly_ring a l.closed l.ring)

  left_side : (x y : Polynomial a) → P.sum (P.sum x (P.neg y)) y ≡ x
  left_side x y = ring R (x ∷ y ∷ []) (search reading depth 40 fits 20000) refl

  right_side : (x y : Polynomial a) → P.sum x (P.neg (P.sum x (P.neg y))) ≡ y
  right_side x y = ring R (x ∷ y ∷ []) (search reading depth 40 fits 20000) refl

  module _ (q b s f w : Polynomial a) (m : ℕ) (h : Solves a l d q b s f w m)
      (coprime : (p : Polynomial a) → IsPrime a p → Divides a p w → Divides a p f → ⊥) where
    abbrev upper : Polynomial a
    upper = P.product q (P.product (next a l d f) w)

    abbrev under : Polynomial a
    under = P.product b (P.product f (next a l d w))

    abbrev right : Polynomial a
    right = P.product (P.product h.factor s) (P.product w (next a l d w))

    -- the shift after the last one that divides w divides q
    in_q : (t : Polynomial a) → IsPrime a t → Divides a t w → (Divides a (next a l d t) w → ⊥) → Divides a (next a l d t) q
    in_q t prime of_w not_next =
        let n : Polynomial a = next a l d t in
        let of_next : Divides a n (next a l d w) = later_divides a l d (pos 1) t w of_w in
        let sum : Divides a n (P.sum right under) =
        divides_sum a l d n right under
        (divides_right a l d n (P.product h.factor s) (P.product w (next a l d w)) (divides_right a l d n w (next a l d w) of_next))
        (divides_right a l d n b (P.product f (next a l d w)) (divides_right a l d n f (next a l d w) of_next)) in
        let all : Divides a n upper = subst (Divides a n) (ap (λ z. P.sum z under) (sym h.is) ∙ left_side upper under) sum in
        let next_prime : IsPrime a n = later_prime a l d (pos 1) t prime in
        ⊎_elim (λ z. z)
        (λ z. absurd (⊎_elim (λ u. coprime t prime of_w (earlier_divides a l d (pos 1) t f u)) not_next
        (prime_divides a l d n (next a l d f) w next_prime z)))
        (prime_divides a l d n q (P.product (next a l d f) w) next_prime all)

    -- the first one that divides w divides b
    in_b : (t : Polynomial a) → IsPrime a t → Divides a (next a l d t) w → (Divides a t w → ⊥) → IsPrime a (next a l d t)
        → Divides a (next a l d t) b
    in_b t prime of_w not_before next_prime =
        let n : Polynomial a = next a l d t in
        let sum : Divides a n (P.sum upper (P.neg right)) =
        divides_sum a l d n upper (P.neg right)
        (divides_right a l d n q (P.product (next a l d f) w) (divides_right a l d n (next a l d f) w of_w))
        (divides_neg a l d n right (divides_right a l d n (P.product h.factor s) (P.product w (next a l d w))
        (divides_product a l d n w (next a l d w) of_w))) in
        let all : Divides a n under =
        subst (Divides a n) (ap (λ z. P.sum upper (P.neg z)) (sym h.is) ∙ right_side upper under) sum in
        ⊎_elim (λ z. z)
        (λ z. absurd (⊎_elim (λ u. coprime n next_prime of_w u) (λ u. not_before (earlier_divides a l d (pos 1) t w u))
        (prime_divides a l d n f (next a l d w) next_prime z)))
        (prime_divides a l d n b (P.product f (next a l d w)) next_prime all)

    -- so a prime of w has a later shift that divides q and an earlier one that divides b
    pub prime_of_both : (p : Polynomial a) → IsPrime a p → Divides a p w
        → ((i j : ℕ) → Divides a (up a l d p (suc i)) q → Divides a (down a l d p j) b → ⊥) → ⊥
    prime_of_both p prime of_w never =
        has_last a l d (up a l d p) (λ j. later_prime a l d (pos j) p prime) (up_differ a l d p prime) w m h.of_w
        (subst (λ t. Divides a t w) (sym (later_by_none a l p)) of_w)
        (λ i last not_next.
        has_last a l d (down a l d p) (λ j. later_prime a l d (neg_ℤ (pos j)) p prime) (down_differ a l d p prime) w m h.of_w
        (subst (λ t. Divides a t w) (sym (later_by_none a l p)) of_w)
        (λ j lowest not_before.
        never i j
        (subst (λ t. Divides a t q) (up_next a l d p i)
        (in_q (up a l d p i) (later_prime a l d (pos i) p prime) last (λ u. not_next (subst (λ t. Divides a t w) (up_next a l d p i) u))))
        (subst (λ t. Divides a t b) (down_next a l d p j)
        (in_b (down a l d p (suc j)) (later_prime a l d (neg_ℤ (pos (suc j))) p prime) (subst (λ t. Divides a t w) (sym (down_next a l d p j)) lowest) not_before
        (later_prime a l d (pos 1) (down a l d p (suc j)) (later_prime a l d (neg_ℤ (pos (suc j))) p prime))))))

  -- where that can't be, there is no fraction but with a denominator free of k
  module _ (q b s : Polynomial a)
      (no_common : (p : Polynomial a) → IsPrime a p → (i j : ℕ) → Divides a (up a l d p (suc i)) q → Divides a (down a l d p j) b → ⊥)
      (no_free : (f w : Polynomial a) → Solves a l d q b s f w 0 → ⊥) where
    pub no_fraction : (n : ℕ) (f w : Polynomial a) (m : ℕ) → m ≤ n → Solves a l d q b s f w m → ⊥
    no_fraction n f w zero c h = no_free f w h
    no_fraction zero f w (suc m) c h = absurd (omega (arith, c))
    no_fraction (suc n) f w (suc m) c h =
        has_prime a l d w m h.of_w
        (λ p prime of_w. prime_of_both q b s f w (suc m) h
        (λ t t_prime t_w t_f.
        let r = lower a l d q b s f w (suc m) h t t_prime t_f t_w in
        no_fraction n r.top r.bottom r.degree (omega (arith, c, r.below)) r.solves)
        p prime of_w (no_common p prime))
