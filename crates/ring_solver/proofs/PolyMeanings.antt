-- Why the operations on polynomials mean what they are named for, in any ring.
use Prim.Native.Nat.{ℕ, zero, suc, compare, Ordering}
use native.Mathlib.Omega.{compare-eq}
use mathlib.Core.Path.{◌≡◌, refl, sym, ◌∙◌, ap}
use mathlib.Core.List.{[], ◌∷◌}
use lib.IntN.{ℤ, pos, negsuc, ◌+ℤ◌, ◌*ℤ◌}
use Rattle.ring_solver.specs.Rings.{CommRing, power}
use Rattle.ring_solver.proofs.Ring.{add_left_comm, mul_left_comm, zero_add, one_mul, distrib_right, mul_zero, zero_mul, power_add}
use Rattle.ring_solver.proofs.Poly.{Monomial, Poly, nil, term, order, times, join, place, plus, scale, product, raise, monomial, meaning}

-- monomials that compare as equal are equal: all that the solver asks of the order
order-eq : (m n : Monomial) → order m n ≡ Ordering.eq → m ≡ n
order-eq [] [] e = refl
order-eq [] (f ∷ n) e = cc
order-eq (x ∷ m) [] e = cc
order-eq (x ∷ m) (f ∷ n) e = by_first (order-eq m n) (compare x f) refl e
  where
    by_first : (order m n ≡ Ordering.eq → m ≡ n) → (o : Ordering) → compare x f ≡ o
        → elim o as (λ (o : Ordering). Ordering) [ Ordering.lt ↦ Ordering.lt | Ordering.eq ↦ order m n | Ordering.gt ↦ Ordering.gt ]
        ≡ Ordering.eq → x ∷ m ≡ f ∷ n
    by_first k Ordering.lt p h = cc
    by_first k Ordering.eq p h =
        let r : x ≡ f = compare-eq x f p in
        let i : m ≡ n = k h in cc
    by_first k Ordering.gt p h = cc

module _ (R : CommRing) where
  -- a product of monomials means the product
  pub times_means : (env : ℕ → R.carrier) (m n : Monomial) → monomial R env (times m n) ≡ R.mul (monomial R env m) (monomial R env n)
  times_means env [] n = sym (one_mul R (monomial R env n))
  times_means env (e ∷ m) [] = sym (R.mul_one (monomial R env (e ∷ m)))
  times_means env (e ∷ m) (f ∷ n) =
      ap (λ x. R.mul x (monomial R (λ (i : ℕ). env (suc i)) (times m n))) (power_add R (env 0) e f)
      ∙ ap (λ x. R.mul (R.mul (power R (env 0) e) (power R (env 0) f)) x) (times_means (λ (i : ℕ). env (suc i)) m n)
      ∙ simp (R.mul_assoc, R.mul_comm)

  -- a term put in front is added
  pub join_means : (env : ℕ → R.carrier) (c : ℤ) (m : Monomial) (p : Poly)
      → meaning R env (join c m p) ≡ R.add (R.mul (R.int c) (monomial R env m)) (meaning R env p)
  join_means env (pos zero) m p = sym (ap (λ x. R.add x (meaning R env p)) (zero_mul R (monomial R env m)) ∙ zero_add R (meaning R env p))
  join_means env (pos (suc c)) m p = refl
  join_means env (negsuc c) m p = refl

  -- two terms with one monomial are one term
  gather : (c d : ℤ) (x s q : R.carrier)
      → R.add (R.mul (R.int (c +ℤ d)) x) (R.add s q) ≡ R.add (R.add (R.mul (R.int c) x) s) (R.add (R.mul (R.int d) x) q)
  gather c d x s q =
      ap (λ y. R.add (R.mul y x) (R.add s q)) (R.int_add c d)
      ∙ ap (λ y. R.add y (R.add s q)) (distrib_right R (R.int c) (R.int d) x)
      ∙ simp (R.add_assoc, R.add_comm, add_left_comm R)

  -- a placed term is added, where `rest` means to add p
  pub place_means : (env : ℕ → R.carrier) (c : ℤ) (m : Monomial) (p : Poly) (rest : Poly → Poly)
      → ((q : Poly) → meaning R env (rest q) ≡ R.add (meaning R env p) (meaning R env q)) → (q : Poly)
      → meaning R env (place c m p rest q) ≡ R.add (R.add (R.mul (R.int c) (monomial R env m)) (meaning R env p)) (meaning R env q)
  place_means env c m p rest k nil = sym (R.add_zero (R.add (R.mul (R.int c) (monomial R env m)) (meaning R env p)))
  place_means env c m p rest k (term d n q) = by_order (place_means env c m p rest k q) (order m n) refl
    where
      by_order : meaning R env (place c m p rest q) ≡ R.add (R.add (R.mul (R.int c) (monomial R env m)) (meaning R env p)) (meaning R env q)
          → (o : Ordering) → order m n ≡ o
          → meaning R env (elim o as (λ (o : Ordering). Poly) [
            | Ordering.lt ↦ term d n (place c m p rest q)
            | Ordering.eq ↦ join (c +ℤ d) m (rest q)
            | Ordering.gt ↦ term c m (rest (term d n q))
          ])
          ≡ R.add (R.add (R.mul (R.int c) (monomial R env m)) (meaning R env p)) (R.add (R.mul (R.int d) (monomial R env n)) (meaning R env q))
      by_order h Ordering.lt e =
          ap (λ x. R.add (R.mul (R.int d) (monomial R env n)) x) h
          ∙ add_left_comm R (R.mul (R.int d) (monomial R env n)) (R.add (R.mul (R.int c) (monomial R env m)) (meaning R env p)) (meaning R env q)
      by_order h Ordering.eq e =
          join_means env (c +ℤ d) m (rest q)
          ∙ ap (λ x. R.add (R.mul (R.int (c +ℤ d)) (monomial R env m)) x) (k q)
          ∙ gather c d (monomial R env m) (meaning R env p) (meaning R env q)
          ∙ ap (λ (x : Monomial). R.add (R.add (R.mul (R.int c) (monomial R env m)) (meaning R env p))
          (R.add (R.mul (R.int d) (monomial R env x)) (meaning R env q))) (order-eq m n e)
      by_order h Ordering.gt e =
          ap (λ x. R.add (R.mul (R.int c) (monomial R env m)) x) (k (term d n q))
          ∙ sym (R.add_assoc (R.mul (R.int c) (monomial R env m)) (meaning R env p) (R.add (R.mul (R.int d) (monomial R env n)) (meaning R env q)))

  -- a sum means the sum
  pub plus_means : (env : ℕ → R.carrier) (p q : Poly) → meaning R env (plus p q) ≡ R.add (meaning R env p) (meaning R env q)
  plus_means env nil q = sym (zero_add R (meaning R env q))
  plus_means env (term c m p) q = place_means env c m p (plus p) (plus_means env p) q

  -- a term times a polynomial means the product
  pub scale_means : (env : ℕ → R.carrier) (c : ℤ) (m : Monomial) (p : Poly)
      → meaning R env (scale c m p) ≡ R.mul (R.mul (R.int c) (monomial R env m)) (meaning R env p)
  scale_means env c m nil = sym (mul_zero R (R.mul (R.int c) (monomial R env m)))
  scale_means env c m (term d n p) =
      ap (λ x. R.add (R.mul (R.int (c *ℤ d)) (monomial R env (times m n))) x) (scale_means env c m p)
      ∙ ap (λ x. R.add x (R.mul (R.mul (R.int c) (monomial R env m)) (meaning R env p)))
      (part (R.int c) (R.int d) (monomial R env m) (monomial R env n) (R.int_mul c d) (times_means env m n))
      ∙ sym (R.distrib (R.mul (R.int c) (monomial R env m)) (R.mul (R.int d) (monomial R env n)) (meaning R env p))
    where
      part : (x y u v : R.carrier) → R.int (c *ℤ d) ≡ R.mul x y → monomial R env (times m n) ≡ R.mul u v
          → R.mul (R.int (c *ℤ d)) (monomial R env (times m n)) ≡ R.mul (R.mul x u) (R.mul y v)
      part x y u v e f =
          ap (λ z. R.mul z (monomial R env (times m n))) e ∙ ap (λ z. R.mul (R.mul x y) z) f
          ∙ simp (R.mul_assoc, mul_left_comm R)

  -- a product means the product
  pub product_means : (env : ℕ → R.carrier) (p q : Poly) → meaning R env (product p q) ≡ R.mul (meaning R env p) (meaning R env q)
  product_means env nil q = sym (zero_mul R (meaning R env q))
  product_means env (term c m p) q =
      plus_means env (scale c m q) (product p q)
      ∙ ap (λ x. R.add x (meaning R env (product p q))) (scale_means env c m q)
      ∙ ap (λ x. R.add (R.mul (R.mul (R.int c) (monomial R env m)) (meaning R env q)) x) (product_means env p q)
      ∙ sym (distrib_right R (R.mul (R.int c) (monomial R env m)) (meaning R env p) (meaning R env q))

  -- a power means the power
  pub raise_means : (env : ℕ → R.carrier) (p : Poly) (n : ℕ) → meaning R env (raise p n) ≡ power R (meaning R env p) n
  raise_means env p zero = R.add_zero (R.mul (R.int (pos 1)) (R.int (pos 1))) ∙ R.mul_one (R.int (pos 1))
  raise_means env p (suc zero) = refl
  raise_means env p (suc (suc n)) = product_means env p (raise p (suc n)) ∙ ap (R.mul (meaning R env p)) (raise_means env p (suc n))
