-- Identities that are known from elsewhere, each proved in the way that a caller takes: a wrong rule of the solver refuses one of them.
use Prim.Native.Nat.{ℕ}
use mathlib.Core.Path.{◌≡◌, refl, ap}
use mathlib.Core.List.{[], ◌∷◌}
use std.Quotient.{cls, /_rec, /_rec₂}
use lib.IntN.{ℤ, pos, ◌+ℤ◌, ◌-ℤ◌, ◌*ℤ◌}
use Rattle.ring_solver.specs.Rings.{CommRing, power}
use Rattle.ring_solver.proofs.Integers.{integers}
use Rattle.ring_solver.proofs.Solve.{var, con, ◌⊕◌, ◌⊗◌, ◌⊛◌, solve}
use Rattle.ring_solver.proofs.Read.{reading, reading_z, ring, ring_z}
use Rattle.ring_solver.proofs.Linear.{from2, from_all, by}
use Rattle.ring_solver.proofs.Guarded.{GuardedRing, Passing, passing}
use Rattle.ring_solver.proofs.Related.{classes, related}
use Rattle.ring_solver.proofs.FractionsOver.{Domain, Ratio, Equal, sum, product, ratios}

-- ---- over ℤ
-- (a + b)^2 = a^2 + 2 a b + b^2
square_of_sum : (a b : ℤ) → (a +ℤ b) *ℤ (a +ℤ b) ≡ a *ℤ a +ℤ pos 2 *ℤ a *ℤ b +ℤ b *ℤ b
square_of_sum a b = ring_z (a ∷ b ∷ []) (search reading_z depth 40 fits 20000) refl

-- (a + b) (c - d) = a c - a d + b c - b d
product_of_sum_and_difference : (a b c d : ℤ) → (a +ℤ b) *ℤ (c -ℤ d) ≡ a *ℤ c -ℤ a *ℤ d +ℤ b *ℤ c -ℤ b *ℤ d
product_of_sum_and_difference a b c d = ring_z (a ∷ b ∷ c ∷ d ∷ []) (search reading_z depth 40 fits 20000) refl

-- (a + b)^6 is the cube of the square written out
sixth_power_of_sum : (a b : ℤ) → power integers (a +ℤ b) 6 ≡ power integers (a *ℤ a +ℤ pos 2 *ℤ a *ℤ b +ℤ b *ℤ b) 3
sixth_power_of_sum a b = ring_z (a ∷ b ∷ []) (search reading_z depth 40 fits 20000) refl

-- the two expressions given by hand instead of read off the goal: (a + b)^3 = a^3 + 3 a^2 b + 3 a b^2 + b^3
cube_of_sum_by_hand : (a b : ℤ)
    → power integers (a +ℤ b) 3 ≡ a *ℤ a *ℤ a +ℤ pos 3 *ℤ a *ℤ a *ℤ b +ℤ pos 3 *ℤ a *ℤ b *ℤ b +ℤ b *ℤ b *ℤ b
cube_of_sum_by_hand a b =
    let x = var 0 in
    let y = var 1 in
    let three = con (pos 3) in
    solve integers (a ∷ b ∷ []) ((x ⊕ y) ⊛ 3) (x ⊗ x ⊗ x ⊕ three ⊗ x ⊗ x ⊗ y ⊕ three ⊗ x ⊗ y ⊗ y ⊕ y ⊗ y ⊗ y) refl

-- a value of any function may count as a variable: (f(n) + z) (f(n) - z) + z^2 = f(n)^2
value_as_variable : (f : ℕ → ℤ) (n : ℕ) (z : ℤ) → (f n +ℤ z) *ℤ (f n -ℤ z) +ℤ z *ℤ z ≡ f n *ℤ f n
value_as_variable f n z = ring_z (f n ∷ z ∷ []) (search reading_z depth 40 fits 20000) refl

-- the same at z = n: an integer that is built from a natural number comes in by application, never as a variable of the solver
natural_number_as_value : (f : ℕ → ℤ) (n : ℕ) → (f n +ℤ pos n) *ℤ (f n -ℤ pos n) +ℤ pos n *ℤ pos n ≡ f n *ℤ f n
natural_number_as_value f n = value_as_variable f n (pos n)

-- ---- over any commutative ring
module _ (R : CommRing) where
  open R use {add, mul, neg, int}

  -- (a + b) (a - b) = a^2 - b^2
  difference_of_squares : (a b : R.carrier) → mul (add a b) (add a (neg b)) ≡ add (mul a a) (neg (mul b b))
  difference_of_squares a b = ring R (a ∷ b ∷ []) (search reading depth 40 fits 20000) refl

  -- (a + b)^3 = a^3 + b^3 + 3 a b (a + b)
  cube_of_sum : (a b : R.carrier)
      → power R (add a b) 3 ≡ add (add (power R a 3) (power R b 3)) (mul (mul (int (pos 3)) (mul a b)) (add a b))
  cube_of_sum a b = ring R (a ∷ b ∷ []) (search reading depth 40 fits 20000) refl

  -- a power with a variable exponent counts as a variable: a^n (a + b) = a a^n + b a^n
  power_as_variable : (a b : R.carrier) (n : ℕ) → mul (power R a n) (add a b) ≡ add (mul a (power R a n)) (mul b (power R a n))
  power_as_variable a b n = ring R (a ∷ b ∷ power R a n ∷ []) (search reading depth 40 fits 20000) refl

  -- (a + b + c) (d + e + f) has nine products
  nine_products : (a b c d e f : R.carrier)
      → mul (add (add a b) c) (add (add d e) f)
      ≡ add (add (add (mul a d) (mul a e)) (add (mul a f) (mul b d)))
      (add (add (add (mul b e) (mul b f)) (mul c d)) (add (mul c e) (mul c f)))
  nine_products a b c d e f = ring R (a ∷ b ∷ c ∷ d ∷ e ∷ f ∷ []) (search reading depth 40 fits 20000) refl

-- ---- from equations
-- a/b = c/d and c/d = e/f give a/b = e/f, cross-multiplied and times d
equal_ratios : (a b c d e f : ℤ) → a *ℤ d ≡ c *ℤ b → c *ℤ f ≡ e *ℤ d → (a *ℤ f) *ℤ d ≡ (e *ℤ b) *ℤ d
equal_ratios a b c d e f first second =
    from2 integers f b first second (ring_z (a ∷ b ∷ c ∷ d ∷ e ∷ f ∷ []) (search reading_z depth 40 fits 20000) refl)

-- Gosper's step. With t(n+1)/t(n) = r/q and T = (Y/D) t, and with r Y(n+1) D(n) - q Y(n) D(n+1) = q S D(n) D(n+1):
-- T(n+1) - T(n) = S t(n), times q D(n) D(n+1). The 0 and the 1 at a name stand for n and n + 1.
gosper_step : (R : CommRing) (q r Y0 Y1 D0 D1 S t0 t1 T0 T1 : R.carrier)
    → R.add (R.mul (R.mul r Y1) D0) (R.neg (R.mul (R.mul q Y0) D1)) ≡ R.mul (R.mul (R.mul q S) D0) D1
    → R.mul q t1 ≡ R.mul r t0
    → R.mul D1 T1 ≡ R.mul Y1 t1
    → R.mul D0 T0 ≡ R.mul Y0 t0
    → R.mul (R.mul q (R.mul D0 D1)) (R.add T1 (R.neg T0)) ≡ R.mul (R.mul q (R.mul D0 D1)) (R.mul S t0)
gosper_step R q r Y0 Y1 D0 D1 S t0 t1 T0 T1 key ratio next this =
    from_all R (by R t0 key ∷ by R (R.mul Y1 D0) ratio ∷ by R (R.mul q D0) next ∷ by R (R.neg (R.mul q D1)) this ∷ [])
    (ring R (q ∷ r ∷ Y0 ∷ Y1 ∷ D0 ∷ D1 ∷ S ∷ t0 ∷ t1 ∷ T0 ∷ T1 ∷ []) (search reading depth 40 fits 20000) refl)

-- ---- an identity of all rings, for elements whose laws hold only so far
-- at elements that pass a test
difference_of_squares_passing : (G : GuardedRing) (a b : G.carrier) → G.Good a → G.Good b
    → G.mul (G.add a b) (G.add a (G.neg b)) ≡ G.add (G.mul a a) (G.neg (G.mul b b))
difference_of_squares_passing G a b good_a good_b =
    ap (λ (x : Passing G). x.0) (difference_of_squares (passing G) (a, good_a) (b, good_b))

-- for fractions over any domain, which are compared by cross-multiplying
nine_products_of_fractions : (D : Domain) (a b c d e f : Ratio D)
    → Equal D (product D (sum D (sum D a b) c) (sum D (sum D d e) f))
    (sum D (sum D (sum D (product D a d) (product D a e)) (sum D (product D a f) (product D b d)))
    (sum D (sum D (sum D (product D b e) (product D b f)) (product D c d)) (sum D (product D c e) (product D c f))))
unfolding classes /_rec /_rec₂
nine_products_of_fractions D a b c d e f =
    related (ratios D) _ _ (nine_products (classes (ratios D)) (cls a) (cls b) (cls c) (cls d) (cls e) (cls f))
