-- The values at all points determine the polynomial.
use Rattle.std.specs.Prelude.{◌≡◌, ℕ, zero, suc, ◌*◌, ℤ, pos, ◌+ℤ◌, ◌*ℤ◌, unsigned_abs, List, [], ◌∷◌}
use Rattle.std.proofs.Common.{◌∙◌, arith, ⊎_elim}
use borrow.Author.Differences.{abs_is}
use Rattle.std.proofs.lemmas.Int.{ints, unsigned_abs-mul}
use Rattle.ring_laws.specs.Algebra.{Ops}
use Rattle.ring_solver.proofs.Linear.{product_zero}
use Rattle.poly_laws.specs.Lists.{coefficient_at}
use Rattle.poly_laws.specs.Values.{horner}

self_multiple : (n m : ℕ) → n ≡ suc n * m → n ≡ 0
self_multiple n zero e = omega arith
self_multiple n (suc m) e = absurd (omega arith)

abs_opposite : (c t : ℤ) → c +ℤ t ≡ pos 0 → unsigned_abs c ≡ unsigned_abs t
abs_opposite c t e = omega (arith, ints, abs_is c, abs_is t)

-- a multiple of a number above |c| that is opposite to c is zero
small_zero : (c r : ℤ) → c +ℤ pos (suc (unsigned_abs c)) *ℤ r ≡ pos 0 → c ≡ pos 0
small_zero c r e =
    let h : unsigned_abs c ≡ suc (unsigned_abs c) * unsigned_abs r =
    abs_opposite c (pos (suc (unsigned_abs c)) *ℤ r) e ∙ unsigned_abs-mul (pos (suc (unsigned_abs c))) r in
    let z : unsigned_abs c ≡ 0 = self_multiple (unsigned_abs c) (unsigned_abs r) h in
    omega (arith, ints, abs_is c)

module _ {A : Type 0} (o : Ops A) (f : A → ℤ) (fn : f o.nought ≡ pos 0) where
  pub coefficients_zero : (xs : List A) → ((v : ℤ) → ¬ (v ≡ pos 0) → horner f v xs ≡ pos 0) → (k : ℕ) → f (coefficient_at o xs k) ≡ pos 0
  coefficients_zero [] h k = fn
  coefficients_zero (x ∷ xs) h zero = small_zero (f x) (horner f (pos (suc (unsigned_abs (f x)))) xs) (h (pos (suc (unsigned_abs (f x)))) (λ e. cc))
  coefficients_zero (x ∷ xs) h (suc k) =
      let z : f x ≡ pos 0 = small_zero (f x) (horner f (pos (suc (unsigned_abs (f x)))) xs) (h (pos (suc (unsigned_abs (f x)))) (λ e. cc)) in
      coefficients_zero xs
      (λ v n.
      let p : v *ℤ horner f v xs ≡ pos 0 = omega (arith, ints, h v n) in
      ⊎_elim (λ e. absurd (n e)) (λ e. e) (product_zero v (horner f v xs) p))
      k
