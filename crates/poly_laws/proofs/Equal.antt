-- Two polynomials with the same value at each point are the same.
use Rattle.std.specs.Prelude.{◌≡◌, ℕ, zero, suc, ℤ, pos, ◌+ℤ◌, ◌*ℤ◌, neg_ℤ, List, [], ◌∷◌, length, refl}
use Rattle.std.proofs.Common.{ap, sym, ◌∙◌, arith}
use Rattle.std.proofs.lemmas.Int.{ints}
use Rattle.ring_laws.specs.Meaning.{Meaning, number, several}
use Rattle.ring_laws.specs.Algebra.{Ops, RingLaws, Algebra, Passing, Closed, within, Laws, same_passing}
use Rattle.ring_laws.specs.Wholes.{whole_algebra, number_of}
use Rattle.ring_laws.specs.WholeLaws.{whole_laws}
use Rattle.poly_laws.specs.Lists.{coefficient_at}
use Rattle.poly_laws.specs.PolyAlgebra.{poly_algebra}
use Rattle.poly_laws.specs.Values.{horner, KeepsOps, value_at, level}
use Rattle.poly_laws.proofs.Coefficients.{meanings_of, coefficients, meanings-coefficients, poly_closed}
use Rattle.poly_laws.proofs.Determined.{coefficients_zero}
use Rattle.poly_laws.proofs.Keeps.{whole_keeps, poly_keeps}
use Rattle.poly_laws.proofs.ListLaws.{sum_nought}
use Rattle.poly_laws.proofs.PolyLaws.{equal_coefficients, coefficient-nought}
use Rattle.poly_laws.proofs.PolyMagnitudes.{poly_laws}

pub level_laws : (n : ℕ) → Laws (level n)
level_laws zero = whole_laws
level_laws (suc n) = poly_laws (level n) (level_laws n)

pub level_keeps : (n : ℕ) (point : List ℤ) → length point ≡ n → KeepsOps (level n).ops (value_at point)
level_keeps zero [] e = whole_keeps
level_keeps zero (v ∷ rest) e = absurd (omega arith)
level_keeps (suc n) [] e = absurd (omega arith)
level_keeps (suc n) (v ∷ rest) e = poly_keeps (level n).ops (value_at rest) (level_keeps n rest (omega arith)) v

horner_firsts : (a : Algebra) (c : Closed a) (f : Meaning → ℤ) (v : ℤ) (xs : List (Passing a))
    → horner (λ (y : Passing a). f y.0) v xs ≡ horner f v (meanings_of a c xs)
horner_firsts a c f v [] = refl
horner_firsts a c f v (x ∷ xs) = ap (λ (z : ℤ). f x.0 +ℤ v *ℤ z) (horner_firsts a c f v xs)

number_zero : (m : Meaning) → number_of m ≡ pos 0 → (x : Passing whole_algebra) → x.0 ≡ m → x.0 ≡ number (pos 0)
number_zero (number z) e x h = h ∙ ap number e
number_zero (several xs) e (number z, p) h = cc
number_zero (several xs) e (several ys, p) h = cc

-- a polynomial that is 0 at each point is nought
pub nought_only : (n : ℕ) (x : Passing (level n)) → ((point : List ℤ) → length point ≡ n → value_at point x.0 ≡ pos 0) → x.0 ≡ (level n).ops.nought
nought_only zero x h = number_zero x.0 (h [] refl) x refl
nought_only (suc n) x h =
    let a : Algebra = level n in
    let c : Closed (level n) = (level_laws n).closed in
    let r : RingLaws (within (level n) c) = (level_laws n).ring in
    let o : Ops (Passing (level n)) = within (level n) c in
    let xs : List (Passing (level n)) = coefficients (level n) c x in
    let zeros : (rest : List ℤ) → length rest ≡ n → (k : ℕ) → value_at rest (coefficient_at o xs k).0 ≡ pos 0 =
    λ rest e. coefficients_zero o (λ y. value_at rest y.0) ((level_keeps n rest e).nought) xs
    (λ v _. horner_firsts a c (value_at rest) v xs ∙ ap (horner (value_at rest) v) (meanings-coefficients a c x) ∙ h (v ∷ rest) (ap suc e)) in
    ap (λ (t : Passing (poly_algebra (level n))). t.0)
    (equal_coefficients a c r x (within (poly_algebra a) (poly_closed a c)).nought
    (λ k. same_passing a (coefficient_at o xs k) o.nought (nought_only n (coefficient_at o xs k) (λ rest e. zeros rest e k))
    ∙ sym (coefficient-nought a c r k)))

no_difference : {A : Type 0} (o : Ops A) (l : RingLaws o) (x y : A) → o.sum x (o.neg y) ≡ o.nought → x ≡ y
no_difference o l x y e =
    sym (sum_nought o l x)
    ∙ ap (o.sum x) (sym (l.sum_neg y) ∙ l.sum_comm y (o.neg y))
    ∙ sym (l.sum_assoc x (o.neg y) y)
    ∙ ap (λ t. o.sum t y) e
    ∙ l.nought_sum y

opposite : (u w : ℤ) → u ≡ w → u +ℤ neg_ℤ w ≡ pos 0
opposite u w e = omega (arith, ints)

pub same_values : (n : ℕ) (x y : Passing (level n)) → ((point : List ℤ) → length point ≡ n → value_at point x.0 ≡ value_at point y.0) → x ≡ y
same_values n x y h =
    let o : Ops (Passing (level n)) = within (level n) (level_laws n).closed in
    no_difference o (level_laws n).ring x y
    (same_passing (level n) (o.sum x (o.neg y)) o.nought (nought_only n (o.sum x (o.neg y))
    (λ point e.
    let k : KeepsOps (level n).ops (value_at point) = level_keeps n point e in
    k.sum x.0 (o.neg y).0 ∙ ap (λ (z : ℤ). value_at point x.0 +ℤ z) (k.neg y.0) ∙ opposite (value_at point x.0) (value_at point y.0) (h point e))))
