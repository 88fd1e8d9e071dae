-- The linear factors of a polynomial, in their order, are one list of forms.
-- These are lemmas: they stand in specs/, since the laws that `Reducing` names rest on them.
use Rattle.std.specs.Prelude.{◌≡◌, ℕ, zero, suc, ◌≤◌, ℤ, pos, List, [], ◌∷◌, refl}
use Rattle.std.specs.List.{AllByRecursion}
use Rattle.std.proofs.Common.{ap, sym, ◌∙◌, subst, arith, ⊎_elim, inl, inr}
use Rattle.std.proofs.lemmas.Int.{ints}
use Rattle.ring_laws.specs.Meaning.{Meaning}
use Rattle.ring_laws.specs.Algebra.{Ops, Passing, within, Laws}
use Rattle.ring_laws.specs.Division.{DomainLaws}
use Rattle.ring_laws.specs.Wholes.{whole_algebra}
use Rattle.ring_laws.specs.WholeLaws.{whole_laws}
use Rattle.ring_laws.specs.WholeDomain.{whole_domain}
use Rattle.poly_laws.proofs.PolyDomain.{poly_domain}
use Rattle.poly_laws.proofs.PolyMagnitudes.{poly_laws}
use Rattle.poly_divide.specs.Forms.{linear}
use Rattle.whole_roots.specs.Differences.{polynomials}
use Rattle.whole_roots.specs.LinearFactors.{Entry, AreLinearFactors, IsLinearFactor, IsProfileForm, PowerDivides, IsBefore, IsRisingByForm, HasForm, form_power}
use Rattle.reducing.specs.TakenOut.{raised_to}
use Rattle.reducing.specs.Laws.RowPowers.{raised_meant}
use Rattle.reducing.specs.Laws.OneTakenOut.{IsFactor}
use Rattle.reducing.specs.PolynomialRows.{forms}

-- polynomials over the whole numbers keep all laws of a ring
abbrev pub laws : Laws polynomials
laws = poly_laws whole_algebra whole_laws

-- a product of polynomials over the whole numbers is zero only where a factor is
abbrev pub domain : DomainLaws polynomials
domain = poly_domain whole_algebra whole_laws whole_domain

-- the operations on polynomials over the whole numbers alone
abbrev pub P : Ops (Passing polynomials)
P = within polynomials laws.closed

-- u*x + v with u from 1 on can be taken out of polynomials
pub linear_is_factor : (u : ℕ) (v : ℤ) → 1 ≤ u → IsFactor polynomials laws domain (linear (pos u) v)
linear_is_factor zero v h = absurd (omega arith)
linear_is_factor (suc u) v h = (refl, λ e. cc)

-- each form in a list of linear factors can be taken out of polynomials
pub forms_are_factors : (f : Meaning) (xs : List Entry) → AllByRecursion (IsLinearFactor f) xs
    → AllByRecursion (IsFactor polynomials laws domain) (forms xs)
forms_are_factors f [] h = tt
forms_are_factors f (x ∷ xs) h = (linear_is_factor x.0.0 x.0.1 h.0.form.from_one, forms_are_factors f xs h.1)

-- a power of u*x + v is that power in the ring of polynomials
pub form_power_is : (u : ℕ) (v : ℤ) (e : ℕ) → form_power u v e ≡ raised_to polynomials.ops (linear (pos u) v) e
form_power_is u v zero = refl
form_power_is u v (suc e) = ap (λ s. polynomials.ops.product s (linear (pos u) v)) (form_power_is u v e)

-- what a power divides, the form divides
once_divides : (u : ℕ) (v : ℤ) (e : ℕ) (f : Meaning) → 1 ≤ u → 1 ≤ e → PowerDivides u v e f → PowerDivides u v 1 f
once_divides u v zero f b c h = absurd (omega arith)
once_divides u v (suc e) f b c h = record {
  quotient = P.product h.quotient r;
  is = ap (λ (x : Passing polynomials). x.0) (regrouped h.quotient r t) ∙ ap (polynomials.ops.product h.quotient.0) power_is ∙ h.is;
}
  where
    t : Passing polynomials
    t = (linear (pos u) v, (linear_is_factor u v b).0)

    r : Passing polynomials
    r = raised_to P t e

    regrouped : (x y z : Passing polynomials) → P.product (P.product x y) (P.product P.unit z) ≡ P.product x (P.product y z)
    regrouped x y z = ap (P.product (P.product x y)) (laws.ring.unit_product z) ∙ laws.ring.product_assoc x y z

    power_is : (P.product r t).0 ≡ form_power u v (suc e)
    power_is = ap (λ s. polynomials.ops.product s (linear (pos u) v)) (raised_meant polynomials laws domain t e ∙ sym (form_power_is u v e))

-- a form that stands in the list
factor_of : (f : Meaning) (xs : List Entry) (u : ℕ) (v : ℤ) → AllByRecursion (IsLinearFactor f) xs → HasForm u v xs
    → IsProfileForm u v × PowerDivides u v 1 f
factor_of f [] u v h m = absurd m
factor_of f (x ∷ xs) u v h (inl e) =
    let both : IsProfileForm x.0.0 x.0.1 × PowerDivides x.0.0 x.0.1 1 f =
    (h.0.form, once_divides x.0.0 x.0.1 x.1 f h.0.form.from_one h.0.some h.0.power.divides) in
    subst (λ s. IsProfileForm s v × PowerDivides s v 1 f) (sym e.0)
    (subst (λ s. IsProfileForm x.0.0 s × PowerDivides x.0.0 s 1 f) (sym e.1) both)
factor_of f (x ∷ xs) u v h (inr m) = factor_of f xs u v h.1 m

-- the first form stands before those behind it
before_of : (k : ℕ × ℤ) (xs : List Entry) (u : ℕ) (v : ℤ) → AllByRecursion (λ (y : Entry). IsBefore k y.0) xs → HasForm u v xs → IsBefore k (u, v)
before_of k [] u v h m = absurd m
before_of k (x ∷ xs) u v h (inl e) =
    ⊎_elim (λ b. inl (omega (arith, b, e.0))) (λ b. inr (omega (arith, b.0, e.0), omega (arith, ints, b.1, e.1))) h.0
before_of k (x ∷ xs) u v h (inr m) = before_of k xs u v h.1 m

not_both : (x y : ℕ × ℤ) → IsBefore x y → IsBefore y x → ⊥
not_both x y h k =
    ⊎_elim (λ b. ⊎_elim (λ c. omega (arith, b, c)) (λ c. omega (arith, b, c.0)) k)
    (λ b. ⊎_elim (λ c. omega (arith, b.0, c)) (λ c. omega (arith, ints, b.1, c.1)) k) h

abbrev Includes : List Entry → List Entry → Type 0
Includes ys xs = (u : ℕ) (v : ℤ) → HasForm u v xs → HasForm u v ys

-- without their first forms, which are the same
rest_included : (x y : Entry) (xs ys : List Entry) → (x.0.0 ≡ y.0.0) × (x.0.1 ≡ y.0.1) → AllByRecursion (λ (z : Entry). IsBefore x.0 z.0) xs
    → Includes (y ∷ ys) (x ∷ xs) → Includes ys xs
rest_included x y xs ys e h f u v m = ⊎_elim (λ d. absurd (not_both x.0 x.0 (itself d) (itself d))) (λ n. n) (f u v (inr m))
  where
    itself : (u ≡ y.0.0) × (v ≡ y.0.1) → IsBefore x.0 x.0
    itself d = ⊎_elim (λ b. inl (omega (arith, b, d.0, e.0))) (λ b. inr (refl, omega (arith, ints, b.1, d.1, e.1))) (before_of x.0 xs u v h m)

same_forms : (xs ys : List Entry) → IsRisingByForm xs → IsRisingByForm ys → Includes ys xs → Includes xs ys → forms xs ≡ forms ys
same_forms [] [] h k f g = refl
same_forms [] (y ∷ ys) h k f g = absurd (g y.0.0 y.0.1 (inl (refl, refl)))
same_forms (x ∷ xs) [] h k f g = absurd (f x.0.0 x.0.1 (inl (refl, refl)))
same_forms (x ∷ xs) (y ∷ ys) h k f g =
    cc (e.0, e.1, same_forms xs ys h.1 k.1 (rest_included x y xs ys e h.0 f) (rest_included y x ys xs (sym e.0, sym e.1) k.0 g))
  where
    e : (x.0.0 ≡ y.0.0) × (x.0.1 ≡ y.0.1)
    e = ⊎_elim (λ d. d)
        (λ m. ⊎_elim (λ d. (sym d.0, sym d.1))
        (λ n. absurd (not_both x.0 y.0 (before_of x.0 xs y.0.0 y.0.1 h.0 n) (before_of y.0 ys x.0.0 x.0.1 k.0 m)))
        (g y.0.0 y.0.1 (inl (refl, refl))))
        (f x.0.0 x.0.1 (inl (refl, refl)))

included : (f : Meaning) (xs ys : List Entry) → AreLinearFactors f xs → AreLinearFactors f ys → Includes ys xs
included f xs ys h k u v m = let b = factor_of f xs u v h.each m in k.all u v b.0 b.1

-- two lists of all the linear factors of f have the same forms in the same order
pub one_factors : (f : Meaning) (xs ys : List Entry) → AreLinearFactors f xs → AreLinearFactors f ys → forms xs ≡ forms ys
one_factors f xs ys h k = same_forms xs ys h.rising k.rising (included f xs ys h k) (included f ys xs k h)
