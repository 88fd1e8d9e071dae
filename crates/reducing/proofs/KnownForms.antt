-- The row n + 1, which is its own linear factor: each division of it, and of what is left of it, is in bounds.
use Rattle.std.specs.Prelude.{◌≡◌, ℕ, zero, suc, ◌≤◌, ◌^◌, ◌*◌, ℤ, pos, neg_ℤ, ◌+ℤ◌, ◌*ℤ◌, unsigned_abs, List, [], ◌∷◌, ◌++◌, length, refl, ⊤}
use Rattle.std.specs.Int.{◌∣◌}
use Rattle.std.proofs.Common.{ap, sym, ◌∙◌, subst, arith, lit<, inl, pow-suc}
use Rattle.std.proofs.Math.Nat.{eq-one_of_dvd-one}
use Rattle.std.proofs.lemmas.Int.{ints}
use Rattle.std.proofs.lemmas.List.{length-append, length-drop}
use Rattle.std.proofs.lemmas.Nat.Gcd.{dvd_refl}
use native.Mathlib.Numerals.{unary_clauses}
use Rattle.ring_solver.proofs.Read.{ring_z, reading_z}
use Rattle.ring_laws.specs.Meaning.{Meaning, number, several, listed, items}
use Rattle.ring_laws.specs.Algebra.{Passing, same_passing, SumInBounds, ProductInBounds}
use Rattle.ring_laws.specs.Wholes.{number_of, whole_algebra}
use Rattle.poly_laws.specs.LongDivision.{Divided, begin, step, list_less, last_of, front_of, StepInBounds, ReductionInBounds, ListDivisionInBounds}
use Rattle.poly_laws.proofs.OneQuotient.{cancelled}
use Rattle.poly_laws.proofs.PolyDomain.{no_divisors_within}
use Rattle.poly_divide.specs.Forms.{linear}
use Rattle.whole_roots.specs.Differences.{polynomials}
use Rattle.whole_roots.specs.LinearFactors.{IsProfileForm, PowerDivides, AreLinearFactors, form_power}
use Rattle.whole_roots.proofs.FactorRoots.{factor_gives_root}
use Rattle.reducing.specs.PolynomialRows.{DivisionOfPolynomials}
use Rattle.reducing.specs.Laws.FactorLists.{laws, domain, P}
use Rattle.reducing.proofs.Constants.{no_form_divides}

-- ---- the long divisions of 1 and of n + 1 by n + 1
-- what times 1 is a number is that number
by_one : (c : Passing whole_algebra) (m : ℤ) → whole_algebra.ops.product c.0 (number (pos 1)) ≡ number m → c.0 ≡ number m
by_one (number z, p) m e = ap number (same z (ap number_of e))
  where
    same : (z : ℤ) → z *ℤ pos 1 ≡ m → z ≡ m
    same z f = omega (arith, ints, f)
by_one (several xs, p) m e = absurd (cc p)

abbrev ones : List Meaning
ones = number (pos 1) ∷ []

rest_of_none : {xs qs rs : List Meaning} → Divided whole_algebra ones (number (pos 1)) xs qs rs → xs ≡ [] → rs ≡ number (pos 0) ∷ []
rest_of_none begin e = refl
rest_of_none (step x c r p) e = cc

rest_of_one : {xs qs rs : List Meaning} → Divided whole_algebra ones (number (pos 1)) xs qs rs → xs ≡ ones → rs ≡ ones
rest_of_one begin e = cc
rest_of_one (step {xs} {qs} {rs} x c r p) e =
    let here : x ≡ number (pos 1) = cc in
    let behind : rs ≡ number (pos 0) ∷ [] = rest_of_none r (cc) in
    let last : last_of x rs ≡ number (pos 0) = ap (last_of x) behind in
    let none : c.0 ≡ number (pos 0) = by_one c (pos 0) (p ∙ last) in
    ap (λ y. list_less whole_algebra.ops (front_of y rs) c.0 ones) here
    ∙ ap (λ ys. list_less whole_algebra.ops (front_of (number (pos 1)) ys) c.0 ones) behind
    ∙ ap (λ d. list_less whole_algebra.ops ones d ones) none

-- n + 1 has the lower coefficient 1 and the lead 1
divisor_is : (gs : List Meaning) (lead : Meaning) → gs ++ lead ∷ [] ≡ number (pos 1) ∷ ones → (gs ≡ ones) × (lead ≡ number (pos 1))
divisor_is [] lead e = cc
divisor_is (g ∷ []) lead e = (cc, cc)
divisor_is (g ∷ h ∷ gs) lead e = absurd (omega (arith, ap length e, length-append gs (lead ∷ [])))

-- one step by n + 1, whose quotient is m, beside the coefficient k
step_in : (k m : ℤ) (x : Meaning) (rs : List Meaning) → last_of x rs ≡ number m → front_of x rs ≡ number k ∷ []
    → ProductInBounds whole_algebra (number m) (number (pos 1))
    → SumInBounds whole_algebra (number k) (whole_algebra.ops.product (number m) (number (pos 1)))
    → StepInBounds whole_algebra (λ (x y : Meaning). ⊤) ones (number (pos 1)) x rs
step_in k m x rs l f p s = record { division = tt; reduction = λ c e. reduction c (by_one c m (e ∙ l)) }
  where
    at : ReductionInBounds whole_algebra (number k ∷ []) (number m) ones
    at zero b = (p, s)
    at (suc j) b = absurd (omega (arith, b))

    reduction : (c : Passing whole_algebra) → c.0 ≡ number m → ReductionInBounds whole_algebra (front_of x rs) c.0 ones
    reduction c d = subst (λ ys. ReductionInBounds whole_algebra ys c.0 ones) (sym f)
        (subst (λ v. ReductionInBounds whole_algebra (number k ∷ []) v ones) (sym d) at)

first_step_in : (x : Meaning) (xs qs rs : List Meaning) → number (pos 1) ∷ [] ≡ x ∷ xs → Divided whole_algebra ones (number (pos 1)) xs qs rs
    → StepInBounds whole_algebra (λ (x y : Meaning). ⊤) ones (number (pos 1)) x rs
first_step_in x xs qs rs e run =
    let here : x ≡ number (pos 1) = cc in
    let behind : rs ≡ number (pos 0) ∷ [] = rest_of_none run (cc) in
    step_in (pos 1) (pos 0) x rs (ap (last_of x) behind) (ap (front_of x) behind ∙ ap (λ y. y ∷ []) here) (lit< tt) (lit< tt)

by_form : (f : Meaning) → ListDivisionInBounds whole_algebra (λ (x y : Meaning). ⊤) (items f) ones (number (pos 1))
    → DivisionOfPolynomials f (linear (pos 1) (pos 1))
by_form f steps gs lead e =
    let d = divisor_is gs lead e in
    subst (λ hs. ListDivisionInBounds whole_algebra (λ (x y : Meaning). ⊤) (items f) hs lead) (sym d.0)
    (subst (ListDivisionInBounds whole_algebra (λ (x y : Meaning). ⊤) (items f) ones) (sym d.1) steps)

one_in : ListDivisionInBounds whole_algebra (λ (x y : Meaning). ⊤) ones ones (number (pos 1))
one_in x xs qs rs zero d run = first_step_in x xs qs rs d run
one_in x xs qs rs (suc i) d run = absurd (omega (arith, ap length d, length-drop (suc i) ones))

n_and_one_in : ListDivisionInBounds whole_algebra (λ (x y : Meaning). ⊤) (number (pos 1) ∷ ones) ones (number (pos 1))
n_and_one_in x xs qs rs zero d run =
    let here : x ≡ number (pos 1) = cc in
    let behind : rs ≡ ones = rest_of_one run (cc) in
    step_in (pos 1) (pos 1) x rs (ap (last_of x) behind) (ap (front_of x) behind ∙ ap (λ y. y ∷ []) here) (lit< tt) (lit< tt)
n_and_one_in x xs qs rs (suc zero) d run = first_step_in x xs qs rs d run
n_and_one_in x xs qs rs (suc (suc i)) d run = absurd (omega (arith, ap length d, length-drop (suc (suc i)) (number (pos 1) ∷ ones)))

-- ---- what times a power of n + 1 is n + 1
abbrev pub form : Passing polynomials
form = (linear (pos 1) (pos 1), refl)

-- the powers of n + 1
abbrev raised : ℕ → Passing polynomials
raised zero = P.unit
raised (suc e) = P.product (raised e) form

raised_is : (e : ℕ) → (raised e).0 ≡ form_power 1 (pos 1) e
raised_is zero = refl
raised_is (suc e) = ap (λ s. polynomials.ops.product s (linear (pos 1) (pos 1))) (raised_is e)

-- without one factor n + 1 the rest is 1
cancel_form : (q : Passing polynomials) → P.product q form ≡ P.product P.unit form → q ≡ P.unit
cancel_form q e = cancelled P laws.ring (no_divisors_within polynomials laws.closed domain) q P.unit form
    (λ z. some (ap (λ (x : Passing polynomials). x.0) z)) e
  where
    some : ¬ (linear (pos 1) (pos 1) ≡ listed [])
    some z = cc

times_power : (e : ℕ) (q : Passing polynomials) → polynomials.ops.product q.0 (form_power 1 (pos 1) e) ≡ linear (pos 1) (pos 1)
    → P.product q (raised e) ≡ form
times_power e q h = same_passing polynomials (P.product q (raised e)) form (ap (polynomials.ops.product q.0) (raised_is e) ∙ h)

all_but_one : (e : ℕ) (q : Passing polynomials) → polynomials.ops.product q.0 (form_power 1 (pos 1) (suc e)) ≡ linear (pos 1) (pos 1)
    → P.product q (raised e) ≡ P.unit
all_but_one e q h = cancel_form (P.product q (raised e))
    (laws.ring.product_assoc q (raised e) form ∙ times_power (suc e) q h ∙ sym (laws.ring.unit_product form))

-- no square of n + 1 divides it
pub not_twice : (e : ℕ) → ¬ (PowerDivides 1 (pos 1) (suc (suc e)) (linear (pos 1) (pos 1)))
not_twice e d = no_form_divides (pos 1) one_isnt_zero refl 1 (pos 1) (omega arith)
    (record {
      quotient = P.product d.quotient (raised e);
      is = ap (λ (x : Passing polynomials). x.0) (regrouped ∙ all_but_one (suc e) d.quotient d.is);
    })
  where
    one_isnt_zero : ¬ (pos 1 ≡ pos 0)
    one_isnt_zero z = cc

    regrouped : P.product (P.product d.quotient (raised e)) (P.product P.unit form) ≡ P.product d.quotient (P.product (raised e) form)
    regrouped = ap (P.product (P.product d.quotient (raised e))) (laws.ring.unit_product form) ∙ laws.ring.product_assoc d.quotient (raised e) form

-- so each division of what is left of it is in bounds
pub left_in : (e : ℕ) (q : Passing polynomials) → polynomials.ops.product q.0 (form_power 1 (pos 1) e) ≡ linear (pos 1) (pos 1)
    → DivisionOfPolynomials q.0 (linear (pos 1) (pos 1))
left_in zero q h = subst (λ f. DivisionOfPolynomials f (linear (pos 1) (pos 1))) (sym q_is) (by_form (linear (pos 1) (pos 1)) n_and_one_in)
  where
    q_is : q.0 ≡ linear (pos 1) (pos 1)
    q_is = ap (λ (x : Passing polynomials). x.0) (sym (laws.ring.unit_product q) ∙ laws.ring.product_comm P.unit q ∙ times_power 0 q h)
left_in (suc zero) q h = subst (λ f. DivisionOfPolynomials f (linear (pos 1) (pos 1))) (sym q_is) (by_form (listed ones) one_in)
  where
    q_is : q.0 ≡ listed ones
    q_is = ap (λ (x : Passing polynomials). x.0) (sym (laws.ring.unit_product q) ∙ laws.ring.product_comm P.unit q ∙ all_but_one 0 q h)
left_in (suc (suc e)) q h = absurd (not_twice e (record { quotient = q; is = h }))

-- n + 1 is its one linear factor
pub only : (u : ℕ) (v : ℤ) → IsProfileForm u v → PowerDivides u v 1 (linear (pos 1) (pos 1)) → (u ≡ 1) × (v ≡ pos 1)
only u v profile d = parts (plain (neg_ℤ v) (factor_gives_root u v profile.from_one form d))
  where
    plain : (z : ℤ) → pos 1 *ℤ pos (u ^ 1) +ℤ z *ℤ (pos 1 *ℤ pos (u ^ 0) +ℤ z *ℤ pos 0) ≡ pos 0 → pos u +ℤ z ≡ pos 0
    plain z e =
        let none : u ^ 0 ≡ 1 = simp unary_clauses refl in
        let once : u ^ 1 ≡ u = pow-suc u 0 ∙ ap (λ t. t * u) none ∙ one_times u in
        let same : pos 1 *ℤ pos u +ℤ z *ℤ (pos 1 *ℤ pos 1 +ℤ z *ℤ pos 0) ≡ pos 0 =
        subst (λ t. pos 1 *ℤ pos t +ℤ z *ℤ (pos 1 *ℤ pos 1 +ℤ z *ℤ pos 0) ≡ pos 0) once
        (subst (λ t. pos 1 *ℤ pos (u ^ 1) +ℤ z *ℤ (pos 1 *ℤ pos t +ℤ z *ℤ pos 0) ≡ pos 0) none e) in
        let short : z *ℤ (pos 1 *ℤ pos 1 +ℤ z *ℤ pos 0) ≡ z = ring_z (z ∷ []) (search reading_z depth 40 fits 20000) refl in
        omega (arith, ints, same, short)
      where
        one_times : (t : ℕ) → 1 * t ≡ t
        one_times t = omega arith

    parts : pos u +ℤ neg_ℤ v ≡ pos 0 → (u ≡ 1) × (v ≡ pos 1)
    parts e =
        let same : v ≡ pos u = omega (arith, ints, e) in
        let first : u ≡ 1 = profile.coprime u (dvd_refl u) (subst (λ w. u ∣ unsigned_abs w) (sym same) (dvd_refl u)) in
        (first, same ∙ ap pos first)

pub factors_of_form : AreLinearFactors (linear (pos 1) (pos 1)) (((1, pos 1), 1) ∷ [])
factors_of_form = record {
  rising = (tt, tt);
  each = (
    record {
      form = record { from_one = omega arith; to_four = omega arith; coprime = λ d p q. eq-one_of_dvd-one p };
      some = omega arith;
      power = record { divides = record { quotient = P.unit; is = refl }; greatest = most };
    },
    tt,
  );
  all = λ u v profile d. inl (only u v profile d);
}
  where
    most : (k : ℕ) → PowerDivides 1 (pos 1) k (linear (pos 1) (pos 1)) → k ≤ 1
    most zero d = omega arith
    most (suc zero) d = omega arith
    most (suc (suc e)) d = absurd (not_twice e d)
