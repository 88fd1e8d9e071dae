-- Rows of polynomials in n that are reduced as they stand, since one entry is a constant and one coefficient is 1 or -1.
use Rattle.std.proofs.Common.{◌≡◌, ◌≢◌, ℕ, zero, suc, ◌≤◌, ◌^◌, ◌*◌, pow-suc, IsTrue, [], ◌∷◌, refl, ap, sym, ◌∙◌, subst, arith, inl}
use Rattle.std.proofs.lemmas.Int.{ints}
use Rattle.std.specs.Prelude.{ℤ, pos, neg_ℤ, ◌*ℤ◌, ◌+ℤ◌, unsigned_abs}
use native.Mathlib.Numerals.{unary_clauses}
use Rattle.ring_laws.specs.Meaning.{number, listed}
use Rattle.std.specs.Int.{◌∣◌}
use Rattle.std.proofs.Math.Nat.{eq-one_of_dvd-one}
use Rattle.std.proofs.lemmas.Nat.Gcd.{dvd_refl}
use Rattle.ring_solver.proofs.Read.{ring_z, reading_z}
use Rattle.ring_laws.specs.Algebra.{Ops, Passing, within, same_passing}
use Rattle.poly_laws.proofs.PolyDomain.{no_divisors_within}
use Rattle.poly_laws.proofs.OneQuotient.{cancelled}
use Rattle.reducing.specs.Laws.FactorLists.{laws, domain}
use Rattle.poly_divide.specs.Content.{row_sizes, IsContent}
use Rattle.poly_divide.specs.Forms.{linear}
use Rattle.whole_roots.specs.Differences.{polynomials}
use Rattle.whole_roots.specs.LinearFactors.{IsProfileForm, form_power, PowerDivides, HasForm, AreLinearFactors}
use Rattle.whole_roots.proofs.FactorRoots.{factor_gives_root}
use Rattle.kernel_laws.specs.Rows.{entry_at}
use Rattle.reducing.specs.TakenOut.{times_row, none}
use Rattle.reducing.specs.PolynomialRows.{Row, meant, IsLeast, divides, PolynomialsReduced}
use Rattle.reducing.proofs.Constants.{no_form_divides}

-- a constant that isn't zero has no linear factors
pub no_factors : (c : ℤ) → c ≢ pos 0 → IsTrue (polynomials.passes (listed (number c ∷ []))) → AreLinearFactors (listed (number c ∷ [])) []
no_factors c some p = record { rising = tt; each = tt; all = λ u v profile d. no_form_divides c some p u v profile.from_one d }

-- such a row stays
pub stays_as_it_is : (row : Row) (place : ℕ) (c : ℤ) → c ≢ pos 0 → IsTrue (polynomials.passes (listed (number c ∷ [])))
    → meant row ≡ times_row polynomials (polynomials.ops.whole (pos 1)) row → IsContent (row_sizes (meant row)) 1 → IsLeast (meant row) place
    → entry_at polynomials.ops (meant row) place ≡ listed (number c ∷ []) → PolynomialsReduced (meant row) (meant row)
stays_as_it_is row place c some p times content least entry = record {
  row = row;
  row_is = refl;
  result = row;
  result_is = refl;
  holds = divides row [] (record { content = 1; is_content = content; not_zero = λ e. cc; times = times })
      (record { place = place; least = least; factors = subst (λ f. AreLinearFactors f []) (sym entry) (no_factors c some p) }) none;
}

abbrev W : Ops (Passing polynomials)
W = within polynomials laws.closed

abbrev lin : Passing polynomials
lin = (linear (pos 1) (pos 1), refl)

-- the powers of n + 1
abbrev raised : ℕ → Passing polynomials
raised zero = W.unit
raised (suc e) = W.product (raised e) lin

raised_is : (e : ℕ) → (raised e).0 ≡ form_power 1 (pos 1) e
raised_is zero = refl
raised_is (suc e) = ap (λ s. polynomials.ops.product s (linear (pos 1) (pos 1))) (raised_is e)

-- no square of n + 1 divides it
not_twice : (e : ℕ) → ¬ (PowerDivides 1 (pos 1) (suc (suc e)) (linear (pos 1) (pos 1)))
not_twice e d = no_form_divides (pos 1) (λ z. omega (arith, ints, z)) refl 1 (pos 1) (omega arith)
    (record { quotient = W.product d.quotient (raised e); is = ap (λ (x : Passing polynomials). x.0) (regrouped ∙ once) })
  where
    equation : W.product d.quotient (W.product (W.product (raised e) lin) lin) ≡ W.product W.unit lin
    equation = same_passing polynomials (W.product d.quotient (W.product (W.product (raised e) lin) lin)) (W.product W.unit lin)
        (ap (λ s. polynomials.ops.product d.quotient.0 (polynomials.ops.product (polynomials.ops.product s (linear (pos 1) (pos 1))) (linear (pos 1) (pos 1)))) (raised_is e)
        ∙ d.is ∙ ap (λ (x : Passing polynomials). x.0) (sym (laws.ring.unit_product lin)))

    once : W.product d.quotient (W.product (raised e) lin) ≡ W.unit
    once = cancelled W laws.ring (no_divisors_within polynomials laws.closed domain) (W.product d.quotient (W.product (raised e) lin)) W.unit lin
        (λ z. lin_some (ap (λ (x : Passing polynomials). x.0) z))
        (laws.ring.product_assoc d.quotient (W.product (raised e) lin) lin ∙ equation)
      where
        lin_some : ¬ (linear (pos 1) (pos 1) ≡ listed [])
        lin_some z = cc

    regrouped : W.product (W.product d.quotient (raised e)) (W.product W.unit lin) ≡ W.product d.quotient (W.product (raised e) lin)
    regrouped = ap (W.product (W.product d.quotient (raised e))) (laws.ring.unit_product lin) ∙ laws.ring.product_assoc d.quotient (raised e) lin

one_times : (u : ℕ) → 1 * u ≡ u
one_times u = omega arith

-- n + 1 is its one linear factor
pub factors_of_n_and_one : AreLinearFactors (linear (pos 1) (pos 1)) (((1, pos 1), 1) ∷ [])
factors_of_n_and_one = record {
  rising = (tt, tt);
  each = (
    record {
      form = record { from_one = omega arith; to_four = omega arith; coprime = λ d p q. eq-one_of_dvd-one p };
      some = omega arith;
      power = record { divides = record { quotient = W.unit; is = refl }; greatest = most };
    },
    tt,
  );
  all = λ u v profile d. only u v profile (plain u (neg_ℤ v) (factor_gives_root u v profile.from_one lin d));
}
  where
    most : (k : ℕ) → PowerDivides 1 (pos 1) k (linear (pos 1) (pos 1)) → k ≤ 1
    most zero d = omega arith
    most (suc zero) d = omega arith
    most (suc (suc e)) d = absurd (not_twice e d)

    plain : (u : ℕ) (z : ℤ) → pos 1 *ℤ pos (u ^ 1) +ℤ z *ℤ (pos 1 *ℤ pos (u ^ 0) +ℤ z *ℤ pos 0) ≡ pos 0 → pos u +ℤ z ≡ pos 0
    plain u z e =
        let none : u ^ 0 ≡ 1 = simp unary_clauses refl in
        let step : u ^ 1 ≡ u ^ 0 * u = pow-suc u 0 in
        let once : u ^ 1 ≡ u = step ∙ ap (λ t. t * u) none ∙ one_times u in
        let same : pos 1 *ℤ pos u +ℤ z *ℤ (pos 1 *ℤ pos 1 +ℤ z *ℤ pos 0) ≡ pos 0 =
        subst (λ t. pos 1 *ℤ pos t +ℤ z *ℤ (pos 1 *ℤ pos 1 +ℤ z *ℤ pos 0) ≡ pos 0) once
        (subst (λ t. pos 1 *ℤ pos (u ^ 1) +ℤ z *ℤ (pos 1 *ℤ pos t +ℤ z *ℤ pos 0) ≡ pos 0) none e) in
        let short : z *ℤ (pos 1 *ℤ pos 1 +ℤ z *ℤ pos 0) ≡ z = ring_z (z ∷ []) (search reading_z depth 40 fits 20000) refl in
        omega (arith, ints, same, short)

    only : (u : ℕ) (v : ℤ) → IsProfileForm u v → pos u +ℤ neg_ℤ v ≡ pos 0 → HasForm u v (((1, pos 1), 1) ∷ [])
    only u v profile e =
        let same : v ≡ pos u = omega (arith, ints, e) in
        let first : u ≡ 1 = profile.coprime u (dvd_refl u) (subst (λ w. u ∣ unsigned_abs w) (sym same) (dvd_refl u)) in
        inl (first, same ∙ ap pos first)
