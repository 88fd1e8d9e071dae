-- A complete list that is reduced, known from elsewhere, and polynomials that no reduced list has.
use Rattle.std.proofs.Common.{◌≡◌, ℕ, zero, suc, ◌<◌, List, [], ◌∷◌, refl, ap, sym, ◌∙◌, arith}
use Rattle.std.proofs.lemmas.Int.{ints}
use Rattle.std.proofs.lemmas.Nat.Gcd.{dvd_refl, dvd-zero}
use Rattle.std.proofs.Math.Nat.{eq-one_of_dvd-one}
use Rattle.std.specs.Int.{◌∣◌}
use Rattle.std.specs.Prelude.{ℤ, pos, negsuc, ◌+ℤ◌, ◌-ℤ◌, ◌*ℤ◌, ◌<ℤ◌, unsigned_abs}
use Rattle.ring_solver.proofs.Read.{ring_z, reading_z}
use Rattle.ring_laws.specs.Meaning.{Meaning, number, listed}
use Rattle.ring_laws.specs.Algebra.{Passing}
use Rattle.poly_laws.specs.Values.{level}
use Rattle.hyper_laws.specs.Recurrences.{value_at_n}
use Rattle.hyper_laws.specs.PolynomialSolutions.{Solves, combination, IsCombinationOf, AreComplete}
use Rattle.hyper_laws.specs.DegreeBounds.{HasDegree, coefficient_in_n}
use Rattle.hyper_laws.specs.ReducedLists.{IsPrimitive, HasPositiveLead, AreReduced}
use Rattle.hyper_laws.proofs.Values.{multiple_value}
use Rattle.hyper_laws.proofs.Equations.{product_passes, are_same, solves_values, combination_passes, combination_value}
use Rattle.hyper_laws.proofs.KnownCases.{one}

-- c(n+1) = c(n): the constants
abbrev steady : List Meaning
steady = listed (number (negsuc 0) ∷ []) ∷ one ∷ []

module _ (c : Passing (level 1)) (h : Solves steady c.0) where
  stays : (n : ℤ) → value_at_n c.0 (n +ℤ pos 1) ≡ value_at_n c.0 n
  stays n = omega (arith, ints, sym (difference n (value_at_n c.0 n) (value_at_n c.0 (n +ℤ pos 1))) ∙ solves_values steady c.0 h n)
    where
      difference : (n x y : ℤ) → (negsuc 0 +ℤ n *ℤ pos 0) *ℤ x +ℤ ((pos 1 +ℤ n *ℤ pos 0) *ℤ y +ℤ pos 0) ≡ y -ℤ x
      difference n x y = ring_z (n ∷ x ∷ y ∷ []) (search reading_z depth 40 fits 20000) refl

  from_before : (m n : ℤ) → m +ℤ pos 1 ≡ n → value_at_n c.0 n ≡ value_at_n c.0 m
  from_before m n e = ap (value_at_n c.0) (sym e) ∙ stays m

  above : (k : ℕ) → value_at_n c.0 (pos k) ≡ value_at_n c.0 (pos 0)
  above zero = refl
  above (suc k) = from_before (pos k) (pos (suc k)) (omega (arith, ints)) ∙ above k

  below : (k : ℕ) → value_at_n c.0 (negsuc k) ≡ value_at_n c.0 (pos 0)
  below zero = sym (from_before (negsuc 0) (pos 0) refl)
  below (suc k) = sym (from_before (negsuc (suc k)) (negsuc k) (omega (arith, ints))) ∙ below k

  constant : (n : ℤ) → value_at_n c.0 n ≡ value_at_n c.0 (pos 0)
  constant (pos k) = above k
  constant (negsuc k) = below k

  multiple : IsCombinationOf (one ∷ []) c.0
  multiple =
      let w : ℤ = value_at_n c.0 (pos 0) in
      record {
        factor = pos 1;
        not_zero = λ e. omega (arith, ints, e);
        by = λ i. w;
        is = are_same ((level 1).ops.product ((level 1).ops.whole (pos 1)) c.0) (combination (λ i. w) (one ∷ []))
            (product_passes ((level 1).ops.whole (pos 1)) c.0) (combination_passes (λ i. w) (one ∷ []))
            (λ n. multiple_value (pos 1) c.0 n ∙ ap (λ z. pos 1 *ℤ z) (constant n) ∙ turned w n ∙ sym (combination_value (λ i. w) (one ∷ []) n));
      }
    where
      turned : (w n : ℤ) → pos 1 *ℤ w ≡ w *ℤ (pos 1 +ℤ n *ℤ pos 0) +ℤ pos 0
      turned w n = ring_z (w ∷ n ∷ []) (search reading_z depth 40 fits 20000) refl

constants : AreComplete steady (one ∷ [])
constants = record { each = (refl, tt); all = multiple; independent = independent }
  where
    single : (x : ℤ) → x *ℤ pos 1 +ℤ pos 0 ≡ x
    single x = ring_z (x ∷ []) (search reading_z depth 40 fits 20000) refl

    independent : (m : ℕ → ℤ) → combination m (one ∷ []) ≡ (level 1).ops.nought → (k : ℕ) → k < 1 → m k ≡ pos 0
    independent m z zero b = sym (single (m 0)) ∙ sym (combination_value m (one ∷ []) (pos 0)) ∙ ap (λ f. value_at_n f (pos 0)) z
    independent m z (suc k) b = absurd (omega (arith, b))

reduced_constants : AreReduced (one ∷ [])
reduced_constants = record {
  each = (record { polynomial = refl; primitive = λ d h. eq-one_of_dvd-one (h 0); positive = positive }, tt);
  rising = (tt, tt);
}
  where
    positive : (degree : ℕ) → HasDegree one degree → pos 0 <ℤ coefficient_in_n one (pos degree)
    positive zero h = omega (arith, ints)
    positive (suc degree) h = absurd (omega (arith, h))

-- 2 isn't primitive, and -1 has no positive leading coefficient
not_primitive : ¬ (IsPrimitive (listed (number (pos 2) ∷ [])))
not_primitive h = two 2 refl (h 2 each)
  where
    two : (d : ℕ) → d ≡ 2 → d ≡ 1 → ⊥
    two d e f = omega (arith, e, f)

    each : (power : ℕ) → 2 ∣ unsigned_abs (coefficient_in_n (listed (number (pos 2) ∷ [])) (pos power))
    each zero = dvd_refl 2
    each (suc power) = dvd-zero 2

not_positive : ¬ (HasPositiveLead (listed (number (negsuc 0) ∷ [])))
not_positive h = let positive : pos 0 <ℤ negsuc 0 = h 0 refl in omega (arith, ints, positive)
