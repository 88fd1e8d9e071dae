-- Combinations of polynomials by their coefficients.
use Rattle.std.proofs.Common.{◌≡◌, ◌≢◌, ℕ, suc, ◌+◌, ◌<◌, ◌≤◌, List, [], ◌∷◌, length, refl, ap, sym, ◌∙◌, arith}
use mathlib.Core.Path.{ap₂}
use Rattle.std.proofs.Math.IntN.{pow}
use Rattle.std.proofs.lemmas.Int.{ints}
use Rattle.std.specs.Prelude.{ℤ, pos, negsuc, ◌+ℤ◌, ◌-ℤ◌, ◌*ℤ◌, IsTrue}
use Rattle.ring_solver.proofs.Read.{ring_z, reading_z}
use Rattle.ring_laws.specs.Meaning.{Meaning, items}
use Rattle.poly_laws.specs.Values.{level}
use Rattle.hyper_laws.specs.Recurrences.{value_at_n}
use Rattle.hyper_laws.specs.PolynomialSolutions.{IsCombinationOf}
use Rattle.hyper_laws.proofs.Sums.{sum_same, sum_none, sum_added, sum_scaled, none_times}
use Rattle.hyper_laws.proofs.Independent.{each_is_zero}
use Rattle.hyper_laws.proofs.Values.{multiple_value}
use Rattle.hyper_laws.proofs.Equations.{are_same, combined_values, combination_value}
use Rattle.hyper_laws.proofs.Powers.{at_power, power_sum, powers_monic, horner_powers}

-- the coefficient of m_0 c_0 + m_1 c_1 + .. at a power
abbrev pub mixed : (ℕ → ℤ) → List Meaning → ℕ → ℤ
mixed m [] k = pos 0
mixed m (c ∷ cs) k = m 0 *ℤ at_power (items c) k +ℤ mixed (λ i. m (suc i)) cs k

-- some multiple of c has the coefficients of a combination
pub record Mixture (ds : List Meaning) (c : Meaning) : Type 0 where
  pub factor : ℤ
  pub not_zero : factor ≢ pos 0
  pub by : ℕ → ℤ
  pub is : (k : ℕ) → factor *ℤ at_power (items c) k ≡ mixed by ds k

abbrev sizes : List Meaning → ℕ
sizes [] = 0
sizes (c ∷ cs) = length (items c) + sizes cs

mixed_powers : (cs : List Meaning) (m : ℕ → ℤ) (count : ℕ) (n : ℤ) → sizes cs ≤ count → combined_values m cs n ≡ power_sum (mixed m cs) count n
mixed_powers [] m count n b = sym (sum_none count (λ k. pos 0 *ℤ pow n k) (λ k c. none_times (pow n k)))
mixed_powers (c ∷ cs) m count n b =
    ap₂ ◌+ℤ◌
    (ap (λ z. m 0 *ℤ z) (horner_powers (items c) count n (omega (arith, b)))
    ∙ sym (sum_scaled count (m 0) (λ k. at_power (items c) k *ℤ pow n k)))
    (mixed_powers cs (λ i. m (suc i)) count n (omega (arith, b)))
    ∙ sym (sum_added count (λ k. m 0 *ℤ (at_power (items c) k *ℤ pow n k)) (λ k. mixed (λ i. m (suc i)) cs k *ℤ pow n k))
    ∙ sum_same count (λ k. m 0 *ℤ (at_power (items c) k *ℤ pow n k) +ℤ mixed (λ i. m (suc i)) cs k *ℤ pow n k) (λ k. mixed m (c ∷ cs) k *ℤ pow n k)
    (λ k d. joined (m 0) (at_power (items c) k) (pow n k) (mixed (λ i. m (suc i)) cs k))
  where
    joined : (x y p z : ℤ) → x *ℤ (y *ℤ p) +ℤ z *ℤ p ≡ (x *ℤ y +ℤ z) *ℤ p
    joined x y p z = ring_z (x ∷ y ∷ p ∷ z ∷ []) (search reading_z depth 40 fits 20000) refl

-- sums of powers that are the same everywhere have the same coefficients
same_coefficients : (x y : ℕ → ℤ) (count : ℕ) → ((n : ℤ) → power_sum x count n ≡ power_sum y count n) → (k : ℕ) → k < count → x k ≡ y k
same_coefficients x y count h k b =
    let zero : x k -ℤ y k ≡ pos 0 = each_is_zero (λ j n. pow n j) powers_monic (λ j. x j -ℤ y j) count difference k b in omega (arith, ints, zero)
  where
    spread : (x y p : ℤ) → (x -ℤ y) *ℤ p ≡ x *ℤ p +ℤ negsuc 0 *ℤ (y *ℤ p)
    spread x y p = ring_z (x ∷ y ∷ p ∷ []) (search reading_z depth 40 fits 20000) refl

    gone : (s : ℤ) → s +ℤ negsuc 0 *ℤ s ≡ pos 0
    gone s = ring_z (s ∷ []) (search reading_z depth 40 fits 20000) refl

    difference : (n : ℤ) → power_sum (λ j. x j -ℤ y j) count n ≡ pos 0
    difference n =
        sum_same count (λ j. (x j -ℤ y j) *ℤ pow n j) (λ j. x j *ℤ pow n j +ℤ negsuc 0 *ℤ (y j *ℤ pow n j)) (λ j c. spread (x j) (y j) (pow n j))
        ∙ sum_added count (λ j. x j *ℤ pow n j) (λ j. negsuc 0 *ℤ (y j *ℤ pow n j))
        ∙ ap₂ ◌+ℤ◌ (h n) (sum_scaled count (negsuc 0) (λ j. y j *ℤ pow n j)) ∙ gone (power_sum y count n)

pub mixture_of : (ds : List Meaning) (c : Meaning) → IsCombinationOf ds c → Mixture ds c
mixture_of ds c w = record {
  factor = w.factor;
  not_zero = w.not_zero;
  by = w.by;
  is = λ k.
      let count : ℕ = suc k + (length (items c) + sizes ds) in
      same_coefficients (λ j. w.factor *ℤ at_power (items c) j) (mixed w.by ds) count
      (λ n. sum_same count (λ j. (w.factor *ℤ at_power (items c) j) *ℤ pow n j) (λ j. w.factor *ℤ (at_power (items c) j *ℤ pow n j))
      (λ j b. grouped w.factor (at_power (items c) j) (pow n j))
      ∙ sum_scaled count w.factor (λ j. at_power (items c) j *ℤ pow n j)
      ∙ ap (λ z. w.factor *ℤ z) (sym (horner_powers (items c) count n (omega arith))) ∙ sym (multiple_value w.factor c n)
      ∙ ap (λ f. value_at_n f n) w.is ∙ combination_value w.by ds n ∙ mixed_powers ds w.by count n (omega arith)) k (omega arith);
}
  where
    grouped : (x y z : ℤ) → (x *ℤ y) *ℤ z ≡ x *ℤ (y *ℤ z)
    grouped x y z = ring_z (x ∷ y ∷ z ∷ []) (search reading_z depth 40 fits 20000) refl

-- polynomials with the same coefficients are the same
pub coefficients_decide : (c d : Meaning) → IsTrue ((level 1).passes c) → IsTrue ((level 1).passes d)
    → ((k : ℕ) → at_power (items c) k ≡ at_power (items d) k) → c ≡ d
coefficients_decide c d p q h = are_same c d p q
    (λ n.
    let count : ℕ = length (items c) + length (items d) in
    horner_powers (items c) count n (omega arith)
    ∙ sum_same count (λ k. at_power (items c) k *ℤ pow n k) (λ k. at_power (items d) k *ℤ pow n k) (λ k b. ap (λ z. z *ℤ pow n k) (h k))
    ∙ sym (horner_powers (items d) count n (omega arith)))
