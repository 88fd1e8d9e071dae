-- Where the equation of a case holds and no b(m) is 0 from the first n on, its solution satisfies the recurrence from there on.
use Rattle.std.proofs.Common.{◌≡◌, ◌≢◌, ℕ, zero, suc, ◌+◌, List, [], ◌∷◌, length, refl, ap, sym, ◌∙◌, subst, arith}
use mathlib.Core.Path.{ap₂}
use Rattle.std.proofs.Math.IntN.{pow}
use Rattle.std.proofs.lemmas.Int.{ints}
use Rattle.std.specs.Prelude.{ℤ, pos, negsuc, ◌+ℤ◌, ◌-ℤ◌, ◌*ℤ◌, ◌≤ℤ◌}
use Rattle.ring_solver.specs.Ranges.{size_of}
use Rattle.ring_solver.proofs.Read.{ring_z, reading_z}
use Rattle.ring_laws.specs.Meaning.{Meaning}
use Rattle.hypergeometric.specs.Fraction.{Fraction, IsDefined, ◌≈◌, of_whole, fraction_sum, fraction_product, natural_power, whole_power}
use Rattle.hypergeometric.proofs.FractionLaws.{one_not_zero, product_not_zero, equal_to_itself, equal_chain, equal_sums}
use Rattle.hyper_laws.specs.Recurrences.{value_at_n, left_side, Satisfies}
use Rattle.hyper_laws.specs.PolynomialSolutions.{Solves}
use Rattle.hyper_laws.specs.Cases.{Case, case_equation}
use Rattle.hyper_laws.specs.Solutions.{product_over_range, step_at, solution_value, IsFreeOfZeros, IsFirstPlace}
use Rattle.hyper_laws.proofs.CaseValues.{product_from, term_value, case_sum, case_sum_step, ahead}

abbrev ratio : ℤ → ℤ → Fraction
ratio top bottom = record { top = top; bottom = bottom }

-- one term, over the bottom of the last one
term_equal : (p c t u v q r bottom : ℤ) (w : Fraction) → w.top ≡ t *ℤ (u *ℤ q) → bottom ≡ w.bottom *ℤ (v *ℤ r) → IsDefined w → bottom ≢ pos 0
    → fraction_product (of_whole p) (fraction_product (of_whole c) w) ≈ ratio (t *ℤ (((u *ℤ v) *ℤ (p *ℤ (q *ℤ r))) *ℤ c)) bottom
term_equal p c t u v q r bottom w e f d not_zero = record {
  left_defined = product_not_zero _ _ one_not_zero (product_not_zero _ _ one_not_zero d);
  right_defined = not_zero;
  cross = ap₂ (λ x y. (p *ℤ (c *ℤ x)) *ℤ y) e f ∙ across p c t u v q r w.bottom;
}
  where
    across : (p c t u v q r b : ℤ) → (p *ℤ (c *ℤ (t *ℤ (u *ℤ q)))) *ℤ (b *ℤ (v *ℤ r))
        ≡ (t *ℤ (((u *ℤ v) *ℤ (p *ℤ (q *ℤ r))) *ℤ c)) *ℤ (pos 1 *ℤ (pos 1 *ℤ b))
    across p c t u v q r b = ring_z (p ∷ c ∷ t ∷ u ∷ v ∷ q ∷ r ∷ b ∷ []) (search reading_z depth 40 fits 20000) refl

-- fractions over one bottom
joined : (t x y bottom : ℤ) → bottom ≢ pos 0 → fraction_sum (ratio (t *ℤ x) bottom) (ratio (t *ℤ y) bottom) ≈ ratio (t *ℤ (x +ℤ y)) bottom
joined t x y bottom d = record {
  left_defined = product_not_zero _ _ d d;
  right_defined = d;
  cross = across t x y bottom;
}
  where
    across : (t x y b : ℤ) → ((t *ℤ x) *ℤ b +ℤ (t *ℤ y) *ℤ b) *ℤ b ≡ (t *ℤ (x +ℤ y)) *ℤ (b *ℤ b)
    across t x y b = ring_z (t ∷ x ∷ y ∷ b ∷ []) (search reading_z depth 40 fits 20000) refl

-- a fraction with the top 0
none : (t x bottom : ℤ) → x ≡ pos 0 → bottom ≢ pos 0 → ratio (t *ℤ x) bottom ≈ of_whole (pos 0)
none t x bottom e d = record {
  left_defined = d;
  right_defined = one_not_zero;
  cross = ap (λ z. (t *ℤ z) *ℤ pos 1) e ∙ across t bottom;
}
  where
    across : (t b : ℤ) → (t *ℤ pos 0) *ℤ pos 1 ≡ pos 0 *ℤ b
    across t b = ring_z (t ∷ b ∷ []) (search reading_z depth 40 fits 20000) refl

sized : (z : ℤ) → pos 0 ≤ℤ z → z ≡ pos (size_of z)
sized (pos k) h = refl
sized (negsuc k) h = absurd (omega (arith, ints, h))

module _ (k : Case) (c : Meaning) (from : ℤ) (bottom : k.z.bottom ≢ pos 0) (free : IsFreeOfZeros k.b from) where
  -- z^m prod a/b, over the first m numbers
  abbrev factor : ℕ → Fraction
  factor m = fraction_product (natural_power k.z m) (product_over_range (step_at k) from m)

  abbrev y : ℤ → Fraction
  y n = solution_value k c from n

  exchanged : (u x s a : ℤ) → (u *ℤ x) *ℤ (s *ℤ a) ≡ (x *ℤ s) *ℤ (u *ℤ a)
  exchanged u x s a = ring_z (u ∷ x ∷ s ∷ a ∷ []) (search reading_z depth 40 fits 20000) refl

  top_step : (m : ℕ) → (factor (suc m)).top ≡ (factor m).top *ℤ (k.z.top *ℤ value_at_n k.a (from +ℤ pos m))
  top_step m = exchanged k.z.top (natural_power k.z m).top (product_over_range (step_at k) from m).top (value_at_n k.a (from +ℤ pos m))

  bottom_step : (m : ℕ) → (factor (suc m)).bottom ≡ (factor m).bottom *ℤ (k.z.bottom *ℤ value_at_n k.b (from +ℤ pos m))
  bottom_step m = exchanged k.z.bottom (natural_power k.z m).bottom (product_over_range (step_at k) from m).bottom (value_at_n k.b (from +ℤ pos m))

  factor_defined : (m : ℕ) → IsDefined (factor m)
  factor_defined zero = one_not_zero
  factor_defined (suc m) = λ e.
      product_not_zero (factor m).bottom (k.z.bottom *ℤ value_at_n k.b (from +ℤ pos m)) (factor_defined m)
      (product_not_zero k.z.bottom (value_at_n k.b (from +ℤ pos m)) bottom (free (from +ℤ pos m) (omega (arith, ints)))) (sym (bottom_step m) ∙ e)

  y_at : (n : ℤ) (m : ℕ) → n -ℤ from ≡ pos m → y n ≡ fraction_product (of_whole (value_at_n c n)) (factor m)
  y_at n m e =
      ap (λ d. fraction_product (of_whole (value_at_n c n))
      (fraction_product (whole_power k.z d) (product_over_range (step_at k) from (size_of d)))) e

  module _ (n : ℤ) (m : ℕ) (place : n ≡ from +ℤ pos m) where
    abbrev tops : ℕ → ℤ
    tops j = (factor j).top

    abbrev bottoms : ℕ → ℤ
    bottoms j = (factor j).bottom

    -- the terms from the i-th on, over the bottom of the last
    tail_is : (ps : List Meaning) (i last : ℕ) → i + length ps ≡ suc last
        → left_side ps y n (n +ℤ pos i) ≈ ratio (tops m *ℤ case_sum k.z k.a k.b c i ps n) (bottoms (m + last))
    tail_is [] i last e = record {
      left_defined = one_not_zero;
      right_defined = factor_defined (m + last);
      cross = across (tops m) (bottoms (m + last));
    }
      where
        across : (t b : ℤ) → pos 0 *ℤ b ≡ (t *ℤ pos 0) *ℤ pos 1
        across t b = ring_z (t ∷ b ∷ []) (search reading_z depth 40 fits 20000) refl
    tail_is (p ∷ ps) i last e =
        let here : (n +ℤ pos i) -ℤ from ≡ pos (m + i) = omega (arith, ints, place) in
        let next : (n +ℤ pos i) +ℤ pos 1 ≡ n +ℤ pos (suc i) = omega (arith, ints) in
        let ends : (m + i) + length ps ≡ m + last = omega (arith, e) in
        let later_place : n +ℤ pos i ≡ from +ℤ pos (m + i) = omega (arith, ints, place) in
        let x : ℤ = term_value k.z.top k.z.bottom k.a k.b c p i (length ps) n in
        let rest : ℤ = case_sum k.z k.a k.b c (suc i) ps n in
        let first : fraction_product (of_whole (value_at_n p n)) (y (n +ℤ pos i)) ≈ ratio (tops m *ℤ x) (bottoms (m + last)) =
        subst (λ (f : Fraction). fraction_product (of_whole (value_at_n p n)) f ≈ ratio (tops m *ℤ x) (bottoms (m + last)))
        (sym (y_at (n +ℤ pos i) (m + i) here))
        (term_equal (value_at_n p n) (value_at_n c (n +ℤ pos i)) (tops m) (pow k.z.top i) (pow k.z.bottom (length ps))
        (product_from (value_at_n k.a) n i) (product_from (value_at_n k.b) (n +ℤ pos i) (length ps)) (bottoms (m + last)) (factor (m + i))
        (ahead tops k.z.top (value_at_n k.a) from top_step m i n place)
        (ap bottoms (sym ends) ∙ ahead bottoms k.z.bottom (value_at_n k.b) from bottom_step (m + i) (length ps) (n +ℤ pos i) later_place)
        (factor_defined (m + i)) (factor_defined (m + last))) in
        let others : left_side ps y n ((n +ℤ pos i) +ℤ pos 1) ≈ ratio (tops m *ℤ rest) (bottoms (m + last)) =
        subst (λ (z : ℤ). left_side ps y n z ≈ ratio (tops m *ℤ rest) (bottoms (m + last))) (sym next)
        (tail_is ps (suc i) last (omega (arith, e))) in
        equal_chain (equal_sums first others)
        (subst (λ (s : ℤ). fraction_sum (ratio (tops m *ℤ x) (bottoms (m + last))) (ratio (tops m *ℤ rest) (bottoms (m + last)))
        ≈ ratio (tops m *ℤ s) (bottoms (m + last))) (sym (case_sum_step k.z k.a k.b c i p ps n))
        (joined (tops m) x rest (bottoms (m + last)) (factor_defined (m + last))))

    at_place : (ps : List Meaning) → Solves (case_equation ps k) c → left_side ps y n n ≈ of_whole (pos 0)
    at_place [] h = equal_to_itself (of_whole (pos 0)) one_not_zero
    at_place (p ∷ ps) h =
        let start : n +ℤ pos 0 ≡ n = omega (arith, ints) in
        let sum : case_sum k.z k.a k.b c 0 (p ∷ ps) n ≡ pos 0 = ap (λ f. value_at_n f n) h in
        equal_chain
        (subst (λ (z : ℤ). left_side (p ∷ ps) y n z ≈ ratio (tops m *ℤ case_sum k.z k.a k.b c 0 (p ∷ ps) n) (bottoms (m + length ps))) start
        (tail_is (p ∷ ps) 0 (length ps) (omega arith)))
        (none (tops m) (case_sum k.z k.a k.b c 0 (p ∷ ps) n) (bottoms (m + length ps)) sum (factor_defined (m + length ps)))

  pub equation_gives_solution : (ps : List Meaning) → Solves (case_equation ps k) c → Satisfies ps from y
  equation_gives_solution ps h n below =
      let place : n ≡ from +ℤ pos (size_of (n -ℤ from)) = omega (arith, ints, sized (n -ℤ from) (omega (arith, ints, below))) in
      at_place n (size_of (n -ℤ from)) place ps h

-- from the first place on no b(m) is 0
pub free_from : (b : Meaning) (from : ℕ) → IsFirstPlace b from → IsFreeOfZeros b (pos from)
free_from b from h m below root = omega (arith, ints, below, h.above m root)
