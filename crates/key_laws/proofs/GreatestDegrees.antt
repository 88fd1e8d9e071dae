-- Where the sides have coefficients that aren't zero, and the greatest power at which one has.
use Rattle.std.specs.Prelude.{◌≡◌, ℕ, zero, suc, max, ◌≤◌, ◌⊎◌, List, [], ◌∷◌, length, refl}
use Rattle.std.proofs.Common.{inl, inr, ⊎_elim, subst, arith}
use Rattle.std.proofs.lemmas.Bool.{cases_lt}
use Rattle.ring_laws.specs.Algebra.{Ops, Algebra, Passing, within, Laws}
use Rattle.poly_laws.specs.PolyAlgebra.{poly_algebra}
use Rattle.poly_laws.proofs.ListLaws.{product_nought}
use Rattle.poly_laws.proofs.Trimming.{beyond, zero_or_not}
use Rattle.kernel_laws.specs.Answers.{Vector}
use Rattle.kernel_laws.specs.Reduction.{bare}
use Rattle.key_laws.specs.DegreeBounds.{HaveZeros, IsGreatestDegree}
use Rattle.division_laws.proofs.Polynomials.{list_of, part, part_nought, nought_part}
use Rattle.key_laws.proofs.Polynomials.{mixed_at}

module _ (a : Algebra) (l : Laws a) where
  abbrev base : Ops (Passing a)
  base = within a l.closed

  abbrev pub AllZero : List (Passing (poly_algebra a)) → ℕ → Type 0
  AllZero fs k = HaveZeros a.ops (bare (poly_algebra a) fs) k

  -- a combination of zeros is zero
  pub no_mix : (v : Vector a) (fs : List (Passing (poly_algebra a))) (k : ℕ) → HaveZeros a.ops (bare (poly_algebra a) fs) k
      → mixed_at a l v fs k ≡ base.nought
  no_mix v [] k h = refl
  no_mix v (f ∷ fs) k h =
      cc (part_nought a l f k h.0, product_nought base l.ring (v 0), no_mix (λ j. v (suc j)) fs k h.1, l.ring.nought_sum base.nought)

  all_zero_or_not : (fs : List (Passing (poly_algebra a))) (k : ℕ) → AllZero fs k ⊎ ¬ AllZero fs k
  all_zero_or_not [] k = inl tt
  all_zero_or_not (f ∷ fs) k =
      ⊎_elim
      (λ z. ⊎_elim (λ h. inl (nought_part a l f k z, h)) (λ m. inr (λ h. m h.1)) (all_zero_or_not fs k))
      (λ m. inr (λ h. m (part_nought a l f k h.0)))
      (zero_or_not base l.ring (part a l f k))

  -- more than every degree
  height : List (Passing (poly_algebra a)) → ℕ
  height [] = 0
  height (f ∷ fs) = max (length (list_of a l f)) (height fs)

  above_height : (fs : List (Passing (poly_algebra a))) (k : ℕ) → height fs ≤ k → AllZero fs k
  unfolding height
  above_height [] k h = tt
  above_height (f ∷ fs) k h =
      (nought_part a l f k (beyond base (list_of a l f) k (omega (arith, h))), above_height fs k (omega (arith, h)))

  pub record GreatestFrom (fs : List (Passing (poly_algebra a))) (k : ℕ) : Type 0 where
    pub degree : ℕ
    pub is_greatest : IsGreatestDegree a.ops (bare (poly_algebra a) fs) degree
    pub from : k ≤ degree

  greatest_below : (fs : List (Passing (poly_algebra a))) (n : ℕ) → ((i : ℕ) → n ≤ i → AllZero fs i) → (k : ℕ) → ¬ AllZero fs k → GreatestFrom fs k
  greatest_below fs zero h k some = absurd (some (h k (omega arith)))
  greatest_below fs (suc n) h k some =
      ⊎_elim
      (λ z. greatest_below fs n (λ i b. ⊎_elim (λ c. h i c) (λ c. subst (AllZero fs) (same i b c) z) (cases_lt n i)) k some)
      (λ m. record {
        degree = n;
        is_greatest = record { lead = m; above = λ i b. h i b };
        from = ⊎_elim (λ c. absurd (some (h k c))) (λ c. c) (cases_lt n k);
      })
      (all_zero_or_not fs n)
    where
      same : (i : ℕ) → n ≤ i → i ≤ n → n ≡ i
      same i b c = omega arith

  -- where one isn't zero at a power, there is a greatest degree, from that power on
  pub greatest_from : (fs : List (Passing (poly_algebra a))) (k : ℕ) → ¬ HaveZeros a.ops (bare (poly_algebra a) fs) k → GreatestFrom fs k
  greatest_from fs k some = greatest_below fs (height fs) (above_height fs) k some
