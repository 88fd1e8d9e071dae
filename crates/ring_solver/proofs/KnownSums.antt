-- Sums and products over ranges that are known from elsewhere, and the certificate of a sum of binomials.
use Prim.Native.Nat.{ℕ}
use mathlib.Core.Path.{◌≡◌, refl, ◌∙◌}
use mathlib.Core.List.{[], ◌∷◌}
use lib.IntN.{ℤ, pos, negsuc, ◌+ℤ◌, ◌-ℤ◌, ◌*ℤ◌, neg_ℤ}
use Rattle.ring_solver.specs.Ranges.{over, sum_z, rising, span}
use Rattle.ring_solver.proofs.Integers.{integers}
use Rattle.ring_solver.proofs.Read.{reading_z, ring_z}
use Rattle.ring_solver.proofs.Sums.{telescopes}

-- 1 + 4 + 9 + 16 = 30, and a sum of no terms is 0
known_sums : (sum_z (pos 1) 4 (λ (k : ℤ). k *ℤ k) ≡ pos 30) × (sum_z (pos 7) 0 (λ (k : ℤ). k) ≡ pos 0)
unfolding over
known_sums = (refl, refl)

-- 1 2 3 4 5 = 120, (-2) (-1) = 2, a factor of 0 counts, and a product of no factors is 1
known_rising : (rising (pos 1) 5 ≡ pos 120) × (rising (negsuc 1) 2 ≡ pos 2) × (rising (negsuc 1) 4 ≡ pos 0) × (rising (pos 0) 0 ≡ pos 1)
unfolding over
known_rising = (refl, refl, refl, refl)

-- from -2 to 3 there are six integers, from 3 to 2 none, from 3 to 0 none
known_spans : (span (negsuc 1) (pos 3) ≡ 6) × (span (pos 3) (pos 2) ≡ 0) × (span (pos 3) (pos 0) ≡ 0)
known_spans = (refl, refl, refl)

-- 2 (0 + 1 + .. + (n - 1)) = n (n - 1), since 2 k = (k + 1) k - k (k - 1)
sum_of_first_numbers : (n : ℕ) → sum_z (pos 0) n (λ (k : ℤ). pos 2 *ℤ k) ≡ pos n *ℤ (pos n -ℤ pos 1)
sum_of_first_numbers n =
    telescopes integers (pos 0) n (λ (k : ℤ). pos 2 *ℤ k) (λ (k : ℤ). k *ℤ (k -ℤ pos 1)) step ∙ ends (pos n)
  where
    step : (k : ℤ) → pos 2 *ℤ k ≡ (k +ℤ pos 1) *ℤ ((k +ℤ pos 1) -ℤ pos 1) -ℤ k *ℤ (k -ℤ pos 1)
    step k = ring_z (k ∷ []) (search reading_z depth 40 fits 20000) refl

    ends : (z : ℤ) → (pos 0 +ℤ z) *ℤ ((pos 0 +ℤ z) -ℤ pos 1) -ℤ pos 0 *ℤ (pos 0 -ℤ pos 1) ≡ z *ℤ (z -ℤ pos 1)
    ends z = ring_z (z ∷ []) (search reading_z depth 40 fits 20000) refl

-- ---- the sum over k of C(n, k)^2 is C(2n, n): the certificate R(n, k) = -k^2 (3n + 3 - 2k) / (2 (2n + 1) (n + 1 - k)^2)
-- F(n, k) = C(n, k)^2 / C(2n, n); F(n + 1, k) / F(n, k), above and below
abbrev next_row_top : ℤ → ℤ
next_row_top n = (n +ℤ pos 1) *ℤ (n +ℤ pos 1) *ℤ (n +ℤ pos 1)

abbrev next_row_bottom : ℤ → ℤ → ℤ
next_row_bottom n k = pos 2 *ℤ (pos 2 *ℤ n +ℤ pos 1) *ℤ (n +ℤ pos 1 -ℤ k) *ℤ (n +ℤ pos 1 -ℤ k)

-- F(n, k + 1) / F(n, k), above and below
abbrev next_place_top : ℤ → ℤ → ℤ
next_place_top n k = (n -ℤ k) *ℤ (n -ℤ k)

abbrev next_place_bottom : ℤ → ℤ
next_place_bottom k = (k +ℤ pos 1) *ℤ (k +ℤ pos 1)

-- R(n, k), above and below
abbrev certificate_top : ℤ → ℤ → ℤ
certificate_top n k = neg_ℤ (k *ℤ k) *ℤ (pos 3 *ℤ n +ℤ pos 3 -ℤ pos 2 *ℤ k)

abbrev certificate_bottom : ℤ → ℤ → ℤ
certificate_bottom n k = pos 2 *ℤ (pos 2 *ℤ n +ℤ pos 1) *ℤ (n -ℤ k +ℤ pos 1) *ℤ (n -ℤ k +ℤ pos 1)

-- F(n + 1, k) - F(n, k) = R(n, k + 1) F(n, k + 1) - R(n, k) F(n, k), divided by F(n, k) and cross-multiplied: degree 11 in n and k
certificate_of_squared_binomials : (n k : ℤ)
    → (next_row_top n -ℤ next_row_bottom n k)
    *ℤ (certificate_bottom n (k +ℤ pos 1) *ℤ next_place_bottom k *ℤ certificate_bottom n k)
    ≡ (certificate_top n (k +ℤ pos 1) *ℤ next_place_top n k *ℤ certificate_bottom n k
    -ℤ certificate_top n k *ℤ (certificate_bottom n (k +ℤ pos 1) *ℤ next_place_bottom k))
    *ℤ next_row_bottom n k
certificate_of_squared_binomials n k = ring_z (n ∷ k ∷ []) (search reading_z depth 40 fits 20000) refl
