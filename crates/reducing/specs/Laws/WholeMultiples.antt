-- A row of whole numbers is its reduced row times something that isn't zero.
-- These are lemmas: they stand in specs/, since the laws that `Reducing` names rest on them.
use Rattle.std.specs.Prelude.{◌≡◌, ℕ, zero, suc, ℤ, pos, ◌*ℤ◌, List, [], ◌∷◌, map, length, refl}
use Rattle.std.proofs.Common.{ap, sym, ◌∙◌, arith}
use Rattle.std.proofs.lemmas.List.{length-map}
use Rattle.ring_solver.proofs.Read.{ring_z, reading_z}
use Rattle.ring_laws.specs.Meaning.{Meaning, number}
use Rattle.ring_laws.specs.Algebra.{Passing}
use Rattle.ring_laws.specs.Wholes.{whole_algebra}
use Rattle.kernel_laws.specs.Rows.{entry_at}
use Rattle.kernel_laws.specs.Reduction.{Reduces, bare}
use Rattle.reducing.specs.WholeRows.{WholeReduced}

-- each number times c
abbrev pub scaled : ℕ → List ℤ → List ℤ
scaled c qs = map (λ q. pos c *ℤ q) qs

-- a whole number as a member of the ring
abbrev pub belonging : ℤ → Passing whole_algebra
belonging q = (number q, refl)

bare_row : (qs : List ℤ) → bare whole_algebra (map belonging qs) ≡ map number qs
bare_row [] = refl
bare_row (q ∷ qs) = ap (λ t. number q ∷ t) (bare_row qs)

times_nought : (c : ℤ) → c *ℤ pos 0 ≡ pos 0
times_nought c = ring_z (c ∷ []) (search reading_z depth 40 fits 20000) refl

scaled_at : (c : ℕ) (qs : List ℤ) (k : ℕ) → whole_algebra.ops.product (number (pos c)) (entry_at whole_algebra.ops (map number qs) k)
    ≡ entry_at whole_algebra.ops (map number (scaled c qs)) k
scaled_at c [] k = ap number (times_nought (pos c))
scaled_at c (q ∷ qs) zero = refl
scaled_at c (q ∷ qs) (suc k) = scaled_at c qs k

once_at : (qs : List ℤ) (k : ℕ) → whole_algebra.ops.product (number (pos 1)) (entry_at whole_algebra.ops (map number qs) k)
    ≡ entry_at whole_algebra.ops (map number qs) k
once_at [] k = refl
once_at (q ∷ qs) zero = ap number (ring_z (q ∷ []) (search reading_z depth 40 fits 20000) refl)
once_at (q ∷ qs) (suc k) = once_at qs k

-- a positive number isn't 0
pub positive_isnt : (n : ℕ) → ¬ (number (pos (suc n)) ≡ number (pos 0))
positive_isnt n e = cc

same_size : (old new : List Meaning) (h : WholeReduced old new) → length new ≡ length old
same_size old new h =
    omega (
      arith,
      ap length h.quotients_are,
      length-map h.quotients number,
      ap length h.times,
      length-map h.quotients (λ q. pos h.content *ℤ q),
      ap length h.numbers_are,
      length-map h.numbers number,
    )

-- a row of whole numbers is something that isn't zero times its reduced row
pub whole_reduces : (old new : List Meaning) → WholeReduced old new → Reduces whole_algebra old new
whole_reduces old new h = by_content h.content refl
  where
    by_content : (c : ℕ) → h.content ≡ c → Reduces whole_algebra old new
    by_content zero e = record {
      size = same_size old new h;
      row = map belonging h.quotients;
      row_is = bare_row h.quotients ∙ sym h.quotients_are;
      factor = (number (pos 1), refl);
      not_zero = positive_isnt 0;
      is = λ k. ap (λ t. whole_algebra.ops.product (number (pos 1)) (entry_at whole_algebra.ops t k)) h.quotients_are
          ∙ once_at h.quotients k
          ∙ ap (λ t. entry_at whole_algebra.ops t k) (ap (map number) (h.zeros_stay e) ∙ sym h.numbers_are);
    }
    by_content (suc c) e = record {
      size = same_size old new h;
      row = map belonging h.quotients;
      row_is = bare_row h.quotients ∙ sym h.quotients_are;
      factor = (number (pos (suc c)), refl);
      not_zero = positive_isnt c;
      is = λ k. ap (λ t. whole_algebra.ops.product (number (pos (suc c))) (entry_at whole_algebra.ops t k)) h.quotients_are
          ∙ scaled_at (suc c) h.quotients k
          ∙ ap (λ t. entry_at whole_algebra.ops t k)
          (ap (map number) (ap (λ m. map (λ q. pos m *ℤ q) h.quotients) (sym e) ∙ sym h.times) ∙ sym h.numbers_are);
    }
