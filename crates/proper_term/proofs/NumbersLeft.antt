-- The numbers that are left, from one that stands above more often than below to the next.
use Rattle.std.proofs.Common.{◌≡◌, ◌≢◌, ℕ, zero, suc, ◌+◌, ◌-◌, ◌<◌, ◌≤◌, max, refl, ap, sym, ◌∙◌, arith, List, [], ◌∷◌, ◌++◌, length, ◌⊎◌, inl, inr}
use Rattle.std.proofs.lemmas.Bool.{cases_lt}
use Rattle.std.specs.Prelude.{replicate}
use Rattle.proper_term.specs.Cancelled.{Argument, at_least, greatest, rising, quotient, quotients}
use Rattle.proper_term.specs.Cursors.{IsNextOfTwo, numbers_left, first_of, rest_of}
use Rattle.proper_term.proofs.CancelledFactorials.{counted_above}

at_least_past : (xs : List Argument) (j : ℕ) → greatest xs < j → at_least xs j ≡ 0
at_least_past [] j h = refl
at_least_past (x ∷ xs) j h =
    let here = counted_above x.number x.power j (omega arith) in
    let rest = at_least_past xs j (omega arith) in
    omega (arith, here, rest)

pub rising_none : (counts : ℕ → ℕ) (i m : ℕ) → ((j : ℕ) → i ≤ j → counts j ≡ 0) → rising counts i m ≡ []
rising_none counts i zero h = refl
rising_none counts i (suc m) h =
    ap (λ t. replicate t i ++ rising counts (i + 1) m) (h i (omega arith)) ∙ rising_none counts (i + 1) m (λ j le. h j (omega arith))

rising_skip : (counts : ℕ → ℕ) (i d m : ℕ) → ((j : ℕ) → i ≤ j → j < i + d → counts j ≡ 0) → rising counts i (d + m) ≡ rising counts (i + d) m
rising_skip counts i zero m h = (λ k. rising counts (none i k) (less m k))
  where
    none : (i : ℕ) → i ≡ i + 0
    none i = omega arith

    less : (m : ℕ) → 0 + m ≡ m
    less m = omega arith
rising_skip counts i (suc d) m h =
    ap (rising counts i) (steps d m)
    ∙ ap (λ t. replicate t i ++ rising counts (i + 1) (d + m)) (h i (omega arith) (omega arith))
    ∙ rising_skip counts (i + 1) d m (λ j le below. h j (omega arith) (omega arith))
    ∙ ap (λ t. rising counts t m) (further i d)
  where
    steps : (d m : ℕ) → suc d + m ≡ suc (d + m)
    steps d m = omega arith

    further : (i d : ℕ) → i + 1 + d ≡ i + suc d
    further i d = omega arith

module _ (above below : List Argument) where
  abbrev counts : ℕ → ℕ
  counts i = at_least above i - at_least below i

  abbrev bound : ℕ
  bound = max (greatest above) (greatest below)

  -- up to the next argument, no number stands above more often
  pub skipped : (at v : ℕ) → at_least above (at + 1) - at_least below (at + 1) ≡ 0 → IsNextOfTwo v (at + 1) above below
      → numbers_left above below v 0 ≡ numbers_left above below at 0
  skipped at v none next =
      sym (ap (rising counts (at + 1)) (split at v bound next.from_on next.within)
      ∙ rising_skip counts (at + 1) (v - at) (bound + 1 - v)
      (λ j le low. let a = next.same_above j le (omega (arith, low, next.from_on)) in let b = next.same_below j le (omega
      (arith, low, next.from_on)) in
      omega (arith, a, b, none))
      ∙ ap (λ t. rising counts t (bound + 1 - v)) (joined at v next.from_on))
    where
      split : (at v bound : ℕ) → at + 1 ≤ v → v ≤ bound → bound + 1 - at ≡ (v - at) + (bound + 1 - v)
      split at v bound h k = omega arith

      joined : (at v : ℕ) → at + 1 ≤ v → at + 1 + (v - at) ≡ v + 1
      joined at v h = omega arith

  -- the number that comes next stands above more often
  pub arrived : (at copies : ℕ) → copies ≡ at_least above (at + 1) - at_least below (at + 1) → 0 < copies
      → numbers_left above below (at + 1) copies ≡ numbers_left above below at 0
  arrived at copies is some =
      sym (ap (rising counts (at + 1)) (step (within (cases_lt (greatest above) (at + 1))))
      ∙ ap (λ t. replicate t (at + 1) ++ rising counts (at + 1 + 1) (bound + 1 - (at + 1))) (sym is))
    where
      within : (greatest above < at + 1) ⊎ (at + 1 ≤ greatest above) → at + 1 ≤ bound
      within (inl past) = let none = at_least_past above (at + 1) past in absurd (omega (arith, none, is, some))
      within (inr h) = omega (arith, h)

      step : at + 1 ≤ bound → bound + 1 - at ≡ suc (bound + 1 - (at + 1))
      step h = omega arith

-- where there is a number, the list isn't empty
pub some_left : (above below : List Argument) (at copies : ℕ) → 0 < copies → numbers_left above below at copies ≢ []
some_left above below at zero h e = omega (arith, h)
some_left above below at (suc copies) h e = cc

pub later_none : (copies at : ℕ) (later : List ℕ) → (copies ≡ 0 → replicate copies at ++ later ≡ []) → copies ≡ 0 → later ≡ []
later_none zero at later h e = h refl
later_none (suc copies) at later h e = absurd (omega (arith, e))

-- a pair of numbers
pub next_pair : (ts bs : List ℕ) → (ts ≢ []) ⊎ (bs ≢ []) → quotients ts bs ≡ quotient (first_of ts) (first_of bs) ∷ quotients (rest_of ts)
    (rest_of bs)
next_pair [] [] (inl h) = absurd (h refl)
next_pair [] [] (inr h) = absurd (h refl)
next_pair (t ∷ ts) [] h = refl
next_pair [] (b ∷ bs) h = refl
next_pair (t ∷ ts) (b ∷ bs) h = refl

pub fewer : (ts bs : List ℕ) → (ts ≢ []) ⊎ (bs ≢ []) → length (rest_of ts) + length (rest_of bs) < length ts + length bs
fewer [] [] (inl h) = absurd (h refl)
fewer [] [] (inr h) = absurd (h refl)
fewer (t ∷ ts) [] h = omega arith
fewer [] (b ∷ bs) h = omega arith
fewer (t ∷ ts) (b ∷ bs) h = omega arith
