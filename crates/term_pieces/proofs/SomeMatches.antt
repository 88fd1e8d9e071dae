-- What is taken, as matches: at each shift below a bound, the forms that are taken there, in order.
use Rattle.std.proofs.Common.{◌≡◌, ◌≢◌, ℕ, zero, suc, ◌+◌, ◌<◌, List, [], ◌∷◌, ◌++◌, refl, ap, ◌∙◌, subst, arith, ◌⊎◌, inl, inr}
use Rattle.std.proofs.lemmas.Bool.{cases_eq}
use Rattle.std.specs.List.{AllByRecursion}
use Rattle.std.specs.Prelude.{pos}
use Rattle.hypergeometric.specs.LinearForm.{LinearForm, Factor}
use Rattle.hypergeometric.specs.Match.{Match}
use Rattle.term_pieces.specs.Products.{at_later_k}
use Rattle.term_pieces.specs.NormalForm.{Taken, taken_above, taken_below, AreInOrder, Occurs, form_above, form_below, matched, power_within, AreMatches}
use Rattle.term_pieces.proofs.OneList.{AllSome}
use Rattle.term_pieces.proofs.PowerLists.{powers_listed, IsAmong, AllGiven, listed_given, listed_some, listed_sorted, listed_power}
use Rattle.term_pieces.proofs.SamePowers.{power_joined, power_once}
use Rattle.term_pieces.proofs.ShiftedMatches.{at_shift, all_joined, all_shifted, all_true, all_follow, order_joined, order_shifted, occurs_first, occurs_last, occurs_shifted, matched_joined, power_above, power_below}

module _ (e : Taken) (fs : List LinearForm) where
  abbrev taken_at : ℕ → List Factor
  taken_at h = powers_listed (λ s. e s h) fs

  -- the matches at the shifts below a bound
  abbrev pub matches_below : ℕ → List Match
  matches_below zero = []
  matches_below (suc h) = matches_below h ++ at_shift h (taken_at h)

  shifts_below : (h : ℕ) → AllByRecursion (λ m. m.shift < h) (matches_below h)
  shifts_below zero = tt
  shifts_below (suc h) =
      all_joined (λ m. m.shift < suc h) (matches_below h) (at_shift h (taken_at h))
      (all_follow (λ m. m.shift < h) (λ m. m.shift < suc h) (matches_below h) (λ m l. omega (arith, l)) (shifts_below h))
      (all_shifted (λ m. m.shift < suc h) h (taken_at h) (all_true (λ x. h < suc h) (taken_at h) (λ x. omega arith)))

  matches_in_order : (h : ℕ) → AreInOrder (matches_below h)
  matches_in_order zero = tt
  matches_in_order (suc h) =
      order_joined h (matches_below h) (at_shift h (taken_at h)) (shifts_below h)
      (all_shifted (λ m. m.shift ≡ h) h (taken_at h) (all_true (λ x. h ≡ h) (taken_at h) (λ x. refl)))
      (matches_in_order h) (order_shifted h (taken_at h) (listed_sorted (λ s. e s h) fs))

  abbrev IsTaken : Match → Type 0
  IsTaken m = (m.power ≡ e m.form m.shift) × (m.power ≢ 0)

  each_taken : (h : ℕ) → AllByRecursion IsTaken (matches_below h)
  each_taken zero = tt
  each_taken (suc h) =
      all_joined IsTaken (matches_below h) (at_shift h (taken_at h)) (each_taken h)
      (all_shifted IsTaken h (taken_at h) (both (taken_at h) (listed_given (λ s. e s h) fs) (listed_some (λ s. e s h) fs)))
    where
      both : (xs : List Factor) → AllGiven (λ s. e s h) xs → AllSome xs → AllByRecursion (λ x. (x.power ≡ e x.form h) × (x.power ≢ 0)) xs
      both [] a b = tt
      both (x ∷ xs) a b = ((a.0, b.0), both xs a.1 b.1)

  module _ (known : (s : LinearForm) (h : ℕ) → e s h ≢ 0 → IsAmong s fs) where
    all_occur : (bound : ℕ) (s : LinearForm) (h : ℕ) → h < bound → e s h ≢ 0 → Occurs form_above s h (e s h) (matches_below bound)
    all_occur zero s h l some = absurd (omega (arith, l))
    all_occur (suc bound) s h l some = by (cases_eq h bound) (λ m. all_occur bound s h m some)
      where
        last : Occurs form_above s h (e s h) (at_shift h (taken_at h))
        last = occurs_shifted s h (e s h) (taken_at h) (listed_power (λ t. e t h) s fs (known s h)) some

        by : ((h ≡ bound) ⊎ (h ≢ bound)) → (h < bound → Occurs form_above s h (e s h) (matches_below bound))
            → Occurs form_above s h (e s h) (matches_below (suc bound))
        by (inl same) earlier =
            occurs_last s h (e s h) (matches_below bound) (at_shift bound (taken_at bound))
            (subst (λ b. Occurs form_above s h (e s h) (at_shift b (taken_at b))) same last)
        by (inr other) earlier =
            occurs_first s h (e s h) (matches_below bound) (at_shift bound (taken_at bound)) (earlier (omega (arith, l, other)))

    pub are_matches : (bound : ℕ) → ((s : LinearForm) (h : ℕ) → e s h ≢ 0 → h < bound) → AreMatches e (matches_below bound)
    are_matches bound few = record {
      in_order = matches_in_order bound;
      each = each_taken bound;
      all = λ s h some. all_occur bound s h (few s h some) some;
    }

    pub matched_above : (f : LinearForm) (h : ℕ) → power_within f (matched form_above (matches_below h)) ≡ taken_above e f h
    matched_above f zero = refl
    matched_above f (suc h) =
        ap (power_within f) (matched_joined form_above (matches_below h) (at_shift h (taken_at h)))
        ∙ power_joined f (matched form_above (matches_below h)) (matched form_above (at_shift h (taken_at h)))
        ∙ (λ i. matched_above f h i + (power_above f h (taken_at h) ∙ power_once f (taken_at h) (listed_sorted (λ s. e s h) fs)
        ∙ listed_power (λ s. e s h) f fs (known f h)) i)

    pub matched_below : (t : LinearForm) (h : ℕ) → power_within t (matched form_below (matches_below h)) ≡ taken_below e t h
    matched_below t zero = refl
    matched_below t (suc h) =
        ap (power_within t) (matched_joined form_below (matches_below h) (at_shift h (taken_at h)))
        ∙ power_joined t (matched form_below (matches_below h)) (matched form_below (at_shift h (taken_at h)))
        ∙ (λ i. matched_below t h i + (power_below t h (taken_at h)
        ∙ power_once (at_later_k t (pos h)) (taken_at h) (listed_sorted (λ s. e s h) fs)
        ∙ listed_power (λ s. e s h) (at_later_k t (pos h)) fs (known (at_later_k t (pos h)) h)) i)
