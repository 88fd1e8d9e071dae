-- Vectors that end at rising columns are independent.
use Rattle.std.proofs.Common.{◌≡◌, ℕ, zero, suc, ◌+◌, ◌<◌, ◌≤◌, List, [], ◌∷◌, length, get_or, refl, sym, ◌∙◌, ap, subst, arith, ⊎_elim}
use Rattle.std.specs.List.{AllZip}
use Rattle.std.specs.List.Sorted.{IsStrictlyIncreasing}
use Rattle.ring_laws.specs.Algebra.{Ops, RingLaws}
use Rattle.poly_laws.proofs.ListLaws.{sum_nought, product_nought, nought_product}
use Rattle.poly_laws.proofs.OneQuotient.{NoDivisors}
use Rattle.kernel_laws.specs.Kernels.{EndsAt, combined}

-- each number above those before it, and the first at least the low one
abbrev RisesFrom : ℕ → List ℕ → Type 0
RisesFrom low [] = Unit {0}
RisesFrom low (j ∷ js) = (low ≤ j) × RisesFrom (suc j) js

rises : (low j : ℕ) (js : List ℕ) → IsStrictlyIncreasing (j ∷ js) → low ≤ j → RisesFrom low (j ∷ js)
rises low j [] h b = (b, tt)
rises low j (i ∷ is) h b =
    (b, rises (suc j) i is (λ k c. let same : suc k + 1 ≡ suc (k + 1) = omega arith in next k c same) (omega (arith, h 0 (omega arith))))
  where
    next : (k : ℕ) → k + 1 < length (i ∷ is) → suc k + 1 ≡ suc (k + 1) → get_or (i ∷ is) k 0 < get_or (i ∷ is) (k + 1) 0
    next k c same = subst (λ t. get_or (j ∷ i ∷ is) (suc k) 0 < get_or (j ∷ i ∷ is) t 0) same (h (suc k) (omega (arith, c)))

rises_all : (js : List ℕ) → IsStrictlyIncreasing js → RisesFrom 0 js
rises_all [] h = tt
rises_all (j ∷ js) h = rises 0 j js h (omega arith)

module _ {A : Type 0} (o : Ops A) (l : RingLaws o) (d : NoDivisors o) (n : ℕ) where
  no_multiples : (vs : List (ℕ → A)) (c : ℕ → A) (k : ℕ) → ((i : ℕ) → i < length vs → c i ≡ o.nought) → combined o c vs k ≡ o.nought
  no_multiples [] c k h = refl
  no_multiples (v ∷ vs) c k h =
      cc (h 0 (omega arith), no_multiples vs (λ i. c (suc i)) k (λ i b. h (suc i) (omega (arith, b))), nought_product o l (v k), l.nought_sum o.nought)

  -- past the column of the first vector only the others count
  further : (c : ℕ → A) (v : ℕ → A) (vs : List (ℕ → A)) (k : ℕ) → v k ≡ o.nought → combined o c (v ∷ vs) k ≡ o.nought
      → combined o (λ i. c (suc i)) vs k ≡ o.nought
  further c v vs k e z =
      sym (cc (e, product_nought o l (c 0), l.nought_sum (combined o (λ i. c (suc i)) vs k))) ∙ z

  -- and at that column only the first, once the others are not taken
  first_multiple : (c : ℕ → A) (v : ℕ → A) (vs : List (ℕ → A)) (k : ℕ) → ¬ (v k ≡ o.nought) → ((i : ℕ) → i < length vs → c (suc i) ≡ o.nought)
      → combined o c (v ∷ vs) k ≡ o.nought → c 0 ≡ o.nought
  first_multiple c v vs k here rest z =
      let alone : o.product (c 0) (v k) ≡ o.nought =
      sym (ap (o.sum (o.product (c 0) (v k))) (no_multiples vs (λ i. c (suc i)) k rest) ∙ sum_nought o l (o.product (c 0) (v k))) ∙ z in
      ⊎_elim (λ h. h) (λ h. absurd (here h)) (d (c 0) (v k) alone)

  stairs : (vs : List (ℕ → A)) (js : List ℕ) (low : ℕ) (c : ℕ → A) → AllZip (EndsAt o n) vs js → RisesFrom low js
      → ((k : ℕ) → low ≤ k → k < n → combined o c vs k ≡ o.nought) → (i : ℕ) → i < length vs → c i ≡ o.nought
  stairs [] js low c e r z i b = absurd (omega (arith, b))
  stairs (v ∷ vs) [] low c e r z i b = absurd e
  stairs (v ∷ vs) (j ∷ js) low c e r z zero b =
      first_multiple c v vs j e.0.here
      (stairs vs js (suc j) (λ t. c (suc t)) e.1 r.1
      (λ k m s. further c v vs k (e.0.later k (omega (arith, m)) s) (z k (omega (arith, m, r.0)) s)))
      (z j r.0 e.0.within)
  stairs (v ∷ vs) (j ∷ js) low c e r z (suc i) b =
      stairs vs js (suc j) (λ t. c (suc t)) e.1 r.1
      (λ k m s. further c v vs k (e.0.later k (omega (arith, m)) s) (z k (omega (arith, m, r.0)) s)) i (omega (arith, b))

  -- a sum of multiples of the vectors is zero only where each is taken by zero
  pub independent : (vs : List (ℕ → A)) (js : List ℕ) → AllZip (EndsAt o n) vs js → IsStrictlyIncreasing js → (c : ℕ → A)
      → ((k : ℕ) → k < n → combined o c vs k ≡ o.nought) → (i : ℕ) → i < length vs → c i ≡ o.nought
  independent vs js e r c z = stairs vs js 0 c e (rises_all js r) (λ k m s. z k s)
