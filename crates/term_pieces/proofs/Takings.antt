-- What is taken is never more than there is, and is taken in one way only.
use Rattle.std.proofs.Common.{◌≡◌, ℕ, zero, suc, ◌-◌, ◌≤◌, ◌<◌, min, List, subst, arith}
use Rattle.std.specs.Prelude.{pos}
use Rattle.hypergeometric.specs.LinearForm.{LinearForm, Factor}
use Rattle.hypergeometric.specs.FactorLists.{power_of}
use Rattle.term_pieces.specs.Products.{at_later_k}
use Rattle.term_pieces.specs.NormalForm.{Taken, IsTaking, at_earlier_k, taken_above, taken_below}
use Rattle.term_pieces.proofs.EarlierForms.{and_back}
use Rattle.term_pieces.proofs.Sums.{same_sums}

pub no_more_above : (q0 r0 : List Factor) (e : Taken) → IsTaking q0 r0 e → (s : LinearForm) (h : ℕ) → taken_above e s h ≤ power_of s q0
no_more_above q0 r0 e takes s zero = omega arith
no_more_above q0 r0 e takes s (suc h) = omega (arith, no_more_above q0 r0 e takes s h, takes s h)

pub no_more_below : (q0 r0 : List Factor) (e : Taken) → IsTaking q0 r0 e → (t : LinearForm) (h : ℕ) → taken_below e t h ≤ power_of t r0
no_more_below q0 r0 e takes t zero = omega arith
no_more_below q0 r0 e takes t (suc h) =
    let s = at_later_k t (pos h) in
    let here : e s h ≡ min (power_of s q0 - taken_above e s h) (power_of t r0 - taken_below e t h) =
    subst (λ u. e s h ≡ min (power_of s q0 - taken_above e s h) (power_of u r0 - taken_below e u h)) (and_back t h) (takes s h) in
    omega (arith, no_more_below q0 r0 e takes t h, here)

-- two takings that agree at all shifts below h
agree_below : (q0 r0 : List Factor) (d e : Taken) → IsTaking q0 r0 d → IsTaking q0 r0 e → (h : ℕ) → (i : ℕ) → i < h → (s : LinearForm) → d s i ≡ e s i
agree_below q0 r0 d e p q zero i l s = absurd (omega (arith, l))
agree_below q0 r0 d e p q (suc h) i l s = by (agree_below q0 r0 d e p q h)
  where
    by : ((i : ℕ) → i < h → (s : LinearForm) → d s i ≡ e s i) → d s i ≡ e s i
    by before =
        let t = at_earlier_k s i in
        let above : taken_above d s i ≡ taken_above e s i = same_sums (d s) (e s) i (λ j m. before j (omega (arith, m, l)) s) in
        let below : taken_below d t i ≡ taken_below e t i =
        same_sums (λ j. d (at_later_k t (pos j)) j) (λ j. e (at_later_k t (pos j)) j) i (λ j m. before j (omega (arith, m, l)) (at_later_k t (pos j))) in
        omega (arith, above, below, p s i, q s i)

pub one_taking : (q0 r0 : List Factor) (d e : Taken) → IsTaking q0 r0 d → IsTaking q0 r0 e → (s : LinearForm) (h : ℕ) → d s h ≡ e s h
one_taking q0 r0 d e p q s h = agree_below q0 r0 d e p q (suc h) h (omega arith) s
