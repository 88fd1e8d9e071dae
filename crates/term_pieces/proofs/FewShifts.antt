-- A form is taken only at shifts that the offsets of q0 and r0 bound.
use Rattle.std.proofs.Common.{◌≡◌, ◌≢◌, ℕ, zero, suc, ◌+◌, ◌-◌, ◌≤◌, ◌<◌, min, List, [], ◌∷◌, refl, ap, ◌∙◌, arith}
use Rattle.std.proofs.lemmas.Int.{ints}
use Rattle.std.specs.Prelude.{ℤ, pos, negsuc, ◌+ℤ◌, ◌*ℤ◌, neg_ℤ, unsigned_abs}
use Rattle.ring_solver.proofs.Read.{ring_z, reading_z}
use Rattle.hypergeometric.specs.LinearForm.{LinearForm, Factor}
use Rattle.hypergeometric.specs.FactorLists.{power_of}
use Rattle.hypergeometric.specs.Forms.{form_with}
use Rattle.term_pieces.specs.Products.{at_later_k}
use Rattle.term_pieces.specs.NormalForm.{at_earlier_k, Taken, sum_of_first, taken_above, taken_below, IsTaking}
use Rattle.term_pieces.proofs.SomeTaking.{offsets_of, offset_within, moved_offset}

-- a form without k is itself at each k
without_k : (s : LinearForm) (j : ℤ) → s.k_slope ≡ pos 0 → at_later_k s j ≡ s
without_k s j z = ap (form_with s.n_slope s.k_slope) (ap (λ c. s.offset +ℤ c *ℤ j) z ∙ still s.offset j)
  where
    still : (o j : ℤ) → o +ℤ pos 0 *ℤ j ≡ o
    still o j = ring_z (o ∷ j ∷ []) (search reading_z depth 40 fits 20000) refl

first_in_sum : (g : ℕ → ℕ) (h : ℕ) → g 0 ≤ sum_of_first g (suc h)
first_in_sum g zero = omega arith
first_in_sum g (suc h) = omega (arith, first_in_sum g h)

module _ (q0 r0 : List Factor) (e : Taken) (takes : IsTaking q0 r0 e) where
  -- so it is taken at the shift 0 alone
  once_only : (s : LinearForm) (h : ℕ) → s.k_slope ≡ pos 0 → e s (suc h) ≡ 0
  once_only s h z =
      let here : e s 0 ≡ min (power_of s q0 - 0) (power_of s r0 - 0) =
      takes s 0 ∙ ap (λ t. min (power_of s q0 - 0) (power_of t r0 - 0)) (without_k s (neg_ℤ (pos 0)) z) in
      let later : e s (suc h) ≡ min (power_of s q0 - taken_above e s (suc h)) (power_of s r0 - taken_below e s (suc h)) =
      takes s (suc h) ∙ ap (λ t. min (power_of s q0 - taken_above e s (suc h)) (power_of t r0 - taken_below e t (suc h)))
      (without_k s (neg_ℤ (pos (suc h))) z) in
      let above : e s 0 ≤ taken_above e s (suc h) = first_in_sum (e s) h in
      let below : e (at_later_k s (pos 0)) 0 ≤ taken_below e s (suc h) = first_in_sum (λ i. e (at_later_k s (pos i)) i) h in
      let same : e (at_later_k s (pos 0)) 0 ≡ e s 0 = ap (λ t. e t 0) (without_k s (pos 0) z) in
      omega (arith, here, later, above, below, same)

  pub few_shifts : (s : LinearForm) (h : ℕ) → e s h ≢ 0 → h < suc (offsets_of q0 + offsets_of r0)
  few_shifts s h some = by s.k_slope h refl some (moved_offset s.offset s.k_slope h) refl
    where
      above : unsigned_abs s.offset ≤ offsets_of q0
      above = offset_within s q0 (λ z. some (omega (arith, takes s h, z)))

      below : unsigned_abs (s.offset +ℤ s.k_slope *ℤ neg_ℤ (pos h)) ≤ offsets_of r0
      below = offset_within (at_earlier_k s h) r0 (λ z. some (omega (arith, takes s h, z)))

      by : (c : ℤ) (i : ℕ) → s.k_slope ≡ c → e s i ≢ 0
          → (s.k_slope ≢ pos 0 → h ≤ unsigned_abs s.offset + unsigned_abs (s.offset +ℤ s.k_slope *ℤ neg_ℤ (pos h)))
          → (i ≡ h → i < suc (offsets_of q0 + offsets_of r0))
      by (pos zero) zero is ne far same = omega arith
      by (pos zero) (suc i) is ne far same = absurd (ne (once_only s i is))
      by (pos (suc m)) i is ne far same = omega (arith, far (λ z. omega (arith, ints, z, is)), above, below, same)
      by (negsuc m) i is ne far same = omega (arith, far (λ z. omega (arith, ints, z, is)), above, below, same)
