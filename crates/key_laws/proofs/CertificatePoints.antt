-- The identity of a certificate holds at each n and k, between numbers.
use Rattle.std.specs.Prelude.{◌≡◌, ℤ, pos, ◌+ℤ◌, ◌*ℤ◌, neg_ℤ, [], ◌∷◌, refl}
use Rattle.std.proofs.Common.{ap, sym, ◌∙◌}
use Rattle.ring_laws.specs.Meaning.{Meaning}
use Rattle.poly_laws.specs.Values.{value_at, level}
use Rattle.poly_laws.proofs.Keeps.{value_at_keeps}
use Rattle.poly_laws.proofs.ShiftLaws.{value_at_shift}
use Rattle.division_laws.specs.Polynomials.{at_next}
use Rattle.key_laws.specs.Certificates.{IsCertificate}

module _ (n k : ℤ) where
  -- the value at n and k, and at n and k + 1
  abbrev here : Meaning → ℤ
  here p = value_at (k ∷ n ∷ []) p

  abbrev next : Meaning → ℤ
  next p = value_at ((k +ℤ pos 1) ∷ n ∷ []) p

  product_at : (x y : Meaning) (a b : ℤ) → here x ≡ a → here y ≡ b → here ((level 2).ops.product x y) ≡ a *ℤ b
  product_at x y a b e g = (value_at_keeps (k ∷ n ∷ [])).product x y ∙ (λ i. e i *ℤ g i)

  next_at : (x : Meaning) → here (at_next (level 1).ops x) ≡ next x
  next_at x = value_at_shift k (pos 1) (n ∷ []) x

  pub certificate_at : (q b s u w : Meaning) → IsCertificate (level 1).ops q b s u w
      → value_at (k ∷ n ∷ []) q *ℤ (value_at ((k +ℤ pos 1) ∷ n ∷ []) u *ℤ value_at (k ∷ n ∷ []) w)
      +ℤ neg_ℤ (value_at (k ∷ n ∷ []) b *ℤ (value_at (k ∷ n ∷ []) u *ℤ value_at ((k +ℤ pos 1) ∷ n ∷ []) w))
      ≡ value_at (k ∷ n ∷ []) s *ℤ (value_at (k ∷ n ∷ []) w *ℤ value_at ((k +ℤ pos 1) ∷ n ∷ []) w)
  certificate_at q b s u w e = sym left ∙ ap here e ∙ right
    where
      above : here ((level 2).ops.product q ((level 2).ops.product (at_next (level 1).ops u) w)) ≡ here q *ℤ (next u *ℤ here w)
      above = product_at q ((level 2).ops.product (at_next (level 1).ops u) w) _ _ refl (product_at (at_next (level 1).ops u) w _ _ (next_at u) refl)

      below : here ((level 2).ops.product b ((level 2).ops.product u (at_next (level 1).ops w))) ≡ here b *ℤ (here u *ℤ next w)
      below = product_at b ((level 2).ops.product u (at_next (level 1).ops w)) _ _ refl (product_at u (at_next (level 1).ops w) _ _ refl (next_at w))

      left : here ((level 2).ops.sum ((level 2).ops.product q ((level 2).ops.product (at_next (level 1).ops u) w))
          ((level 2).ops.neg ((level 2).ops.product b ((level 2).ops.product u (at_next (level 1).ops w)))))
          ≡ here q *ℤ (next u *ℤ here w) +ℤ neg_ℤ (here b *ℤ (here u *ℤ next w))
      left =
          (value_at_keeps (k ∷ n ∷ [])).sum ((level 2).ops.product q ((level 2).ops.product (at_next (level 1).ops u) w))
          ((level 2).ops.neg ((level 2).ops.product b ((level 2).ops.product u (at_next (level 1).ops w))))
          ∙ (λ i. above i +ℤ ((value_at_keeps (k ∷ n ∷ [])).neg ((level 2).ops.product b ((level 2).ops.product u (at_next (level 1).ops w))) ∙ ap neg_ℤ below) i)

      right : here ((level 2).ops.product s ((level 2).ops.product w (at_next (level 1).ops w))) ≡ here s *ℤ (here w *ℤ next w)
      right = product_at s ((level 2).ops.product w (at_next (level 1).ops w)) _ _ refl (product_at w (at_next (level 1).ops w) _ _ refl (next_at w))
