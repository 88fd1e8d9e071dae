-- Sequences that rise or fall, and the turns of their sign.
use Rattle.std.specs.Prelude.{◌≡◌, ℕ, zero, suc, ℤ, pos, negsuc, ◌+ℤ◌, ◌-ℤ◌, neg_ℤ, ◌≤ℤ◌, ◌<ℤ◌, refl}
use Rattle.std.proofs.Common.{ap, sym, ◌∙◌, subst, inl, inr, ⊎_elim, arith}
use Rattle.std.proofs.lemmas.Int.{ints}
use Rattle.ring_laws.specs.declared.wholes.Sign.{Sign}
use Rattle.ring_laws.specs.declared.wholes.Sign.TheVariants.{Negative, Zero, Positive}
use Rattle.whole_roots.specs.Signs.{sign_of}
use Rattle.whole_roots.specs.Turns.{SameSign, IsTurn, Rises, Falls, IsMonotone, StaysUpTo, IsNextTurn}
use Rattle.whole_roots.proofs.AllOf.{at_most_or_above}
use Rattle.whole_roots.proofs.SignLemmas.{zero_sign, not_negative, not_positive, same_or_not, between_signs}

-- what holds at a start and is kept by each step holds up to the end
climb : (P : ℤ → Type 0) (start end : ℤ) → P start → ((z : ℤ) → start <ℤ z → z ≤ℤ end → P (z +ℤ negsuc 0) → P z)
    → (n : ℕ) → (start +ℤ pos n) ≤ℤ end → P (start +ℤ pos n)
climb P start end base step zero h = subst P (omega (arith, ints)) base
climb P start end base step (suc n) h =
    step (start +ℤ pos (suc n)) (omega (arith, ints)) h
    (subst P (omega (arith, ints)) (climb P start end base step n (omega (arith, ints, h))))

distance : (start z d : ℤ) → z ≡ start +ℤ d → start ≤ℤ z → (n : ℕ) × (z ≡ start +ℤ pos n)
distance start z (pos n) e h = (n, e)
distance start z (negsuc n) e h = absurd (omega (arith, ints, e, h))

pub reach : (P : ℤ → Type 0) (start end : ℤ) → P start → ((z : ℤ) → start <ℤ z → z ≤ℤ end → P (z +ℤ negsuc 0) → P z)
    → (z : ℤ) → start ≤ℤ z → z ≤ℤ end → P z
reach P start end base step z low high =
    let d = distance start z (z -ℤ start) (omega (arith, ints)) low in
    subst P (sym d.1) (climb P start end base step d.0 (omega (arith, ints, d.1, high)))

-- without a turn the sign stays
pub stays : (f : ℤ → ℤ) (start end : ℤ) → StaysUpTo f start end → (z : ℤ) → start ≤ℤ z → z ≤ℤ end → SameSign f start z
stays f start end h =
    reach (λ z. SameSign f start z) start end refl
    (λ z above within e. e ∙ ⊎_elim (λ t. t) (λ n. absurd (h z above within n)) (same_or_not (sign_of (f (z +ℤ negsuc 0))) (sign_of (f z))))

-- where a sign of 0 stays, all are 0
pub zero_stays : (f : ℤ → ℤ) (first start end z : ℤ) → StaysUpTo f start end → first ≡ start → sign_of (f first) ≡ Zero → start ≤ℤ z → z ≤ℤ end
    → f z ≡ pos 0
zero_stays f first start end z h e s low high =
    zero_sign (f z) (sym (stays f start end h z low high) ∙ sym (ap (λ (y : ℤ). sign_of (f y)) e) ∙ s)

pub monotone_within : (f : ℤ → ℤ) (start end low high : ℤ) → start ≤ℤ low → high ≤ℤ end → IsMonotone f start end → IsMonotone f low high
monotone_within f start end low high p q (inl h) = inl (λ x y a b c. h x y (omega (arith, ints, p, a)) b (omega (arith, ints, q, c)))
monotone_within f start end low high p q (inr h) = inr (λ x y a b c. h x y (omega (arith, ints, p, a)) b (omega (arith, ints, q, c)))

-- between two places of one sign a monotone sequence has that sign
pub sign_between : (f : ℤ → ℤ) (start end x y z : ℤ) → IsMonotone f start end → start ≤ℤ x → x ≤ℤ y → y ≤ℤ z → z ≤ℤ end → SameSign f x z → SameSign f x y
sign_between f start end x y z (inl h) a b c d e =
    between_signs (f x) (f y) (f z) (h x y a b (omega (arith, ints, c, d))) (h y z (omega (arith, ints, a, b)) c d) e
sign_between f start end x y z (inr h) a b c d e =
    e ∙ between_signs (f z) (f y) (f x) (h y z (omega (arith, ints, a, b)) c d) (h x y a b (omega (arith, ints, c, d))) (sym e)

-- so there is no turn between them
pub no_turn_between : (f : ℤ → ℤ) (start end low : ℤ) → IsMonotone f start end → low ≤ℤ end → SameSign f start low → StaysUpTo f start low
no_turn_between f start end low h b e z above within turn =
    turn (sym (sign_between f start end start (z +ℤ negsuc 0) low h (omega (arith, ints)) (omega (arith, ints, above)) (omega (arith, ints, within)) b e)
    ∙ sign_between f start end start z low h (omega (arith, ints)) (omega (arith, ints, above)) within b e)

-- what bisection ends with
pub turn_found : (f : ℤ → ℤ) (start end low high : ℤ) → IsMonotone f start end → start ≤ℤ low → low <ℤ high → high ≤ℤ end → high ≤ℤ (low +ℤ pos 1)
    → sign_of (f low) ≡ sign_of (f start) → ¬ (sign_of (f high) ≡ sign_of (f start)) → IsNextTurn f start end high
turn_found f start end low high h a b c d e n =
    let last : low ≡ high +ℤ negsuc 0 = omega (arith, ints, b, d) in
    record {
      above = omega (arith, ints, a, b);
      within = c;
      turns = λ s. n (sym s ∙ ap (λ (t : ℤ). sign_of (f t)) (sym last) ∙ e);
      first = λ z above before. no_turn_between f start end low h (omega (arith, ints, b, c)) (sym e) z above (omega (arith, ints, before, d));
    }

-- places of different signs differ
pub apart : (f : ℤ → ℤ) (start end : ℤ) → start ≤ℤ end → ¬ (sign_of (f end) ≡ sign_of (f start)) → start <ℤ end
apart f start end h n =
    ⊎_elim (λ t. absurd (n (ap (λ (z : ℤ). sign_of (f z)) (same start end h t)))) (λ t. t) (at_most_or_above end start)
  where
    same : (x y : ℤ) → x ≤ℤ y → y ≤ℤ x → y ≡ x
    same x y a b = omega (arith, ints, a, b)

-- where the difference has one sign, the sequence rises or falls
module _ (f d : ℤ → ℤ) (steps : (z : ℤ) → d z ≡ f (z +ℤ pos 1) +ℤ neg_ℤ (f z)) where
  step_at : (z : ℤ) → d (z +ℤ negsuc 0) ≡ f z +ℤ neg_ℤ (f (z +ℤ negsuc 0))
  step_at z =
      let e : z +ℤ negsuc 0 +ℤ pos 1 ≡ z = omega (arith, ints) in
      steps (z +ℤ negsuc 0) ∙ ap (λ (t : ℤ). f t +ℤ neg_ℤ (f (z +ℤ negsuc 0))) e

  rises : (start end : ℤ) → ((z : ℤ) → start ≤ℤ z → z <ℤ end → pos 0 ≤ℤ d z) → Rises f start end
  rises start end h x y a b c =
      reach (λ z. f x ≤ℤ f z) x end (omega (arith, ints))
      (λ z above within k.
      omega (arith, ints, k, step_at z, h (z +ℤ negsuc 0) (omega (arith, ints, a, above)) (omega (arith, ints, within)))) y b c

  falls : (start end : ℤ) → ((z : ℤ) → start ≤ℤ z → z <ℤ end → d z ≤ℤ pos 0) → Falls f start end
  falls start end h x y a b c =
      reach (λ z. f z ≤ℤ f x) x end (omega (arith, ints))
      (λ z above within k.
      omega (arith, ints, k, step_at z, h (z +ℤ negsuc 0) (omega (arith, ints, a, above)) (omega (arith, ints, within)))) y b c

  one_sign : (s : Sign) (start end : ℤ) → ((z : ℤ) → start ≤ℤ z → z <ℤ end → s ≡ sign_of (d z)) → IsMonotone f start end
  one_sign Negative start end h = inr (falls start end (λ z a b. not_positive (d z) (λ e. other (h z a b ∙ e))))
    where
      other : ¬ (Negative ≡ Positive)
      other e = cc
  one_sign Zero start end h = inl (rises start end (λ z a b. not_negative (d z) (λ e. other (h z a b ∙ e))))
    where
      other : ¬ (Zero ≡ Negative)
      other e = cc
  one_sign Positive start end h = inl (rises start end (λ z a b. not_negative (d z) (λ e. other (h z a b ∙ e))))
    where
      other : ¬ (Positive ≡ Negative)
      other e = cc

  -- where no turn of the difference is strictly between
  pub monotone_between : (start end : ℤ) → ((z : ℤ) → start <ℤ z → z <ℤ end → ¬ (IsTurn d z)) → IsMonotone f start end
  monotone_between start end h =
      one_sign (sign_of (d start)) start end
      (λ z a b. stays d start (end +ℤ negsuc 0) (λ y above within. h y above (omega (arith, ints, within))) z a (omega (arith, ints, b)))
