-- Signs of whole numbers.
use Rattle.std.specs.Prelude.{◌≡◌, true, false, zero, suc, ◌⊎◌, ℤ, pos, negsuc, ◌≤ℤ◌, refl}
use Rattle.std.proofs.Common.{◌∙◌, inl, inr, arith}
use Rattle.std.proofs.lemmas.Int.{ints}
use Rattle.ring_laws.specs.declared.wholes.Sign.{Sign}
use Rattle.ring_laws.specs.declared.wholes.Sign.TheVariants.{Negative, Zero, Positive}
use Rattle.whole_roots.specs.Signs.{sign_of}

pub false_true : ¬ (false ≡ true)
false_true e = cc

pub positive_sign : (z : ℤ) → pos 1 ≤ℤ z → sign_of z ≡ Positive
positive_sign (pos zero) h = absurd (omega (arith, ints, h))
positive_sign (pos (suc n)) h = refl
positive_sign (negsuc n) h = absurd (omega (arith, ints, h))

pub negative_sign : (z : ℤ) → z ≤ℤ negsuc 0 → sign_of z ≡ Negative
negative_sign (pos n) h = absurd (omega (arith, ints, h))
negative_sign (negsuc n) h = refl

pub zero_sign : (z : ℤ) → sign_of z ≡ Zero → z ≡ pos 0
zero_sign (pos zero) h = refl
zero_sign (pos (suc n)) h = cc
zero_sign (negsuc n) h = cc

pub not_negative : (z : ℤ) → ¬ (sign_of z ≡ Negative) → pos 0 ≤ℤ z
not_negative (pos n) h = omega (arith, ints)
not_negative (negsuc n) h = absurd (h refl)

pub not_positive : (z : ℤ) → ¬ (sign_of z ≡ Positive) → z ≤ℤ pos 0
not_positive (pos zero) h = omega (arith, ints)
not_positive (pos (suc n)) h = absurd (h refl)
not_positive (negsuc n) h = omega (arith, ints)

pub same_or_not : (s t : Sign) → (s ≡ t) ⊎ ¬ (s ≡ t)
same_or_not Negative Negative = inl refl
same_or_not Negative Zero = inr (λ e. cc)
same_or_not Negative Positive = inr (λ e. cc)
same_or_not Zero Negative = inr (λ e. cc)
same_or_not Zero Zero = inl refl
same_or_not Zero Positive = inr (λ e. cc)
same_or_not Positive Negative = inr (λ e. cc)
same_or_not Positive Zero = inr (λ e. cc)
same_or_not Positive Positive = inl refl

-- what stands between two numbers of one sign has that sign
pub between_signs : (p q r : ℤ) → p ≤ℤ q → q ≤ℤ r → sign_of p ≡ sign_of r → sign_of p ≡ sign_of q
between_signs (pos zero) (pos zero) r h k e = refl
between_signs (pos zero) (pos (suc q)) r h k e = e ∙ positive_sign r (omega (arith, ints, k))
between_signs (pos (suc p)) (pos zero) r h k e = absurd (omega (arith, ints, h))
between_signs (pos (suc p)) (pos (suc q)) r h k e = refl
between_signs (pos p) (negsuc q) r h k e = absurd (omega (arith, ints, h))
between_signs (negsuc p) (negsuc q) r h k e = refl
between_signs (negsuc p) (pos q) (pos zero) h k e = cc
between_signs (negsuc p) (pos q) (pos (suc r)) h k e = cc
between_signs (negsuc p) (pos q) (negsuc r) h k e = absurd (omega (arith, ints, k))
