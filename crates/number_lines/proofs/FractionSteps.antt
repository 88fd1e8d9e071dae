-- The steps of reading a fraction.
use Rattle.std.specs.Prelude.{◌≡◌, ℕ, zero, suc, ◌↔◌, ℤ, pos, negsuc, ◌<ℤ◌, unsigned_abs, IsTrue, Option, Some, None, IsNone, IfSome}
use Rattle.std.specs.Option.{MatchOption}
use Rattle.std.specs.Int.{◌∣◌, IsGcd}
use Rattle.std.proofs.Common.{refl, sym, subst, ◌∙◌, arith}
use Rattle.std.proofs.lemmas.Int.{ints}
use Rattle.std.proofs.Math.Nat.{eq-one_of_dvd-one}
use Rattle.ring_laws.specs.Meaning.{number}
use Rattle.ring_laws.specs.Wholes.{number_of, is_zero}
use Rattle.poly_fraction.specs.Fractions.{RingFraction}
use Rattle.hypergeometric.specs.Fraction.{Fraction}
use Rattle.hypergeometric.specs.TermFacts.{IsNumber}
use Rattle.proper_term.specs.Fields.{number_fraction, number_fraction_of}
use Rattle.proper_term.specs.Runs.{IsInLowestTerms}
use Rattle.number_lines.specs.Fractions.{fractions}

-- the greatest common divisor tells lowest terms
pub lowest_parts : (a b : ℤ) (m n g : ℕ) → m ≡ unsigned_abs a → n ≡ unsigned_abs b → IsGcd m n g → g ≡ 1 → IsNumber a → IsNumber b → pos 0 <ℤ b
    → fractions.Has (number_fraction a b)
lowest_parts a b m n g s t gcd one p q positive = (
  record { top = p; bottom = q },
  record {
    positive = positive;
    coprime = λ d h k. eq-one_of_dvd-one (subst (λ e. d ∣ e) one (gcd.2 d (subst (λ e. d ∣ e) (sym s) h) (subst (λ e. d ∣ e) (sym t) k)));
  },
)

pub divisor_one : (a b : ℤ) (m n g : ℕ) → m ≡ unsigned_abs a → n ≡ unsigned_abs b → IsGcd m n g → IsInLowestTerms (number_fraction a b) → g ≡ 1
divisor_one a b m n g s t gcd lowest = lowest.coprime g (subst (λ e. g ∣ e) s gcd.0) (subst (λ e. g ∣ e) t gcd.1)

positive_some : (b : ℤ) → pos 0 <ℤ b → IsTrue (is_zero b) → ⊥
positive_some (pos zero) h e = omega (arith, ints)
positive_some (pos (suc n)) h e = cc
positive_some (negsuc n) h e = cc

-- the fraction is made, and is the one of the two numbers
pub made : {T : Type 0} (fraction : T → RingFraction) (a b : ℤ) (found : Option T) → (IsNone found ↔ IsTrue (is_zero b)) → pos 0 <ℤ b
    → IfSome found (λ f. (fraction f).top ≡ number a) → IfSome found (λ f. (fraction f).bottom ≡ number b) → fractions.Has (number_fraction a b)
    → MatchOption found (¬ fractions.Has (number_fraction a b))
    (λ f. (number_fraction_of (fraction f) ≡ number_fraction a b) × fractions.Has (number_fraction_of (fraction f)))
made fraction a b None none positive top bottom has = absurd (positive_some b positive (none.0 refl))
made fraction a b (Some f) none positive top bottom has =
    let same : number_fraction_of (fraction f) ≡ number_fraction a b = λ i. number_fraction (number_of (top i)) (number_of (bottom i)) in
    (same, subst fractions.Has (sym same) has)

-- of two numbers of a fraction the fraction is found
pub found_fraction : {T : Type 0} (fraction : T → Fraction) (w v : Fraction) (found : Option T) → w ≡ v → fractions.Has v
    → MatchOption found (¬ fractions.Has w) (λ f. (fraction f ≡ w) × fractions.Has (fraction f)) → MatchOption found ⊥ (λ f. fraction f ≡ v)
found_fraction fraction w v None e has made = absurd (made (subst fractions.Has (sym e) has))
found_fraction fraction w v (Some f) e has made = made.0 ∙ e
