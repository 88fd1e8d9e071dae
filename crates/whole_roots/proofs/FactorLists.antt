-- Lists of factors that grow at their end, form by form in rising order.
use Rattle.std.specs.Prelude.{◌≡◌, ◌⊎◌, ℕ, ◌≤◌, ◌<◌, ◌^◌, Bool, true, false, ◌&&◌, if◌then◌else◌, ℤ, unsigned_abs, List, [], ◌∷◌, ◌++◌, refl}
use Rattle.std.specs.Int.{IsGcd, ◌∣◌}
use Rattle.std.specs.List.{AllByRecursion}
use Rattle.std.specs.Ordering.{int_eq}
use Rattle.std.proofs.Common.{nat_eq, ap, sym, ◌∙◌, subst, inl, inr, ⊎_elim, arith}
use Rattle.std.proofs.Math.Nat.{eq-one_of_dvd-one}
use Rattle.std.proofs.lemmas.Bool.{and_parts, eqb-true}
use Rattle.std.proofs.lemmas.Bool.Decides.{Decides-int_eq}
use Rattle.std.proofs.lemmas.Int.{ints}
use Rattle.indexmap.specs.IndexMap.{insert_entry}
use Rattle.ring_laws.specs.Meaning.{Meaning}
use Rattle.whole_roots.specs.LinearFactors.{IsProfileForm, PowerDivides, Entry, IsLinearFactor, IsBefore, IsRisingByForm, HasForm}
use Rattle.whole_roots.specs.FactorSearch.{AreFactorsAmong, AddsFactor}

-- what a greatest common divisor of 1 says, and what another one does
module _ (u : ℕ) (v : ℤ) (a b g : ℕ) (gcd : IsGcd a b g) (first : a ≡ u) (second : b ≡ unsigned_abs v) where
  pub profile_form : 1 ≤ u → u ≤ 4 → g ≡ 1 → IsProfileForm u v
  profile_form low high e = record {
    from_one = low;
    to_four = high;
    coprime = λ d p q. eq-one_of_dvd-one (subst (λ n. d ∣ n) e (gcd.2 d (subst (λ n. d ∣ n) (sym first) p) (subst (λ n. d ∣ n) (sym second) q)));
  }

  pub no_profile_form : ¬ (g ≡ 1) → ¬ (IsProfileForm u v)
  no_profile_form n form = n (form.coprime g (subst (λ n. g ∣ n) first gcd.0) (subst (λ n. g ∣ n) second gcd.1))

-- an earlier form isn't the same
earlier : (x y : ℕ × ℤ) → IsBefore x y → nat_eq y.0 x.0 && int_eq y.1 x.1 ≡ false
earlier x y h = by (nat_eq y.0 x.0 && int_eq y.1 x.1) refl h
  where
    by : (b : Bool) → nat_eq y.0 x.0 && int_eq y.1 x.1 ≡ b → IsBefore x y → b ≡ false
    by false e k = refl
    by true e (inl k) = absurd (omega (arith, k, eqb-true y.0 x.0 (and_parts (nat_eq y.0 x.0) (int_eq y.1 x.1) e).0))
    by true e (inr k) = absurd (omega (arith, ints, k.1, (Decides-int_eq y.1 x.1).0 (and_parts (nat_eq y.0 x.0) (int_eq y.1 x.1) e).1))

-- so an insertion of a later form puts it last
pub inserted_last : (eq : ℕ × ℤ → ℕ × ℤ → Bool) → ((x y : ℕ × ℤ) → eq x y ≡ (nat_eq x.0 y.0 && int_eq x.1 y.1))
    → (form : ℕ × ℤ) (e : ℕ) (es : List Entry)
    → AllByRecursion (λ (x : Entry). IsBefore x.0 form) es → insert_entry eq es form e ≡ es ++ (form, e) ∷ []
inserted_last eq agree form e [] h = refl
inserted_last eq agree form e (x ∷ xs) h =
    ap (λ b. if b then (x.0, e) ∷ xs else (x ∷ insert_entry eq xs form e)) (agree form x.0 ∙ earlier x.0 form h.0)
    ∙ ap (λ (t : List Entry). x ∷ t) (inserted_last eq agree form e xs h.1)

pub each_kept : (P Q : Entry → Type 0) → ((x : Entry) → P x → Q x) → (xs : List Entry) → AllByRecursion P xs → AllByRecursion Q xs
each_kept P Q f [] h = tt
each_kept P Q f (x ∷ xs) h = (f x h.0, each_kept P Q f xs h.1)

each_last : (P : Entry → Type 0) (xs : List Entry) (x : Entry) → AllByRecursion P xs → P x → AllByRecursion P (xs ++ x ∷ [])
each_last P [] x h p = (p, tt)
each_last P (y ∷ ys) x h p = (h.0, each_last P ys x h.1 p)

rising_last : (xs : List Entry) (x : Entry) → IsRisingByForm xs → AllByRecursion (λ (y : Entry). IsBefore y.0 x.0) xs → IsRisingByForm (xs ++ x ∷ [])
rising_last [] x h b = (tt, tt)
rising_last (y ∷ ys) x h b = (each_last (λ (z : Entry). IsBefore y.0 z.0) ys x h.0 b.0, rising_last ys x h.1 b.1)

has_last : (u : ℕ) (v : ℤ) (xs : List Entry) (x : Entry) → u ≡ x.0.0 → v ≡ x.0.1 → HasForm u v (xs ++ x ∷ [])
has_last u v [] x e g = inl (e, g)
has_last u v (y ∷ ys) x e g = inr (has_last u v ys x e g)

has_still : (u : ℕ) (v : ℤ) (xs : List Entry) (x : Entry) → HasForm u v xs → HasForm u v (xs ++ x ∷ [])
has_still u v [] x h = absurd h
has_still u v (y ∷ ys) x (inl h) = inl h
has_still u v (y ∷ ys) x (inr h) = inr (has_still u v ys x h)

-- more forms are seen, and none of them is a factor
pub widened : (P Q : ℕ → ℤ → Type 0) (f : Meaning) (xs : List Entry) → ((u : ℕ) (v : ℤ) → P u v → Q u v)
    → ((u : ℕ) (v : ℤ) → Q u v → IsProfileForm u v → PowerDivides u v 1 f → P u v) → AreFactorsAmong P f xs → AreFactorsAmong Q f xs
widened P Q f xs into back h = record {
  rising = h.rising;
  each = h.each;
  small = h.small;
  seen = each_kept (λ (x : Entry). P x.0.0 x.0.1) (λ (x : Entry). Q x.0.0 x.0.1) (λ x. into x.0.0 x.0.1) xs h.seen;
  all = λ u v q form d. h.all u v (back u v q form d) form d;
}

-- one form more is seen
pub added : (P : ℕ → ℤ → Type 0) (f : Meaning) (u : ℕ) (v : ℤ) (old new : List Entry) → AllByRecursion (λ (x : Entry). IsBefore x.0 (u, v)) old
    → unsigned_abs v < 2 ^ 127 → AddsFactor f u v old new → AreFactorsAmong P f old → AreFactorsAmong (λ s t. P s t ⊎ ((s ≡ u) × (t ≡ v))) f new
added P f u v old new before small (inl stays) h =
    subst (AreFactorsAmong (λ s t. P s t ⊎ ((s ≡ u) × (t ≡ v))) f) (sym stays.0)
    (widened P (λ s t. P s t ⊎ ((s ≡ u) × (t ≡ v))) f old (λ s t. inl)
    (λ s t q form d.
    ⊎_elim (λ p. p)
    (λ (e : (s ≡ u) × (t ≡ v)).
    absurd (stays.1 (subst (λ z. IsProfileForm u z) e.1 (subst (λ z. IsProfileForm z t) e.0 form))
    (subst (λ z. PowerDivides u z 1 f) e.1 (subst (λ z. PowerDivides z t 1 f) e.0 d)))) q) h)
added P f u v old new before small (inr grows) h =
    let x : Entry = ((u, v), grows.0) in
    subst (AreFactorsAmong (λ s t. P s t ⊎ ((s ≡ u) × (t ≡ v))) f) (sym grows.1)
    (record {
      rising = rising_last old x h.rising before;
      each = each_last (IsLinearFactor f) old x h.each grows.2;
      small = each_last (λ (y : Entry). unsigned_abs y.0.1 < 2 ^ 127) old x h.small small;
      seen = each_last (λ (y : Entry). P y.0.0 y.0.1 ⊎ ((y.0.0 ≡ u) × (y.0.1 ≡ v))) old x
          (each_kept (λ (y : Entry). P y.0.0 y.0.1) (λ (y : Entry). P y.0.0 y.0.1 ⊎ ((y.0.0 ≡ u) × (y.0.1 ≡ v))) (λ y. inl) old h.seen)
          (inr (refl, refl));
      all = λ s t q form d. ⊎_elim (λ p. has_still s t old x (h.all s t p form d)) (λ (e : (s ≡ u) × (t ≡ v)). has_last s t old x e.0 e.1) q;
    })
