-- Dividing the forms of a list out of a polynomial, one after another.
use Rattle.std.specs.Prelude.{◌≡◌, ◌≢◌, ℕ, zero, suc, ◌+◌, ◌-◌, ◌≤◌, Bool, true, false, cond, List, [], ◌∷◌, ◌++◌, refl}
use Rattle.std.specs.List.{AllByRecursion}
use Rattle.std.proofs.Common.{ap, sym, ◌∙◌, subst, arith, append_assoc}
use Rattle.std.proofs.lemmas.List.{append-nil}
use Rattle.ring_laws.specs.Meaning.{Meaning}
use Rattle.ring_laws.specs.Algebra.{Algebra, Passing}
use Rattle.ring_laws.specs.Answer.{OnFault, fault_weaker}
use Rattle.ring_laws.specs.declared.faults.RingFault.{RingFault}
use Rattle.hypergeometric.specs.LinearForm.{LinearForm, Factor}
use Rattle.hypergeometric.specs.FormOrder.{NoFormTwice}
use Rattle.hypergeometric.specs.FactorLists.{same_form, factor_with, power_of, with_factor}
use Rattle.hypergeometric.proofs.Lookups.{same_form_found}
use Rattle.key_equation.specs.Cancelling.{staying, IsDividedOut, CancelsInOrder, all_done, next_form}
use Rattle.key_equation.specs.Reckoning.{DividingInBounds, CancellingInBounds}

-- a form that isn't in a list goes last, and has no power there
other_form : (b : Bool) (f g : LinearForm) → same_form f g ≡ b → g ≢ f → b ≡ false
other_form true f g e h = absurd (h (sym (same_form_found f g e)))
other_form false f g e h = refl

goes_last : (f : LinearForm) (p : ℕ) (xs : List Factor) → AllByRecursion (λ x. x.form ≢ f) xs → with_factor f p xs ≡ xs ++ (factor_with f p ∷ [])
goes_last f p [] h = refl
goes_last f p (x ∷ xs) h =
    let no : same_form f x.form ≡ false = other_form (same_form f x.form) f x.form refl h.0 in
    ap (λ (b : Bool). cond b (factor_with x.form (x.power + p) ∷ xs) (x ∷ with_factor f p xs)) no ∙ ap (λ t. x ∷ t) (goes_last f p xs h.1)

no_power : (f : LinearForm) (xs : List Factor) → AllByRecursion (λ x. x.form ≢ f) xs → power_of f xs ≡ 0
no_power f [] h = refl
no_power f (x ∷ xs) h =
    let no : same_form f x.form ≡ false = other_form (same_form f x.form) f x.form refl h.0 in
    ap (λ (b : Bool). cond b x.power (power_of f xs)) no ∙ no_power f xs h.1

differs : (z x : Factor) (xs ys : List Factor) → AllByRecursion (λ y. y.form ≢ z.form) (xs ++ x ∷ ys) → z.form ≢ x.form
differs z x [] ys h = λ e. h.0 (sym e)
differs z x (y ∷ xs) ys h = differs z x xs ys h.1

all_differ : (x : Factor) (xs ys : List Factor) → NoFormTwice (xs ++ x ∷ ys) → AllByRecursion (λ y. y.form ≢ x.form) xs
all_differ x [] ys h = tt
all_differ x (z ∷ xs) ys h = (differs z x xs ys h.0, all_differ x xs ys h.1)

staying_joined : (f : LinearForm) (n : ℕ) (xs ys : List Factor) → staying f n (xs ++ ys) ≡ staying f n xs ++ ys
staying_joined f zero xs ys = refl
staying_joined f (suc n) xs ys = refl

module _ (a : Algebra) (polynomial : LinearForm → Meaning) where
  -- what holds of each form of the list holds of those that stay
  module _ (P : LinearForm → Type 0) where
    stays_all : (f : LinearForm) (n : ℕ) (xs : List Factor) → P f → AllByRecursion (λ x. P x.form) xs → AllByRecursion (λ x. P x.form) (staying f n xs)
    stays_all f zero xs h k = k
    stays_all f (suc n) xs h k = (h, k)

    pub poles_all : (xs : List Factor) (y left : Meaning) (poles : List Factor) → CancelsInOrder a polynomial xs y left poles
        → AllByRecursion (λ x. P x.form) xs → AllByRecursion (λ x. P x.form) poles
    poles_all _ _ _ _ all_done h = tt
    poles_all _ y left _ (next_form {x} {xs} {poles} rest n d more) h =
        stays_all x.form (x.power - n) poles h.0 (poles_all xs rest.0 left poles more h.1)

  cancels_more : (before : List Factor) (y left : Meaning) (poles : List Factor) (x : Factor) (rest : Passing a) (n : ℕ)
      → CancelsInOrder a polynomial before y left poles → IsDividedOut a (polynomial x.form) x.power left rest.0 n
      → CancelsInOrder a polynomial (before ++ (x ∷ [])) y rest.0 (poles ++ staying x.form (x.power - n) [])
  cancels_more _ _ _ _ x rest n all_done d = next_form rest n d all_done
  cancels_more _ y left _ x rest n (next_form {x = z} {xs} {poles} r m e more) d =
      subst (CancelsInOrder a polynomial (z ∷ (xs ++ (x ∷ []))) y rest.0) (staying_joined z.form (z.power - m) poles (staying x.form (x.power - n) []))
      (next_form r m e (cancels_more xs r.0 left poles x rest n more d))

  -- the forms of a list so far: those before the ones that remain were divided out
  pub record Reached (whole : List Factor) (y : Meaning) (remaining : List Factor) (left : Meaning) (held : List Factor) : Type 0 where
    pub before : List Factor
    pub split : whole ≡ before ++ remaining
    pub cancels : CancelsInOrder a polynomial before y left held

  pub begins : (whole : List Factor) (y : Meaning) (held : List Factor) → held ≡ [] → Reached whole y whole y held
  begins whole y held e = record {
    before = [];
    split = refl;
    cancels = subst (CancelsInOrder a polynomial [] y y) (sym e) all_done;
  }

  pub ends : (whole remaining : List Factor) (y left : Meaning) (held : List Factor) → remaining ≡ [] → Reached whole y remaining left held
      → CancelsInOrder a polynomial whole y left held
  ends whole remaining y left held e h =
      subst (λ xs. CancelsInOrder a polynomial xs y left held) (sym (h.split ∙ ap (λ t. h.before ++ t) e ∙ append-nil h.before)) h.cancels

  module _ (whole remaining : List Factor) (y left : Meaning) (held : List Factor) (x : Factor) (after : List Factor) (here : remaining ≡ x ∷ after)
      (h : Reached whole y remaining left held) where
    splits : whole ≡ h.before ++ x ∷ after
    splits = h.split ∙ ap (λ t. h.before ++ t) here

    others : NoFormTwice whole → AllByRecursion (λ z. z.form ≢ x.form) held
    others once =
        poles_all (λ f. f ≢ x.form) h.before y left held h.cancels
        (all_differ x h.before after (subst NoFormTwice splits once))

    pub absent : NoFormTwice whole → power_of x.form held ≡ 0
    absent once = no_power x.form held (others once)

    held_is : NoFormTwice whole → (n : ℕ) (longer : List Factor) → (n ≡ 0 → longer ≡ held) → (1 ≤ n → longer ≡ with_factor x.form n held)
        → longer ≡ held ++ staying x.form n []
    held_is once zero longer none some = none refl ∙ sym (append-nil held)
    held_is once (suc n) longer none some = some (omega arith) ∙ goes_last x.form (suc n) held (others once)

    pub goes_on : NoFormTwice whole → (rest : Passing a) (n : ℕ) (longer : List Factor)
        → IsDividedOut a (polynomial x.form) x.power left rest.0 n → (x.power - n ≡ 0 → longer ≡ held)
        → (1 ≤ x.power - n → longer ≡ with_factor x.form (x.power - n) held) → Reached whole y after rest.0 longer
    goes_on once rest n longer d none some = record {
      before = h.before ++ (x ∷ []);
      split = splits ∙ sym (append_assoc h.before (x ∷ []) after);
      cancels = subst (CancelsInOrder a polynomial (h.before ++ (x ∷ [])) y rest.0) (sym (held_is once (x.power - n) longer none some))
          (cancels_more h.before y left held x rest n h.cancels d);
    }

    -- a division that isn't in bounds
    pub cancelling_fault : (InBounds : Meaning → Meaning → Type 0) (fault : RingFault)
        → OnFault (¬ DividingInBounds a InBounds (polynomial x.form) x.power left) fault → OnFault (¬ CancellingInBounds a InBounds polynomial whole y) fault
    cancelling_fault InBounds fault out =
        fault_weaker fault (λ none fits. none (fits h.before x after left held splits h.cancels)) out
