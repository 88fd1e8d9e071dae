-- Matches at one shift, and matches at greater shifts behind those at smaller ones.
use Rattle.std.proofs.Common.{◌≡◌, ◌≢◌, ℕ, ◌+◌, ◌<◌, Bool, true, false, List, [], ◌∷◌, ◌++◌, refl, ap, sym, ◌∙◌, arith, inl, inr}
use Rattle.std.proofs.lemmas.Bool.{false≢true}
use Rattle.std.specs.List.{AllByRecursion}
use Rattle.std.specs.Prelude.{pos, cond, map}
use Rattle.hypergeometric.specs.LinearForm.{LinearForm, Factor}
use Rattle.hypergeometric.specs.FormOrder.{IsBefore, IsSorted}
use Rattle.hypergeometric.specs.FactorLists.{same_form, power_of}
use Rattle.hypergeometric.specs.Match.{Match}
use Rattle.hypergeometric.proofs.Lookups.{same_form_found, same_form_itself}
use Rattle.term_pieces.specs.Products.{at_later_k}
use Rattle.term_pieces.specs.NormalForm.{at_earlier_k, ComesBefore, AreInOrder, Occurs, form_above, form_below, matched, power_within}
use Rattle.term_pieces.proofs.EarlierForms.{back_again, and_back}

-- forms with powers, as matches at a shift
abbrev pub match_at : ℕ → Factor → Match
match_at h x = record { form = x.form; shift = h; power = x.power }

abbrev pub at_shift : ℕ → List Factor → List Match
at_shift h xs = map (match_at h) xs

-- what is said of each of two lists is said of both joined
pub all_joined : (P : Match → Type 0) (xs ys : List Match) → AllByRecursion P xs → AllByRecursion P ys → AllByRecursion P (xs ++ ys)
all_joined P [] ys a b = b
all_joined P (x ∷ xs) ys a b = (a.0, all_joined P xs ys a.1 b)

pub all_shifted : (P : Match → Type 0) (h : ℕ) (xs : List Factor)
    → AllByRecursion (λ x. P (match_at h x)) xs → AllByRecursion P (at_shift h xs)
all_shifted P h [] a = tt
all_shifted P h (x ∷ xs) a = (a.0, all_shifted P h xs a.1)

pub all_true : (P : Factor → Type 0) (xs : List Factor) → ((x : Factor) → P x) → AllByRecursion P xs
all_true P [] h = tt
all_true P (x ∷ xs) h = (h x, all_true P xs h)

pub all_follow : {A : Type 0} (P Q : A → Type 0) (xs : List A) → ((x : A) → P x → Q x) → AllByRecursion P xs → AllByRecursion Q xs
all_follow P Q [] f a = tt
all_follow P Q (x ∷ xs) f a = (f x a.0, all_follow P Q xs f a.1)

pub order_joined : (h : ℕ) (xs ys : List Match) → AllByRecursion (λ m. m.shift < h) xs → AllByRecursion (λ m. m.shift ≡ h) ys
    → AreInOrder xs → AreInOrder ys → AreInOrder (xs ++ ys)
order_joined h [] ys below at a b = b
order_joined h (x ∷ xs) ys below at a b = (
  all_joined (ComesBefore x) xs ys a.0 (all_follow (λ m. m.shift ≡ h) (ComesBefore x) ys (λ m is. inl (omega (arith, is, below.0))) at),
  order_joined h xs ys below.1 at a.1 b,
)

pub order_shifted : (h : ℕ) (xs : List Factor) → IsSorted xs → AreInOrder (at_shift h xs)
order_shifted h [] s = tt
order_shifted h (x ∷ xs) s = (
  all_shifted (ComesBefore (match_at h x)) h xs
      (all_follow (λ y. IsBefore x.form y.form) (λ y. ComesBefore (match_at h x) (match_at h y)) xs (λ y before. inr (refl, before)) s.0),
  order_shifted h xs s.1,
)

pub occurs_first : (s : LinearForm) (h p : ℕ) (xs ys : List Match) → Occurs form_above s h p xs → Occurs form_above s h p (xs ++ ys)
occurs_first s h p [] ys o = absurd o
occurs_first s h p (x ∷ xs) ys (inl o) = inl o
occurs_first s h p (x ∷ xs) ys (inr o) = inr (occurs_first s h p xs ys o)

pub occurs_last : (s : LinearForm) (h p : ℕ) (xs ys : List Match) → Occurs form_above s h p ys → Occurs form_above s h p (xs ++ ys)
occurs_last s h p [] ys o = o
occurs_last s h p (x ∷ xs) ys o = inr (occurs_last s h p xs ys o)

-- a form that has a power stands among the matches with it
pub occurs_shifted : (s : LinearForm) (h p : ℕ) (xs : List Factor) → power_of s xs ≡ p → p ≢ 0 → Occurs form_above s h p (at_shift h xs)
occurs_shifted s h p [] is some = absurd (some (sym is))
occurs_shifted s h p (x ∷ xs) is some = by (same_form s x.form) refl is (λ e. occurs_shifted s h p xs e some)
  where
    by : (b : Bool) → same_form s x.form ≡ b → cond b x.power (power_of s xs) ≡ p → (power_of s xs ≡ p → Occurs form_above s h p (at_shift h xs))
        → Occurs form_above s h p (at_shift h (x ∷ xs))
    by true e own rest = inl (sym (same_form_found s x.form e), refl, own)
    by false e own rest = inr (rest own)

-- the forms that joined lists of matches stand for
pub matched_joined : (view : Match → LinearForm) (xs ys : List Match) → matched view (xs ++ ys) ≡ matched view xs ++ matched view ys
matched_joined view [] ys = refl
matched_joined view (x ∷ xs) ys = λ i. record { form = view x; power = x.power } ∷ matched_joined view xs ys i

pub power_above : (f : LinearForm) (h : ℕ) (xs : List Factor) → power_within f (matched form_above (at_shift h xs)) ≡ power_within f xs
power_above f h [] = refl
power_above f h (x ∷ xs) = ap (λ t. cond (same_form f x.form) x.power 0 + t) (power_above f h xs)

pub power_below : (t : LinearForm) (h : ℕ) (xs : List Factor)
    → power_within t (matched form_below (at_shift h xs)) ≡ power_within (at_later_k t (pos h)) xs
power_below t h [] = refl
power_below t h (x ∷ xs) = λ i. cond (alike (same_form t (at_earlier_k x.form h)) (same_form (at_later_k t (pos h)) x.form) refl refl i) x.power 0
    + power_below t h xs i
  where
    alike : (b c : Bool) → same_form t (at_earlier_k x.form h) ≡ b → same_form (at_later_k t (pos h)) x.form ≡ c → b ≡ c
    alike true true p q = refl
    alike false false p q = refl
    alike true false p q = absurd (false≢true (sym q ∙ same_form_itself (at_later_k t (pos h)) x.form
        (ap (λ s. at_later_k s (pos h)) (same_form_found t (at_earlier_k x.form h) p) ∙ back_again x.form h)))
    alike false true p q = absurd (false≢true (sym p ∙ same_form_itself t (at_earlier_k x.form h)
        (sym (and_back t h) ∙ ap (λ s. at_earlier_k s h) (same_form_found (at_later_k t (pos h)) x.form q))))
