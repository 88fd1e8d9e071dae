-- Entries in the order of the code's forms are factors in the order of forms.
use Rattle.std.specs.Prelude.{◌≡◌, ◌≢◌, ℕ, zero, suc, ◌<◌, Bool, false, List, [], ◌∷◌, length, slice_index_or, Result, Ok, Err, OnOk, refl}
use Rattle.std.specs.List.{AllByRecursion, IsDistinct, AllZip}
use Rattle.std.specs.List.Sorted.{IsPermutation, IsSorted as IsSortedBySort}
use Rattle.std.specs.Map.{keys_of}
use Rattle.std.specs.Ordering.{is_lt}
use Rattle.std.specs.Result.{is_err}
use Rattle.std.specs.declared.cmp.Ordering.{Ordering}
use Rattle.std.proofs.Common.{ap, sym, ◌∙◌, arith, add-one, true≢false}
use Rattle.std.proofs.lemmas.Map.Keys.{IsDistinct-head, IsDistinct-tail}
use Rattle.std.proofs.lemmas.List.Sorted.{IsPermutation-map, All-permutation}
use Rattle.hypergeometric.specs.LinearForm.{Factor}
use Rattle.hypergeometric.specs.FormOrder.{IsFactor, IsBefore, IsSorted, NoFormTwice, AreFactors}
use Rattle.hypergeometric.specs.FactorLists.{same_form, factor_with}
use Rattle.hypergeometric.proofs.Lookups.{same_form_itself}
use Rattle.hypergeometric.proofs.SortedForms.{form_cmp, comes_before, all_after}
use Rattle.lin_form.specs.Forms.{form_of}
use Rattle.lin_form.specs.FactorLists.{factors_of}
use Rattle.lin_form.specs.declared.forms.LinForm.{LinForm}

module _ (eq : LinForm → LinForm → Bool) (agrees : (x y : LinForm) → eq x y ≡ same_form (form_of x) (form_of y)) where
  other_form : (x y : LinForm) → eq x y ≡ false → form_of x ≢ form_of y
  other_form x y e s = true≢false (sym (agrees x y ∙ same_form_itself (form_of x) (form_of y) s) ∙ e)

  -- keys in order, no two of them the same, are forms in order
  pub sorted_factors : (cmp : LinForm → LinForm → Ordering) → ((x y : LinForm) → cmp x y ≡ form_cmp (form_of x) (form_of y))
      → (es : List (LinForm × ℕ)) → IsSortedBySort cmp (keys_of es) → IsDistinct eq (keys_of es) → IsSorted (factors_of es)
  sorted_factors cmp orders [] s d = tt
  sorted_factors cmp orders (e ∷ []) s d = (tt, tt)
  sorted_factors cmp orders (e ∷ e' ∷ es) s d =
      let rest = sorted_factors cmp orders (e' ∷ es) (λ k x a b. simp add-one (simp add-one at s (suc k) x (omega arith) (omega (arith, b))))
      (IsDistinct-tail eq e.0 (keys_of (e' ∷ es)) d) in
      let next : IsBefore (form_of e.0) (form_of e'.0) =
      comes_before (form_of e.0) (form_of e'.0) (other_form e.0 e'.0 (IsDistinct-head eq e.0 (keys_of (e' ∷ es)) d).0)
      (ap is_lt (sym (orders e'.0 e.0)) ∙ s 0 e.0 (omega arith) (omega arith)) in
      ((next, all_after (form_of e.0) (form_of e'.0) next (factors_of es) rest.0), rest)

  none_same : (x : LinForm) (es : List (LinForm × ℕ)) → AllByRecursion (λ y. eq x y ≡ false) (keys_of es)
      → AllByRecursion (λ (y : Factor). y.form ≢ form_of x) (factors_of es)
  none_same x [] h = tt
  none_same x (e ∷ es) h = ((λ s. other_form x e.0 h.0 (sym s)), none_same x es h.1)

  none_twice : (es : List (LinForm × ℕ)) → IsDistinct eq (keys_of es) → NoFormTwice (factors_of es)
  none_twice [] d = tt
  none_twice (e ∷ es) d = (none_same e.0 es (IsDistinct-head eq e.0 (keys_of es) d), none_twice es (IsDistinct-tail eq e.0 (keys_of es) d))

  by_index : {A : Type 0} (P : A → Type 0) (xs : List A) → AllByRecursion P xs → (k : ℕ) (d : A) → k < length xs → P (slice_index_or xs k d)
  by_index P [] h k d b = absurd (omega arith)
  by_index P (x ∷ xs) h zero d b = h.0
  by_index P (x ∷ xs) h (suc k) d b = by_index P xs h.1 k d (omega arith)

  by_recursion : {A : Type 0} (P : A → Type 0) (xs : List A) → ((k : ℕ) (d : A) → k < length xs → P (slice_index_or xs k d)) → AllByRecursion P xs
  by_recursion P [] h = tt
  by_recursion P (x ∷ xs) h = (h 0 x (omega arith), by_recursion P xs (λ k d b. h (suc k) d (omega arith)))

  -- in another order, with no key twice, they are factors still
  pub factors_keep : (es fs : List (LinForm × ℕ)) → IsPermutation es fs → IsDistinct eq (keys_of fs) → AreFactors (factors_of es) → AreFactors (factors_of fs)
  factors_keep es fs p d h = record {
    each = by_recursion IsFactor (factors_of fs) (All-permutation IsFactor (factors_of es) (factors_of fs)
        (IsPermutation-map (λ (e : LinForm × ℕ). factor_with (form_of e.0) e.1) es fs p) (by_index IsFactor (factors_of es) h.each));
    distinct = none_twice fs d;
  }

pub same_factors : (es fs : List (LinForm × ℕ)) → IsPermutation es fs → IsPermutation (factors_of es) (factors_of fs)
same_factors es fs p = IsPermutation-map (λ (e : LinForm × ℕ). factor_with (form_of e.0) e.1) es fs p

-- a clone has the entries themselves
pub cloned : (es fs : List (LinForm × ℕ)) → AllZip (λ (p q : LinForm × ℕ). (q.0 ≡ p.0) × (q.1 ≡ p.1)) es fs → fs ≡ es
cloned [] [] h = refl
cloned [] (f ∷ fs) h = absurd h
cloned (e ∷ es) [] h = absurd h
cloned (e ∷ es) (f ∷ fs) h = λ i. ((h.0.0 i, h.0.1 i) ∷ cloned es fs h.1 i)

-- what is said of a success, where there is no error
pub on_success : {X Y P : Type 0} (r : Result X Y) → is_err r ≡ false → OnOk r P → P
on_success (Ok x) e h = h
on_success (Err y) e h = absurd (true≢false e)
