-- What is left of a list without another, form by form; and that a sort keeps the powers.
use Rattle.std.proofs.Common.{◌≡◌, ◌≢◌, ℕ, zero, suc, ◌+◌, ◌-◌, ◌≤◌, ◌<◌, ◌^◌, Bool, true, false, List, [], ◌∷◌, drop, length, refl, ap, sym, ◌∙◌, subst, arith, add-one, ◌⊎◌, inl, inr, Some}
use Rattle.std.specs.Prelude.{ℤ, pos, ◌*ℤ◌, cond, slice_get, Result, Ok, Err, IfOk}
use Rattle.std.specs.List.{AllByRecursion, sum_by}
use Rattle.std.specs.List.Sorted.{IsPermutation}
use Rattle.std.proofs.lemmas.List.Sorted.{sum_by-IsPermutation}
use Rattle.std.proofs.lemmas.List.Sums.{sum_by-cons}
use Rattle.ring_solver.proofs.Read.{ring_z, reading_z}
use Rattle.ring_laws.specs.declared.faults.RingFault.{RingFault}
use Rattle.hypergeometric.specs.LinearForm.{LinearForm, Factor, FactorList}
use Rattle.hypergeometric.specs.FormOrder.{IsFactor, NoFormTwice, IsSorted}
use Rattle.hypergeometric.specs.FactorLists.{same_form, power_of, with_factor}
use Rattle.hypergeometric.proofs.Lookups.{same_form_found, same_form_itself}
use Rattle.hypergeometric.proofs.SharedForms.{IsAbsent, power_here, power_later, same_or_other, absent_power, all_more}
use Rattle.lin_form.specs.ListOf.{list_of}
use Rattle.lin_form.specs.declared.factor_lists.FactorList.{FactorList as FactorListOfCode}
use Rattle.lin_form.proofs.ListProducts.{from_index, all_dropped}
use Rattle.gosper_form.specs.NormalLists.{IsLeftOf}
use Rattle.gosper_form.proofs.NormalTaken.{power_with}

other_form : (f g : LinearForm) → f ≢ g → same_form f g ≡ false
other_form f g n = by (same_form f g) refl
  where
    by : (b : Bool) → same_form f g ≡ b → b ≡ false
    by true e = absurd (n (same_form_found f g e))
    by false e = refl

-- where no form stands twice, the power of a form is the sum of its powers
power_once : (f : LinearForm) (xs : List Factor) → NoFormTwice xs → power_of f xs ≡ sum_by (λ x. cond (same_form f x.form) x.power 0) xs
power_once f [] d = refl
power_once f (x ∷ xs) d =
    by (same_form f x.form) refl (power_once f xs d.1) ∙ sym (sum_by-cons (λ x. cond (same_form f x.form) x.power 0) x xs)
  where
    by : (b : Bool) → same_form f x.form ≡ b → power_of f xs ≡ sum_by (λ x. cond (same_form f x.form) x.power 0) xs
        → cond b x.power (power_of f xs) ≡ cond b x.power 0 + sum_by (λ x. cond (same_form f x.form) x.power 0) xs
    by true e rest =
        let none : power_of f xs ≡ 0 = absent_power f xs (subst (λ g. IsAbsent g xs) (sym (same_form_found f x.form e)) d.0) in
        omega (arith, none, rest)
    by false e rest = omega (arith, rest)

pub permuted_power : (xs ys : List Factor) → IsPermutation xs ys → NoFormTwice xs → NoFormTwice ys → (f : LinearForm) → power_of f ys ≡ power_of f xs
permuted_power xs ys p d e f =
    power_once f ys e ∙ sum_by-IsPermutation (λ x. cond (same_form f x.form) x.power 0) xs ys p ∙ sym (power_once f xs d)

pub power_few : (f : LinearForm) (xs : List Factor) → AllByRecursion IsFactor xs → power_of f xs < 2 ^ 32
power_few f [] all = omega arith
power_few f (x ∷ xs) all = by (same_form f x.form) (power_few f xs all.1)
  where
    by : (b : Bool) → power_of f xs < 2 ^ 32 → cond b x.power (power_of f xs) < 2 ^ 32
    by true rest = all.0.few
    by false rest = rest

distinct_behind : (xs : List Factor) (i : ℕ) → NoFormTwice xs → NoFormTwice (drop i xs)
distinct_behind [] zero d = tt
distinct_behind [] (suc i) d = tt
distinct_behind (x ∷ xs) zero d = d
distinct_behind (x ∷ xs) (suc i) d = distinct_behind xs i d.1

-- what is gathered, and what the rest leaves, is what the whole leaves
abbrev pub LeftSoFar : List Factor → List Factor → List Factor → List Factor → Type 0
LeftSoFar whole taken rest left = (f : LinearForm) → power_of f left + (power_of f rest - power_of f taken) ≡ power_of f whole - power_of f taken

module _ (whole taken left : List Factor) (i : ℕ) (x : Factor) (r : ℕ) (here : slice_get whole i ≡ Some x) (r_is : r ≡ x.power - power_of x.form taken)
    (so_far : LeftSoFar whole taken (drop i whole) left)
  where
    tail : drop i whole ≡ x ∷ drop (i + 1) whole
    tail = from_index whole i x here ∙ ap (λ j. x ∷ drop j whole) (sym (add-one i))

    -- the power of the form fits
    pub left_fits : AllByRecursion IsFactor whole → power_of x.form left + r < 2 ^ 32
    left_fits each =
        let own : power_of x.form (drop i whole) ≡ x.power = ap (power_of x.form) tail ∙ power_here x.form x (drop (i + 1) whole) refl in
        omega (arith, own, so_far x.form, r_is, power_few x.form whole each)

    module _ (distinct : NoFormTwice whole) where
      none_behind : (f : LinearForm) → f ≡ x.form → power_of f (drop (i + 1) whole) ≡ 0
      none_behind f e = absent_power f (drop (i + 1) whole)
          (subst (λ g. IsAbsent g (drop (i + 1) whole)) (sym e) (subst NoFormTwice tail (distinct_behind whole i distinct)).0)

      more_power : (f : LinearForm) (after : ℕ) → ((f ≡ x.form → after ≡ power_of f left + r) × (f ≢ x.form → after ≡ power_of f left))
          → after + (power_of f (drop (i + 1) whole) - power_of f taken) ≡ power_of f whole - power_of f taken
      more_power f after is = by (same_or_other f x.form)
        where
          by : ((f ≡ x.form) ⊎ (f ≢ x.form)) → after + (power_of f (drop (i + 1) whole) - power_of f taken) ≡ power_of f whole - power_of f taken
          by (inl e) =
              let own : power_of f (drop i whole) ≡ x.power = ap (power_of f) tail ∙ power_here f x (drop (i + 1) whole) e in
              let same : power_of f taken ≡ power_of x.form taken = ap (λ g. power_of g taken) e in
              omega (arith, own, same, is.0 e, none_behind f e, so_far f, r_is)
          by (inr n) =
              let own : power_of f (drop i whole) ≡ power_of f (drop (i + 1) whole) =
              ap (power_of f) tail ∙ power_later f x (drop (i + 1) whole) n in
              omega (arith, own, is.1 n, so_far f)

      pub left_more : LeftSoFar whole taken (drop (i + 1) whole) (with_factor x.form r left)
      left_more f = more_power f (power_of f (with_factor x.form r left)) (
        λ e. power_with f x.form r left ∙ ap (λ n. power_of f left + n) (ap (λ b. cond b r 0) (same_form_itself f x.form e)),
        λ n. power_with f x.form r left
            ∙ omega (arith, ap (λ b. cond b r 0) (other_form f x.form n)),
      )

      pub left_passed : r ≡ 0 → LeftSoFar whole taken (drop (i + 1) whole) left
      left_passed none f = more_power f (power_of f left) ((λ e. omega (arith, none)), λ n. refl)

-- a list times a number, and nothing of it gathered yet
pub left_start : (whole : FactorList) (taken none : List Factor) (scale one : ℤ) → scale ≡ one *ℤ whole.scale → one ≡ pos 1 → none ≡ []
    → (scale ≡ whole.scale) × LeftSoFar whole.factors taken whole.factors none
left_start whole taken none scale one is unit nothing = (
  is ∙ ap (λ z. z *ℤ whole.scale) unit ∙ one_times whole.scale,
  λ f.
      let zero : power_of f none ≡ 0 = ap (power_of f) nothing in
      omega (arith, zero),
)
  where
    one_times : (z : ℤ) → pos 1 *ℤ z ≡ z
    one_times z = ring_z (z ∷ []) (search reading_z depth 40 fits 20000) refl

-- the list is what is left, once it is sorted
pub left_sorted : (whole : FactorList) (taken : List Factor) (left : FactorListOfCode) (i : ℕ) (r : Result FactorListOfCode RingFault)
    → ((f : LinearForm) → power_of f taken ≤ power_of f whole.factors) → length whole.factors ≤ i → (list_of left).scale ≡ whole.scale
    → LeftSoFar whole.factors taken (drop i whole.factors) (list_of left).factors
    → IfOk r (λ l. (list_of l).scale ≡ (list_of left).scale) → IfOk r (λ l. IsSorted (list_of l).factors)
    → IfOk r (λ l. IsPermutation (list_of left).factors (list_of l).factors) → IfOk r (λ l. IsLeftOf (list_of l) whole taken)
left_sorted whole taken left i (Err e) no_more past scale so_far same sorted moved = tt
left_sorted whole taken left i (Ok l) no_more past scale so_far same sorted moved = record {
  scale = same ∙ scale;
  sorted = sorted;
  some = all_more IsFactor (λ x. x.power ≢ 0) (λ x h z. omega (arith, h.some, z)) (list_of l).factors l.factors.each;
  powers = λ f.
      let nothing : power_of f (drop i whole.factors) ≡ 0 = ap (power_of f) (all_dropped whole.factors i past) in
      let same_power = permuted_power (list_of left).factors (list_of l).factors moved left.factors.distinct l.factors.distinct f in
      omega (arith, nothing, same_power, so_far f, no_more f);
}
