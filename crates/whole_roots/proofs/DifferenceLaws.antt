-- The difference of a polynomial is shorter.
use Rattle.std.specs.Prelude.{◌≡◌, ℕ, zero, suc, ◌-◌, ◌<◌, ◌≤◌, IsTrue, List, [], ◌∷◌, pos, map, length, refl}
use Rattle.std.proofs.Common.{ap, sym, ◌∙◌, arith}
use Rattle.std.proofs.lemmas.List.{length-map}
use Rattle.ring_laws.specs.Meaning.{Meaning, number, listed, items, parted-joined}
use Rattle.ring_laws.specs.Algebra.{Ops, RingLaws, Passing, within}
use Rattle.ring_laws.specs.Wholes.{whole_algebra}
use Rattle.ring_laws.specs.WholeLaws.{whole_laws}
use Rattle.ring_laws.specs.declared.wholes.Whole.{Whole}
use Rattle.poly_laws.proofs.Belonging.{value_passes, value_fits}
use Rattle.poly_laws.specs.Lists.{is_trimmed, coefficient_at, list_sum, trimmed}
use Rattle.poly_laws.specs.Shift.{raised_by, list_shift, poly_shift}
use Rattle.poly_laws.proofs.Coefficients.{meanings_of, coefficients, meanings-coefficients, meanings-sum, meanings-neg, meanings-trimmed}
use Rattle.poly_laws.proofs.ListLaws.{at_sum, at_scale, at_neg, sum_nought, product_nought}
use Rattle.poly_laws.proofs.StepMeanings.{meanings-shift}
use Rattle.poly_laws.proofs.Trimming.{at_trimmed, beyond, is_trimmed_trimmed, length_within}
use Rattle.poly_generic.proofs.EvalAnswers.{length-list_shift}
use Rattle.whole_roots.specs.Differences.{difference, polynomials}

module _ {A : Type 0} (o : Ops A) (l : RingLaws o) (t : A) where
  -- what is left of a step of the shift at the greatest power
  step_kept : (x : A) (ys : List A) (k : ℕ) → coefficient_at o ys k ≡ o.nought
      → coefficient_at o (raised_by o t x ys) k ≡ o.sum (coefficient_at o (x ∷ []) k) (coefficient_at o (o.nought ∷ ys) k)
  step_kept x ys k e =
      at_sum o l (x ∷ []) (list_sum o (map (o.product t) ys) (o.nought ∷ ys)) k
      ∙ ap (o.sum (coefficient_at o (x ∷ []) k)) (at_sum o l (map (o.product t) ys) (o.nought ∷ ys) k
      ∙ ap (λ z. o.sum z (coefficient_at o (o.nought ∷ ys) k)) (at_scale o l t ys k ∙ ap (o.product t) e ∙ product_nought o l t)
      ∙ l.nought_sum (coefficient_at o (o.nought ∷ ys) k))

  -- a shift keeps the greatest coefficient
  top_kept : (xs : List A) (k : ℕ) → length xs ≤ suc k → coefficient_at o (list_shift o t xs) k ≡ coefficient_at o xs k
  top_kept [] k b = refl
  top_kept (x ∷ xs) zero b =
      step_kept x (list_shift o t xs) 0 (beyond o (list_shift o t xs) 0 (omega (arith, length-list_shift o t xs, b))) ∙ sum_nought o l x
  top_kept (x ∷ xs) (suc k) b =
      step_kept x (list_shift o t xs) (suc k) (beyond o (list_shift o t xs) (suc k) (omega (arith, length-list_shift o t xs, b)))
      ∙ l.nought_sum (coefficient_at o (list_shift o t xs) k) ∙ top_kept xs k (omega (arith, b))

abbrev pub base : Ops (Passing whole_algebra)
base = within whole_algebra whole_laws.closed

abbrev pub one : Passing whole_algebra
one = (number (pos 1), refl)

abbrev pub means : List (Passing whole_algebra) → List Meaning
means xs = meanings_of whole_algebra whole_laws.closed xs

-- a polynomial of the program as a meaning that belongs to the polynomials, and that fits
abbrev pub polynomial_of : (list : List Whole) → IsTrue (is_trimmed whole_algebra.ops (map (λ (w : Whole). number w.value) list)) → Passing polynomials
polynomial_of list ended =
    (listed (map (λ (w : Whole). number w.value) list), value_passes whole_algebra (λ (w : Whole). number w.value) (λ _. refl) list ended)

pub list_fits : (list : List Whole) → length list ≤ 256 → polynomials.ops.Fits (listed (map (λ (w : Whole). number w.value) list))
list_fits list short = value_fits whole_algebra whole_laws (λ (w : Whole). number w.value) (λ w. w.small) list short

-- the coefficients of the difference, before the zeros at the end are dropped
abbrev difference_list : List (Passing whole_algebra) → List (Passing whole_algebra)
difference_list xs = list_sum base (trimmed base (list_shift base one xs)) (trimmed base (map base.neg xs))

difference_is : (f : Passing polynomials)
    → items (difference f.0) ≡ means (trimmed base (difference_list (coefficients whole_algebra whole_laws.closed f)))
difference_is f =
    let xs = coefficients whole_algebra whole_laws.closed f in
    let is : means (coefficients whole_algebra whole_laws.closed f) ≡ items f.0 = meanings-coefficients whole_algebra whole_laws.closed f in
    let shift : means (trimmed base (list_shift base one xs)) ≡ items (poly_shift whole_algebra.ops (pos 1) f.0) =
    meanings-trimmed whole_algebra whole_laws.closed (list_shift base one xs)
    ∙ ap (trimmed whole_algebra.ops) (meanings-shift whole_algebra whole_laws one xs ∙ ap (list_shift whole_algebra.ops (number (pos 1))) is)
    ∙ sym (parted-joined (trimmed whole_algebra.ops (list_shift whole_algebra.ops (number (pos 1)) (items f.0)))) in
    let negative : means (trimmed base (map base.neg xs)) ≡ items (polynomials.ops.neg f.0) =
    meanings-trimmed whole_algebra whole_laws.closed (map base.neg xs)
    ∙ ap (trimmed whole_algebra.ops) (meanings-neg whole_algebra whole_laws.closed xs ∙ ap (map whole_algebra.ops.neg) is)
    ∙ sym (parted-joined (trimmed whole_algebra.ops (map whole_algebra.ops.neg (items f.0)))) in
    parted-joined _
    ∙ ap (trimmed whole_algebra.ops) ((λ i. list_sum whole_algebra.ops (sym shift i) (sym negative i))
    ∙ sym (meanings-sum whole_algebra whole_laws.closed (trimmed base (list_shift base one xs)) (trimmed base (map base.neg xs))))
    ∙ sym (meanings-trimmed whole_algebra whole_laws.closed (difference_list xs))

-- at the greatest power and above the coefficients cancel
cancels : (xs : List (Passing whole_algebra)) (k : ℕ) → length xs ≤ suc k → coefficient_at base (trimmed base (difference_list xs)) k ≡ base.nought
cancels xs k b =
    at_trimmed base whole_laws.ring (difference_list xs) k
    ∙ at_sum base whole_laws.ring (trimmed base (list_shift base one xs)) (trimmed base (map base.neg xs)) k
    ∙ (λ i. base.sum (at_trimmed base whole_laws.ring (list_shift base one xs) k i) (at_trimmed base whole_laws.ring (map base.neg xs) k i))
    ∙ (λ i. base.sum (top_kept base whole_laws.ring one xs k b i) (at_neg base whole_laws.ring xs k i))
    ∙ whole_laws.ring.sum_neg (coefficient_at base xs k)

-- so the difference is shorter
pub shorter : (f : Passing polynomials) → 0 < length (items f.0) → length (items (difference f.0)) < length (items f.0)
shorter f h =
    let xs = coefficients whole_algebra whole_laws.closed f in
    let count : length (items f.0) ≡ length xs =
    ap length (sym (meanings-coefficients whole_algebra whole_laws.closed f)) ∙ length-map xs (λ (v : Passing whole_algebra). v.0) in
    let within_ : length (trimmed base (difference_list xs)) ≤ length xs - 1 =
    length_within base whole_laws.ring (trimmed base (difference_list xs)) (length xs - 1)
    (is_trimmed_trimmed base (difference_list xs)) (λ k b. cancels xs k (omega (arith, b))) in
    omega (
      arith,
      h,
      count,
      within_,
      ap length (difference_is f),
      length-map (trimmed base (difference_list xs)) (λ (v : Passing whole_algebra). v.0),
    )
