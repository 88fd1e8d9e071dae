-- There is one way to take, from the shift 0 up; and no form is taken at a great shift.
use Rattle.std.proofs.Common.{◌≡◌, ◌≢◌, ℕ, zero, suc, ◌+◌, ◌*◌, ◌-◌, ◌≤◌, min, Bool, true, false, List, [], ◌∷◌, refl, ap, sym, ◌∙◌, arith}
use Rattle.std.proofs.lemmas.Int.{ints, unsigned_abs-mul}
use Rattle.std.specs.Prelude.{ℤ, pos, ◌+ℤ◌, ◌*ℤ◌, neg_ℤ, unsigned_abs, cond}
use Rattle.hypergeometric.specs.LinearForm.{LinearForm, Factor}
use Rattle.hypergeometric.specs.FactorLists.{same_form, power_of}
use Rattle.hypergeometric.proofs.Lookups.{same_form_found}
use Rattle.term_pieces.specs.Products.{at_later_k}
use Rattle.term_pieces.specs.NormalForm.{at_earlier_k, Taken, taken_above, taken_below, IsTaking}

-- the lesser of what is left of two powers, which asks for what was taken only where both are there
abbrev lesser_left : (p q a b : ℕ) → ℕ
lesser_left zero q a b = 0
lesser_left (suc p) zero a b = 0
lesser_left (suc p) (suc q) a b = min (suc p - a) (suc q - b)

lesser_is : (p q a b : ℕ) → lesser_left p q a b ≡ min (p - a) (q - b)
lesser_is zero q a b = omega arith
lesser_is (suc p) zero a b = omega arith
lesser_is (suc p) (suc q) a b = refl

module _ (q0 r0 : List Factor) where
  -- what was taken of each form, above and below
  abbrev TakenSoFar : Type 0
  TakenSoFar = (LinearForm → ℕ) × (LinearForm → ℕ)

  -- what can then be taken at a shift
  abbrev can_take : TakenSoFar → LinearForm → ℕ → ℕ
  can_take z s h = lesser_left (power_of s q0) (power_of (at_earlier_k s h) r0) (z.0 s) (z.1 (at_earlier_k s h))

  abbrev taken_so_far : ℕ → TakenSoFar
  taken_so_far zero = (λ s. 0, λ t. 0)
  taken_so_far (suc h) = (
    λ s. (taken_so_far h).0 s + can_take (taken_so_far h) s h,
    λ t. (taken_so_far h).1 t + can_take (taken_so_far h) (at_later_k t (pos h)) h,
  )

  abbrev pub taking : Taken
  taking s h = can_take (taken_so_far h) s h

  sums_above : (s : LinearForm) (h : ℕ) → taken_above taking s h ≡ (taken_so_far h).0 s
  sums_above s zero = refl
  sums_above s (suc h) = ap (λ t. t + taking s h) (sums_above s h)

  sums_below : (t : LinearForm) (h : ℕ) → taken_below taking t h ≡ (taken_so_far h).1 t
  sums_below t zero = refl
  sums_below t (suc h) = ap (λ u. u + taking (at_later_k t (pos h)) h) (sums_below t h)

  pub takes : IsTaking q0 r0 taking
  takes s h =
      let t = at_earlier_k s h in
      lesser_is (power_of s q0) (power_of t r0) ((taken_so_far h).0 s) ((taken_so_far h).1 t)
      ∙ (λ i. min (power_of s q0 - sym (sums_above s h) i) (power_of t r0 - sym (sums_below t h) i))

-- the sum of the magnitudes of the offsets
abbrev pub offsets_of : List Factor → ℕ
offsets_of [] = 0
offsets_of (x ∷ xs) = unsigned_abs x.form.offset + offsets_of xs

pub offset_within : (f : LinearForm) (xs : List Factor) → power_of f xs ≢ 0 → unsigned_abs f.offset ≤ offsets_of xs
offset_within f [] some = absurd (some refl)
offset_within f (x ∷ xs) some = by (same_form f x.form) refl some (offset_within f xs)
  where
    by : (b : Bool) → same_form f x.form ≡ b → cond b x.power (power_of f xs) ≢ 0
        → (power_of f xs ≢ 0 → unsigned_abs f.offset ≤ offsets_of xs) → unsigned_abs f.offset ≤ unsigned_abs x.form.offset + offsets_of xs
    by true e has rest =
        let same : unsigned_abs f.offset ≡ unsigned_abs x.form.offset = ap (λ g. unsigned_abs (LinearForm.offset g)) (same_form_found f x.form e) in
        omega (arith, same)
    by false e has rest = omega (arith, rest has)

-- a form with a k moves by at least the shift
pub moved_offset : (o c : ℤ) (h : ℕ) → c ≢ pos 0 → h ≤ unsigned_abs o + unsigned_abs (o +ℤ c *ℤ neg_ℤ (pos h))
moved_offset o c h some = triangle o (c *ℤ neg_ℤ (pos h)) h (omega (arith, size, at_least (unsigned_abs c) h (λ z. some (omega (arith, ints, z)))))
  where
    turned : (h : ℕ) → unsigned_abs (neg_ℤ (pos h)) ≡ h
    turned h = omega (arith, ints)

    size : unsigned_abs (c *ℤ neg_ℤ (pos h)) ≡ unsigned_abs c * h
    size = unsigned_abs-mul c (neg_ℤ (pos h)) ∙ ap (λ t. unsigned_abs c * t) (turned h)

    at_least : (m h : ℕ) → m ≢ 0 → h ≤ m * h
    at_least zero h ne = absurd (ne refl)
    at_least (suc m) h ne = omega arith

    triangle : (o x : ℤ) (h : ℕ) → h ≤ unsigned_abs x → h ≤ unsigned_abs o + unsigned_abs (o +ℤ x)
    triangle o x h l = omega (arith, ints, l)
