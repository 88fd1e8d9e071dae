-- The forms of q0 and r0 of a plain term's pieces are primitive, and within bounds at k - 1 too.
use Rattle.std.proofs.Common.{◌≡◌, ◌≢◌, ℕ, zero, suc, ◌+◌, ◌*◌, ◌≤◌, ◌<◌, Bool, true, false, cond, List, [], ◌∷◌, ◌++◌, refl, ap, sym, ◌∙◌, subst, arith, mul-le-mul}
use Rattle.std.proofs.lemmas.Int.{ints, unsigned_abs-mul}
use Rattle.std.specs.List.{AllByRecursion}
use Rattle.std.specs.Prelude.{ℤ, pos, negsuc, ◌+ℤ◌, ◌-ℤ◌, ◌*ℤ◌, neg_ℤ, unsigned_abs, ◌^◌}
use Rattle.hypergeometric.specs.LinearForm.{LinearForm, Factor, FactorList}
use Rattle.hypergeometric.specs.FormOrder.{IsForm, IsPrimitive}
use Rattle.hypergeometric.specs.FactorLists.{same_form, factor_with, power_of}
use Rattle.hypergeometric.specs.PrimitiveForm.{is_zero, content_of_form, primitive_form}
use Rattle.hypergeometric.specs.ProperTerm.{ProperTerm}
use Rattle.hypergeometric.specs.TermFacts.{IsWithinLimits, AllWithinLimits, IsPlain}
use Rattle.hypergeometric.proofs.Contents.{content_not_zero}
use Rattle.hypergeometric.proofs.Lookups.{same_form_found, same_form_itself}
use Rattle.hypergeometric.proofs.OnlyLowest.{content_multiple}
use Rattle.hypergeometric.proofs.PrimitiveForms.{IsNotZero}
use Rattle.hypergeometric.proofs.PrimitiveParts.{primitive_is}
use Rattle.term_pieces.specs.Products.{form_plus, at_later_n, at_later_k, forms_above, forms_below, power_among, IsProductOf}
use Rattle.term_pieces.specs.NormalForm.{at_earlier_k}
use Rattle.term_pieces.specs.ItemForms.{negative_part, positive_part, least_of, greatest_of, from_each, shifts_up_to, counted, at_next_k, rising_where, falling_where, with_k, rising_up, falling_up, rising_down, falling_down, cleared_over, later_over}
use Rattle.term_pieces.specs.Pieces.{Pieces, ArePiecesOf, q_forms, r_forms}
use Rattle.gosper_form.specs.NormalLists.{IsFormQuotient}

-- slopes and an offset that are well within the bounds of forms
pub record IsNear (f : LinearForm) : Type 0 where
  pub n_slope : unsigned_abs f.n_slope ≤ 8
  pub k_slope : unsigned_abs f.k_slope ≤ 8
  pub offset : unsigned_abs f.offset ≤ 2 ^ 21

-- and a k
pub record IsNearWithK (f : LinearForm) : Type 0 where
  pub near : IsNear f
  pub has_k : f.k_slope ≢ pos 0

abbrev All : (LinearForm → Type 0) → List Factor → Type 0
All P xs = AllByRecursion (λ x. P x.form) xs

joined : (P : LinearForm → Type 0) (xs ys : List Factor) → All P xs → All P ys → All P (xs ++ ys)
joined P [] ys p q = q
joined P (x ∷ xs) ys p q = (p.0, joined P xs ys p.1 q)

from_items : (P Q : LinearForm → Type 0) (g : Factor → List Factor) (xs : List Factor) → ((x : Factor) → P x.form → All Q (g x))
    → All P xs → All Q (from_each g xs)
from_items P Q g [] each p = tt
from_items P Q g (x ∷ xs) each p = joined Q (g x) (from_each g xs) (each x p.0) (from_items P Q g xs each p.1)

above_near : (f : LinearForm) (m power : ℕ) → IsWithinLimits f → f.k_slope ≢ pos 0 → (c : ℤ) → unsigned_abs c ≤ 64 → m ≤ 8
    → All IsNearWithK (forms_above (form_plus f c) m power)
above_near f zero power w k c small few = tt
above_near f (suc m) power w k c small few =
    joined IsNearWithK (forms_above (form_plus f c) m power) _ (above_near f m power w k c small (omega (arith, few)))
    (record { near = record { n_slope = w.n_slope; k_slope = w.k_slope; offset = omega (arith, ints, w.offset, small, few) }; has_k = k }, tt)

below_near : (f : LinearForm) (m power : ℕ) → IsWithinLimits f → f.k_slope ≢ pos 0 → (c : ℤ) → unsigned_abs c ≤ 64 → m ≤ 8
    → All IsNearWithK (forms_below (form_plus f c) m power)
below_near f zero power w k c small few = tt
below_near f (suc m) power w k c small few =
    joined IsNearWithK (forms_below (form_plus f c) m power) _ (below_near f m power w k c small (omega (arith, few)))
    (record { near = record { n_slope = w.n_slope; k_slope = w.k_slope; offset = omega (arith, ints, w.offset, small, few) }; has_k = k }, tt)

rising_near : (f : LinearForm) (slope : ℤ) (power : ℕ) → IsWithinLimits f → slope ≡ f.k_slope → (c : ℤ) → unsigned_abs c ≤ 64
    → All IsNearWithK (rising_where slope (form_plus f c) power)
rising_near f (pos zero) power w is c small = tt
rising_near f (pos (suc m)) power w is c small =
    above_near f (suc m) power w (λ z. omega (arith, ints, is, z)) c small (omega (arith, ints, is, w.k_slope))
rising_near f (negsuc m) power w is c small = tt

falling_near : (f : LinearForm) (slope : ℤ) (power : ℕ) → IsWithinLimits f → slope ≡ f.k_slope → (c : ℤ) → unsigned_abs c ≤ 64
    → All IsNearWithK (falling_where slope (form_plus f c) power)
falling_near f (pos m) power w is c small = tt
falling_near f (negsuc m) power w is c small =
    below_near f (suc m) power w (λ z. omega (arith, ints, is, z)) c small (omega (arith, ints, is, w.k_slope))

-- a part of a slope, as often as an order says
negative_small : (s : ℤ) (order : ℕ) → unsigned_abs s ≤ 8 → order ≤ 6 → unsigned_abs (negative_part s *ℤ pos order) ≤ 64
negative_small (pos m) order h low = omega (arith, ints)
negative_small (negsuc m) order h low = omega (arith, unsigned_abs-mul (negsuc m) (pos order), mul-le-mul h low)

positive_small : (s : ℤ) (order : ℕ) → unsigned_abs s ≤ 8 → order ≤ 6 → unsigned_abs (positive_part s *ℤ pos order) ≤ 64
positive_small (pos m) order h low = omega (arith, unsigned_abs-mul (pos m) (pos order), mul-le-mul h low)
positive_small (negsuc m) order h low = omega (arith, ints)

-- what factorials give
rising_least : (order : ℕ) (x : Factor) → order ≤ 6 → IsWithinLimits x.form → All IsNearWithK (rising_up order x)
rising_least order x low w = rising_near x.form x.form.k_slope x.power w refl _ (negative_small x.form.n_slope order w.n_slope low)

falling_least : (order : ℕ) (x : Factor) → order ≤ 6 → IsWithinLimits x.form → All IsNearWithK (falling_up order x)
falling_least order x low w = falling_near x.form x.form.k_slope x.power w refl _ (negative_small x.form.n_slope order w.n_slope low)

rising_greatest : (order : ℕ) (x : Factor) → order ≤ 6 → IsWithinLimits x.form → All IsNearWithK (rising_down order x)
rising_greatest order x low w = rising_near x.form x.form.k_slope x.power w refl _ (positive_small x.form.n_slope order w.n_slope low)

falling_greatest : (order : ℕ) (x : Factor) → order ≤ 6 → IsWithinLimits x.form → All IsNearWithK (falling_down order x)
falling_greatest order x low w = falling_near x.form x.form.k_slope x.power w refl _ (positive_small x.form.n_slope order w.n_slope low)

-- a multiple of a slope
times_small : (s c : ℤ) → unsigned_abs s ≤ 8 → unsigned_abs c ≤ 6 → unsigned_abs (s *ℤ c) ≤ 48
times_small s c h low = omega (arith, unsigned_abs-mul s c, mul-le-mul h low)

-- what denominators give: at n, .., n + J, at k or at k + 1, where they have a k
shift_near : (f : LinearForm) (j : ℕ) → IsWithinLimits f → j ≤ 6 → IsNear (at_later_n f (pos j))
shift_near f j w low = record {
  n_slope = w.n_slope;
  k_slope = w.k_slope;
  offset = omega (arith, ints, w.offset, times_small f.n_slope (pos j) w.n_slope low);
}

within_near : (f : LinearForm) → IsWithinLimits f → IsNear f
within_near f w = record { n_slope = w.n_slope; k_slope = w.k_slope; offset = omega (arith, w.offset) }

shifts_near : (order : ℕ) (x : Factor) → order ≤ 6 → IsWithinLimits x.form → All IsNear (shifts_up_to order x)
shifts_near zero x low w = (within_near x.form w, tt)
shifts_near (suc j) x low w =
    joined IsNear (shifts_up_to j x) _ (shifts_near j x (omega (arith, low)) w) (shift_near x.form (suc j) w low, tt)

counted_near : (order : ℕ) (x : Factor) → order ≤ 6 → IsWithinLimits x.form → All IsNear (counted order x)
counted_near order x low w = by (is_zero x.form.n_slope)
  where
    by : (b : Bool) → All IsNear (cond b (x ∷ []) (shifts_up_to order x))
    by true = (within_near x.form w, tt)
    by false = shifts_near order x low w

-- a form further on stays well within the bounds
pub record IsClose (f : LinearForm) : Type 0 where
  pub n_slope : unsigned_abs f.n_slope ≤ 8
  pub k_slope : unsigned_abs f.k_slope ≤ 8
  pub offset : unsigned_abs f.offset ≤ 2 ^ 22
  pub has_k : f.k_slope ≢ pos 0

close_of : (f : LinearForm) → IsNearWithK f → IsClose f
close_of f h = record { n_slope = h.near.n_slope; k_slope = h.near.k_slope; offset = omega (arith, h.near.offset); has_k = h.has_k }

next_close : (f : LinearForm) → IsNear f → f.k_slope ≢ pos 0 → IsClose (at_later_k f (pos 1))
next_close f h k = record {
  n_slope = h.n_slope;
  k_slope = h.k_slope;
  offset = omega (arith, ints, h.offset, times_small f.k_slope (pos 1) h.k_slope (omega arith));
  has_k = k;
}

weaker : (P Q : LinearForm → Type 0) (xs : List Factor) → ((f : LinearForm) → P f → Q f) → All P xs → All Q xs
weaker P Q [] h p = tt
weaker P Q (x ∷ xs) h p = (h x.form p.0, weaker P Q xs h p.1)

-- those that have a k
has_k_from : (z : ℤ) → is_zero z ≡ false → z ≢ pos 0
has_k_from z e is = differ (sym (ap is_zero is) ∙ e)
  where
    differ : true ≡ false → ⊥
    differ d = cc

with_k_close : (P : LinearForm → Type 0) (xs : List Factor) → ((f : LinearForm) → P f → f.k_slope ≢ pos 0 → IsClose f) → All P xs
    → All IsClose (from_each with_k xs)
with_k_close P xs h p = from_items P IsClose with_k xs one p
  where
    one : (x : Factor) → P x.form → All IsClose (with_k x)
    one x q = by (is_zero x.form.k_slope) refl
      where
        by : (b : Bool) → is_zero x.form.k_slope ≡ b → All IsClose (cond b [] (x ∷ []))
        by true e = tt
        by false e = (h x.form q (has_k_from x.form.k_slope e), tt)

near_close : (f : LinearForm) → IsNear f → f.k_slope ≢ pos 0 → IsClose f
near_close f h k = record { n_slope = h.n_slope; k_slope = h.k_slope; offset = omega (arith, h.offset); has_k = k }

cleared_close : (order : ℕ) (x : Factor) → order ≤ 6 → IsWithinLimits x.form → All IsClose (cleared_over order x)
cleared_close order x low w = with_k_close IsNear (counted order x) near_close (counted_near order x low w)

-- the forms at k + 1 of near ones
abbrev IsNextOfNear : LinearForm → Type 0
IsNextOfNear g = (f : LinearForm) × IsNear f × (g ≡ at_later_k f (pos 1))

next_of : (xs : List Factor) → All IsNear xs → All IsNextOfNear (at_next_k xs)
next_of [] p = tt
next_of (x ∷ xs) p = ((x.form, p.0, refl), next_of xs p.1)

later_close : (order : ℕ) (x : Factor) → order ≤ 6 → IsWithinLimits x.form → All IsClose (later_over order x)
later_close order x low w = with_k_close IsNextOfNear (at_next_k (counted order x)) close (next_of (counted order x) (counted_near order x low w))
  where
    close : (g : LinearForm) → IsNextOfNear g → g.k_slope ≢ pos 0 → IsClose g
    close g (f, near, is) k = subst IsClose (sym is) (next_close f near (λ z. k (ap (λ h. h.k_slope) is ∙ z)))

-- all forms of q0 and r0
abbrev pub AllClose : List Factor → Type 0
AllClose xs = All IsClose xs

module _ (f : ProperTerm) (order : ℕ) (plain : IsPlain f) (low : order ≤ 6) where
  items_close : (g : Factor → List Factor) (xs : List Factor) → ((x : Factor) → IsWithinLimits x.form → All IsNearWithK (g x))
      → AllWithinLimits xs → AllClose (from_each g xs)
  items_close g xs h w = weaker IsNearWithK IsClose (from_each g xs) close_of (from_items IsWithinLimits IsNearWithK g xs h w)

  pub q_close : AllClose (q_forms f order)
  q_close =
      joined IsClose (from_each (rising_up order) f.up) _ (items_close (rising_up order) f.up (λ x w. rising_least order x low w) plain.up)
      (joined IsClose (from_each (falling_down order) f.down) _
      (items_close (falling_down order) f.down (λ x w. falling_greatest order x low w) plain.down)
      (from_items IsWithinLimits IsClose (cleared_over order) f.over (λ x w. cleared_close order x low w) plain.over))

  pub r_close : AllClose (r_forms f order)
  r_close =
      joined IsClose (from_each (falling_up order) f.up) _ (items_close (falling_up order) f.up (λ x w. falling_least order x low w) plain.up)
      (joined IsClose (from_each (rising_down order) f.down) _
      (items_close (rising_down order) f.down (λ x w. rising_greatest order x low w) plain.down)
      (from_items IsWithinLimits IsClose (later_over order) f.over (λ x w. later_close order x low w) plain.over))
