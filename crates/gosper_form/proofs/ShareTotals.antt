-- How often the forms that an item gives stand there in all: at most 96 times as often as the item.
use Rattle.std.proofs.Common.{◌≡◌, ℕ, zero, suc, ◌+◌, ◌*◌, ◌≤◌, Bool, true, false, cond, List, [], ◌∷◌, ◌++◌, map, refl, ap, sym, ◌∙◌, arith, subst, mul-le-mul_right, ◌^◌}
use Rattle.std.proofs.lemmas.Int.{ints, unsigned_abs-mul}
use Rattle.std.specs.List.{AllByRecursion}
use Rattle.std.specs.Prelude.{nat_eq, ℤ, pos, negsuc, ◌-ℤ◌, ◌*ℤ◌, unsigned_abs, length}
use Rattle.hypergeometric.specs.LinearForm.{LinearForm, Factor}
use Rattle.hypergeometric.specs.TermFacts.{IsWithinLimits, total_power}
use Rattle.hypergeometric.specs.FactorLists.{factor_with}
use Rattle.hypergeometric.specs.FormOrder.{IsFactor}
use Rattle.hypergeometric.specs.PrimitiveForm.{is_zero}
use Rattle.term_pieces.specs.Products.{form_plus, at_later_n, forms_above, forms_below}
use Rattle.term_pieces.specs.ItemForms.{negative_part, positive_part, from_each, shifts_up_to, shifts_but, counted, at_next_k, with_k, without_k, rising_where, falling_where}
use Rattle.gosper_form.specs.Shares.{share_of, CanGive}
use Rattle.gosper_form.specs.declared.shares.Share.{Share}
use Rattle.gosper_form.specs.declared.shares.Share.TheVariants.{AboveLeast, BelowGreatest, CountedBut, RisingUp, FallingUp, RisingDown, FallingDown, Cleared, Later, Kept}

pub joined_total : (xs ys : List Factor) → total_power (xs ++ ys) ≡ total_power xs + total_power ys
joined_total [] ys = omega arith
joined_total (x ∷ xs) ys = omega (arith, joined_total xs ys)

-- each power is below 2^32
pub total_within : (xs : List Factor) → AllByRecursion IsFactor xs → total_power xs ≤ 2 ^ 32 * length xs
total_within [] h = omega arith
total_within (x ∷ xs) h = omega (arith, h.0.few, total_within xs h.1)

above_total : (f : LinearForm) (m p : ℕ) → total_power (forms_above f m p) ≡ m * p
above_total f zero p = omega arith
above_total f (suc m) p =
    let last = joined_total (forms_above f m p) (factor_with (form_plus f (pos (suc m))) p ∷ []) in
    last ∙ (λ i. above_total f m p i + (p + 0)) ∙ more m p
  where
    more : (m p : ℕ) → m * p + (p + 0) ≡ suc m * p
    more m p = omega arith

below_total : (f : LinearForm) (m p : ℕ) → total_power (forms_below f m p) ≡ m * p
below_total f zero p = omega arith
below_total f (suc m) p =
    joined_total (forms_below f m p) _ ∙ (λ i. below_total f m p i + (p + 0)) ∙ more m p
  where
    more : (m p : ℕ) → m * p + (p + 0) ≡ suc m * p
    more m p = omega arith

few : (m p : ℕ) → m ≤ 96 → m * p ≤ 96 * p
few m p h = mul-le-mul_right p h

up_to_total : (i : ℕ) (x : Factor) → total_power (shifts_up_to i x) ≡ suc i * x.power
up_to_total zero x = omega arith
up_to_total (suc i) x =
    joined_total (shifts_up_to i x) _ ∙ (λ t. up_to_total i x t + (x.power + 0)) ∙ more (suc i) x.power
  where
    more : (m p : ℕ) → m * p + (p + 0) ≡ suc m * p
    more m p = omega arith

one_total : (b : Bool) (x : Factor) → total_power (cond b [] (x ∷ [])) ≤ x.power
one_total true x = omega arith
one_total false x = omega arith

but_total : (j i : ℕ) (x : Factor) → total_power (shifts_but j i x) ≤ suc i * x.power
but_total j zero x =
    let one = one_total (nat_eq j 0) x in
    omega (arith, one)
but_total j (suc i) x =
    let first = but_total j i x in
    let one = one_total (nat_eq j (suc i)) (factor_with (at_later_n x.form (pos (suc i))) x.power) in
    let both = joined_total (shifts_but j i x) (cond (nat_eq j (suc i)) [] (factor_with (at_later_n x.form (pos (suc i))) x.power ∷ [])) in
    more (suc i) x.power _ _ _ both first one
  where
    more : (m p s t u : ℕ) → s ≡ t + u → t ≤ m * p → u ≤ p → s ≤ suc m * p
    more m p s t u e h g = omega (arith, e, h, g)

counted_total : (order : ℕ) (x : Factor) → order ≤ 6 → total_power (counted order x) ≤ 96 * x.power
counted_total order x h = by (is_zero x.form.n_slope)
  where
    by : (b : Bool) → total_power (cond b (x ∷ []) (shifts_up_to order x)) ≤ 96 * x.power
    by true = omega arith
    by false =
        let all = up_to_total order x in
        let small = few (suc order) x.power (omega (arith, h)) in
        omega (arith, all, small)

-- some of the forms of a list
part_total : (g : Factor → List Factor) (xs : List Factor) → ((x : Factor) → total_power (g x) ≤ x.power) → total_power (from_each g xs) ≤ total_power xs
part_total g [] h = omega arith
part_total g (x ∷ xs) h =
    let both = joined_total (g x) (from_each g xs) in
    omega (arith, both, h x, part_total g xs h)

with_total : (x : Factor) → total_power (with_k x) ≤ x.power
with_total x = one_total (is_zero x.form.k_slope) x

without_total : (x : Factor) → total_power (without_k x) ≤ x.power
without_total x = by (is_zero x.form.k_slope)
  where
    by : (b : Bool) → total_power (cond b (x ∷ []) []) ≤ x.power
    by true = omega arith
    by false = omega arith

next_total : (xs : List Factor) → total_power (at_next_k xs) ≡ total_power xs
next_total [] = refl
next_total (x ∷ xs) = ap (λ t. x.power + t) (next_total xs)

rising_total : (s : ℤ) (f : LinearForm) (p : ℕ) → unsigned_abs s ≤ 8 → total_power (rising_where s f p) ≤ 96 * p
rising_total (pos m) f p h =
    let all = above_total f m p in
    let small = few m p (omega (arith, h)) in
    omega (arith, all, small)
rising_total (negsuc m) f p h = omega arith

falling_total : (s : ℤ) (f : LinearForm) (p : ℕ) → unsigned_abs s ≤ 8 → total_power (falling_where s f p) ≤ 96 * p
falling_total (pos m) f p h = omega arith
falling_total (negsuc m) f p h =
    let all = below_total f (suc m) p in
    let small = few (suc m) p (omega (arith, ints, h)) in
    omega (arith, all, small)

-- how far a form moves
pub product_size : (s : ℤ) (j : ℕ) → unsigned_abs s ≤ 8 → j ≤ 6 → unsigned_abs (s *ℤ pos j) ≤ 48
product_size s j h g =
    let bound : unsigned_abs s * j ≤ 8 * 6 = times (unsigned_abs s) j h g in
    omega (arith, bound, unsigned_abs-mul s (pos j))
  where
    times : (a b : ℕ) → a ≤ 8 → b ≤ 6 → a * b ≤ 8 * 6
    times a b h g =
        let first = mul-le-mul_right b h in
        omega (arith, first, g)

pub part_size : (s : ℤ) → unsigned_abs s ≤ 8 → (unsigned_abs (negative_part s) ≤ 8) × (unsigned_abs (positive_part s) ≤ 8)
part_size (pos m) h = (omega arith, h)
part_size (negsuc m) h = (h, omega arith)

pub above_count : (s : ℤ) (j order : ℕ) → unsigned_abs s ≤ 8 → j ≤ 6 → order ≤ 6 → unsigned_abs (s *ℤ pos j -ℤ negative_part s *ℤ pos order) ≤ 96
above_count s j order h g k =
    let first = product_size s j h g in
    let second = product_size (negative_part s) order (part_size s h).0 k in
    apart (s *ℤ pos j) (negative_part s *ℤ pos order) first second
  where
    apart : (x y : ℤ) → unsigned_abs x ≤ 48 → unsigned_abs y ≤ 48 → unsigned_abs (x -ℤ y) ≤ 96
    apart x y h g = omega (arith, ints, h, g)

pub below_count : (s : ℤ) (j order : ℕ) → unsigned_abs s ≤ 8 → j ≤ 6 → order ≤ 6 → unsigned_abs (positive_part s *ℤ pos order -ℤ s *ℤ pos j) ≤ 96
below_count s j order h g k =
    let first = product_size s j h g in
    let second = product_size (positive_part s) order (part_size s h).1 k in
    apart (positive_part s *ℤ pos order) (s *ℤ pos j) second first
  where
    apart : (x y : ℤ) → unsigned_abs x ≤ 48 → unsigned_abs y ≤ 48 → unsigned_abs (x -ℤ y) ≤ 96
    apart x y h g = omega (arith, ints, h, g)

share_total : (share : Share) (order : ℕ) (x : Factor) → order ≤ 6 → IsWithinLimits x.form → CanGive share x.form
    → total_power (share_of share order x) ≤ 96 * x.power
share_total (AboveLeast j) order x low h can =
    let all = above_total _ (unsigned_abs (x.form.n_slope *ℤ pos j -ℤ negative_part x.form.n_slope *ℤ pos order)) x.power in
    let small = few _ x.power (above_count x.form.n_slope j order h.n_slope can low) in
    subst (λ t. t ≤ 96 * x.power) (sym all) small
share_total (BelowGreatest j) order x low h can =
    let all = above_total _ (unsigned_abs (positive_part x.form.n_slope *ℤ pos order -ℤ x.form.n_slope *ℤ pos j)) x.power in
    let small = few _ x.power (below_count x.form.n_slope j order h.n_slope can low) in
    subst (λ t. t ≤ 96 * x.power) (sym all) small
share_total (CountedBut j) order x low h can = by (is_zero x.form.n_slope)
  where
    by : (b : Bool) → total_power (cond b [] (shifts_but j order x)) ≤ 96 * x.power
    by true = omega arith
    by false =
        let all = but_total j order x in
        let small = few (suc order) x.power (omega (arith, low)) in
        omega (arith, all, small)
share_total RisingUp order x low h can = rising_total x.form.k_slope _ x.power h.k_slope
share_total FallingUp order x low h can = falling_total x.form.k_slope _ x.power h.k_slope
share_total RisingDown order x low h can = rising_total x.form.k_slope _ x.power h.k_slope
share_total FallingDown order x low h can = falling_total x.form.k_slope _ x.power h.k_slope
share_total Cleared order x low h can =
    let part = part_total with_k (counted order x) with_total in
    omega (arith, part, counted_total order x low)
share_total Later order x low h can =
    let part = part_total with_k (at_next_k (counted order x)) with_total in
    omega (arith, part, next_total (counted order x), counted_total order x low)
share_total Kept order x low h can =
    let part = part_total without_k (counted order x) without_total in
    omega (arith, part, counted_total order x low)

abbrev CanAllGive : Share → List Factor → Type 0
CanAllGive share xs = AllByRecursion (λ x. CanGive share x.form) xs

pub shares_total : (share : Share) (order : ℕ) (xs : List Factor) → order ≤ 6 → AllByRecursion (λ x. IsWithinLimits x.form) xs → CanAllGive share xs
    → total_power (from_each (share_of share order) xs) ≤ 96 * total_power xs
shares_total share order [] low h can = omega arith
shares_total share order (x ∷ xs) low h can =
    let both = joined_total (share_of share order x) (from_each (share_of share order) xs) in
    omega (arith, both, share_total share order x low h.0 can.0, shares_total share order xs low h.1 can.1)

-- of a denominator the carrier keeps at most 7
kept_total : (order : ℕ) (x : Factor) → order ≤ 6 → total_power (share_of Kept order x) ≤ 7 * x.power
kept_total order x low =
    let part = part_total without_k (counted order x) without_total in
    let all = by (is_zero x.form.n_slope) in
    omega (arith, part, all)
  where
    by : (b : Bool) → total_power (cond b (x ∷ []) (shifts_up_to order x)) ≤ 7 * x.power
    by true = omega arith
    by false =
        let all = up_to_total order x in
        let seven : suc order ≤ 7 = omega (arith, low) in
        let small : suc order * x.power ≤ 7 * x.power = mul-le-mul_right x.power seven in
        omega (arith, all, small)

pub all_kept_total : (order : ℕ) (xs : List Factor) → order ≤ 6 → total_power (from_each (share_of Kept order) xs) ≤ 7 * total_power xs
all_kept_total order [] low = omega arith
all_kept_total order (x ∷ xs) low =
    let both = joined_total (share_of Kept order x) (from_each (share_of Kept order) xs) in
    omega (arith, both, kept_total order x low, all_kept_total order xs low)
