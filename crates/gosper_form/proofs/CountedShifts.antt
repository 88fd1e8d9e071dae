-- A denominator at n, n + 1, ..: one of these may be left out, and each has the slopes of the denominator.
use Rattle.std.proofs.Common.{◌≡◌, ◌≢◌, ℕ, zero, suc, ◌+◌, ◌<◌, Bool, true, false, cond, List, [], ◌∷◌, ◌++◌, map, refl, ap, sym, ◌∙◌, arith, subst, add-one}
use Rattle.std.proofs.lemmas.Bool.{eqb-true, eq-eqb}
use Rattle.std.proofs.lemmas.Int.{ints}
use Rattle.std.proofs.lemmas.List.{map-append}
use Rattle.std.specs.List.{AllByRecursion}
use Rattle.std.specs.Prelude.{nat_eq, ℤ, pos, ◌+ℤ◌, ◌*ℤ◌, unsigned_abs}
use Rattle.ring_laws.specs.WholeDomain.{abs_nought}
use Rattle.hypergeometric.specs.LinearForm.{LinearForm, Factor}
use Rattle.hypergeometric.specs.Forms.{form_with}
use Rattle.hypergeometric.specs.FactorLists.{factor_with}
use Rattle.hypergeometric.specs.PrimitiveForm.{is_zero}
use Rattle.term_pieces.specs.Products.{form_plus, at_later_n, at_later_k}
use Rattle.term_pieces.specs.ItemForms.{from_each, shifts_up_to, shifts_but, counted, counted_but, at_next_k, with_k, without_k, cleared_over, later_over, kept_over}
use Rattle.gosper_form.proofs.Pushes.{one_more, append_nothing}

-- a slope that is 0, and one that isn't
pub zero_slope : (z : ℤ) → z ≡ pos 0 → is_zero z ≡ true
zero_slope z e = ap is_zero e

pub other_slope : (z : ℤ) → z ≢ pos 0 → is_zero z ≡ false
other_slope z n = by (is_zero z) refl
  where
    by : (b : Bool) → is_zero z ≡ b → b ≡ false
    by true e = absurd (n (abs_nought z (eqb-true (unsigned_abs z) 0 e)))
    by false e = refl

not_equal : (j i : ℕ) → j ≢ i → nat_eq j i ≡ false
not_equal j i n = by (nat_eq j i) refl
  where
    by : (b : Bool) → nat_eq j i ≡ b → b ≡ false
    by true e = absurd (n (eqb-true j i e))
    by false e = refl

-- a form at n itself
still : (f : LinearForm) → at_later_n f (pos 0) ≡ f
still f = ap (form_with f.n_slope f.k_slope) (nothing f.offset f.n_slope)
  where
    nothing : (o s : ℤ) → o +ℤ s *ℤ pos 0 ≡ o
    nothing o s = omega (arith, ints)

-- those before n + i
abbrev pub shifts_before : ℕ → ℕ → Factor → List Factor
shifts_before j zero x = []
shifts_before j (suc i) x = shifts_but j i x

abbrev shift_at : ℕ → ℕ → Factor → List Factor
shift_at j i x = cond (nat_eq j i) [] (factor_with (at_later_n x.form (pos i)) x.power ∷ [])

next_shift : (j i : ℕ) (x : Factor) → shifts_before j (suc i) x ≡ shifts_before j i x ++ shift_at j i x
next_shift j zero x = ap (λ (f : LinearForm). cond (nat_eq j 0) [] (factor_with f x.power ∷ [])) (sym (still x.form))
next_shift j (suc i) x = refl

pub one_shift_more : (j i : ℕ) (x : Factor) → i ≢ j → shifts_before j i x ++ factor_with (at_later_n x.form (pos i)) x.power ∷ []
    ≡ shifts_before j (suc i) x
one_shift_more j i x n =
    ap (λ (b : Bool). shifts_before j i x ++ cond b [] (factor_with (at_later_n x.form (pos i)) x.power ∷ [])) (sym (not_equal j i (λ e. n (sym e))))
    ∙ sym (next_shift j i x)

pub one_shift_passed : (j i : ℕ) (x : Factor) → i ≡ j → shifts_before j i x ≡ shifts_before j (suc i) x
one_shift_passed j i x e =
    sym (append_nothing (shifts_before j i x))
    ∙ ap (λ (b : Bool). shifts_before j i x ++ cond b [] (factor_with (at_later_n x.form (pos i)) x.power ∷ [])) (sym (eq-eqb j i (sym e)))
    ∙ sym (next_shift j i x)

-- the same of a list of the code
pub shift_more : {A : Type 0} (f : A → Factor) (xs new : List A) (old : List Factor) (y : A) (j i : ℕ) (x : Factor) → map f xs ≡ old ++ shifts_before j i x
    → new ≡ xs ++ y ∷ [] → f y ≡ factor_with (at_later_n x.form (pos i)) x.power → i ≢ j → map f new ≡ old ++ shifts_before j (i + 1) x
shift_more f xs new old y j i x e h s n =
    one_more f xs new old (shifts_before j i x) y (factor_with (at_later_n x.form (pos i)) x.power) e h s
    ∙ ap (λ t. old ++ t) (one_shift_more j i x n ∙ ap (λ m. shifts_before j m x) (sym (add-one i)))

pub shift_passed : (xs old : List Factor) (j i : ℕ) (x : Factor) → xs ≡ old ++ shifts_before j i x → i ≡ j → xs ≡ old ++ shifts_before j (i + 1) x
shift_passed xs old j i x e h = e ∙ ap (λ t. old ++ t) (one_shift_passed j i x h ∙ ap (λ m. shifts_before j m x) (sym (add-one i)))

-- all of them, where the one that is left out lies behind
pub all_shifts : (j i : ℕ) (x : Factor) → i < j → shifts_but j i x ≡ shifts_up_to i x
all_shifts j zero x h = ap (λ (b : Bool). cond b [] (x ∷ [])) (not_equal j 0 (λ e. omega (arith, e, h)))
all_shifts j (suc i) x h = λ t. all_shifts j i x (omega (arith, h)) t
    ++ cond (not_equal j (suc i) (λ e. omega (arith, e, h)) t) [] (factor_with (at_later_n x.form (pos (suc i))) x.power ∷ [])

-- a denominator without an n counts once, and one with an n at each
pub counted_once : (order : ℕ) (x : Factor) → x.form.n_slope ≡ pos 0 → shifts_but 1 0 x ≡ counted order x
counted_once order x e = ap (λ (b : Bool). cond b (x ∷ []) (shifts_up_to order x)) (sym (zero_slope x.form.n_slope e))

pub counted_each : (order : ℕ) (x : Factor) → x.form.n_slope ≢ pos 0 → shifts_but (order + 1) order x ≡ counted order x
counted_each order x n =
    all_shifts (order + 1) order x (omega arith) ∙ ap (λ (b : Bool). cond b (x ∷ []) (shifts_up_to order x)) (sym (other_slope x.form.n_slope n))

pub counted_none : (order j : ℕ) (x : Factor) → x.form.n_slope ≡ pos 0 → counted_but order j x ≡ []
counted_none order j x e = ap (λ (b : Bool). cond b [] (shifts_but j order x)) (zero_slope x.form.n_slope e)

pub counted_others : (order j : ℕ) (x : Factor) → x.form.n_slope ≢ pos 0 → counted_but order j x ≡ shifts_but j order x
counted_others order j x n = ap (λ (b : Bool). cond b [] (shifts_but j order x)) (other_slope x.form.n_slope n)

-- each has the k slope of the denominator
abbrev HaveSlope : ℤ → List Factor → Type 0
HaveSlope k xs = AllByRecursion (λ y. y.form.k_slope ≡ k) xs

slope_joined : (k : ℤ) (xs ys : List Factor) → HaveSlope k xs → HaveSlope k ys → HaveSlope k (xs ++ ys)
slope_joined k [] ys h g = g
slope_joined k (x ∷ xs) ys h g = (h.0, slope_joined k xs ys h.1 g)

shifts_slope : (i : ℕ) (x : Factor) → HaveSlope x.form.k_slope (shifts_up_to i x)
shifts_slope zero x = (refl, tt)
shifts_slope (suc i) x = slope_joined x.form.k_slope (shifts_up_to i x) (factor_with (at_later_n x.form (pos (suc i))) x.power ∷ [])
    (shifts_slope i x) (refl, tt)

counted_slope : (order : ℕ) (x : Factor) → HaveSlope x.form.k_slope (counted order x)
counted_slope order x = by (is_zero x.form.n_slope)
  where
    by : (b : Bool) → HaveSlope x.form.k_slope (cond b (x ∷ []) (shifts_up_to order x))
    by true = (refl, tt)
    by false = shifts_slope order x

with_all : (k : ℤ) (xs : List Factor) → HaveSlope k xs → is_zero k ≡ false → from_each with_k xs ≡ xs
with_all k [] h e = refl
with_all k (y ∷ ys) h e =
    ap (λ (b : Bool). cond b [] (y ∷ []) ++ from_each with_k ys) (ap is_zero h.0 ∙ e) ∙ ap (λ t. y ∷ t) (with_all k ys h.1 e)

with_none : (k : ℤ) (xs : List Factor) → HaveSlope k xs → is_zero k ≡ true → from_each with_k xs ≡ []
with_none k [] h e = refl
with_none k (y ∷ ys) h e =
    ap (λ (b : Bool). cond b [] (y ∷ []) ++ from_each with_k ys) (ap is_zero h.0 ∙ e) ∙ with_none k ys h.1 e

without_all : (k : ℤ) (xs : List Factor) → HaveSlope k xs → is_zero k ≡ true → from_each without_k xs ≡ xs
without_all k [] h e = refl
without_all k (y ∷ ys) h e =
    ap (λ (b : Bool). cond b (y ∷ []) [] ++ from_each without_k ys) (ap is_zero h.0 ∙ e) ∙ ap (λ t. y ∷ t) (without_all k ys h.1 e)

without_none : (k : ℤ) (xs : List Factor) → HaveSlope k xs → is_zero k ≡ false → from_each without_k xs ≡ []
without_none k [] h e = refl
without_none k (y ∷ ys) h e =
    ap (λ (b : Bool). cond b (y ∷ []) [] ++ from_each without_k ys) (ap is_zero h.0 ∙ e) ∙ without_none k ys h.1 e

pub cleared_all : (order : ℕ) (x : Factor) → x.form.k_slope ≢ pos 0 → cleared_over order x ≡ counted order x
cleared_all order x n = with_all x.form.k_slope (counted order x) (counted_slope order x) (other_slope x.form.k_slope n)

pub cleared_none : (order : ℕ) (x : Factor) → x.form.k_slope ≡ pos 0 → cleared_over order x ≡ []
cleared_none order x e = with_none x.form.k_slope (counted order x) (counted_slope order x) (zero_slope x.form.k_slope e)

pub kept_all : (order : ℕ) (x : Factor) → x.form.k_slope ≡ pos 0 → kept_over order x ≡ counted order x
kept_all order x e = without_all x.form.k_slope (counted order x) (counted_slope order x) (zero_slope x.form.k_slope e)

pub kept_none : (order : ℕ) (x : Factor) → x.form.k_slope ≢ pos 0 → kept_over order x ≡ []
kept_none order x n = without_none x.form.k_slope (counted order x) (counted_slope order x) (other_slope x.form.k_slope n)

-- the denominator at k + 1, and what counts of it
abbrev pub next_k : Factor → Factor
next_k x = factor_with (form_plus x.form x.form.k_slope) x.power

next_form : (f : LinearForm) → at_later_k f (pos 1) ≡ form_plus f f.k_slope
next_form f = ap (form_with f.n_slope f.k_slope) (once f.offset f.k_slope)
  where
    once : (o k : ℤ) → o +ℤ k *ℤ pos 1 ≡ o +ℤ k
    once o k = omega (arith, ints)

next_shifted : (f : LinearForm) (j : ℤ) → at_later_k (at_later_n f j) (pos 1) ≡ at_later_n (form_plus f f.k_slope) j
next_shifted f j = next_form (at_later_n f j) ∙ ap (form_with f.n_slope f.k_slope) (turned f.offset (f.n_slope *ℤ j) f.k_slope)
  where
    turned : (o s k : ℤ) → (o +ℤ s) +ℤ k ≡ (o +ℤ k) +ℤ s
    turned o s k = omega (arith, ints)

next_shifts : (i : ℕ) (x : Factor) → at_next_k (shifts_up_to i x) ≡ shifts_up_to i (next_k x)
next_shifts zero x = ap (λ (f : LinearForm). factor_with f x.power ∷ []) (next_form x.form)
next_shifts (suc i) x =
    map-append (λ (y : Factor). factor_with (at_later_k y.form (pos 1)) y.power) (shifts_up_to i x)
    (factor_with (at_later_n x.form (pos (suc i))) x.power ∷ [])
    ∙ (λ t. next_shifts i x t ++ factor_with (next_shifted x.form (pos (suc i)) t) x.power ∷ [])

next_counted : (order : ℕ) (x : Factor) → at_next_k (counted order x) ≡ counted order (next_k x)
next_counted order x = by (is_zero x.form.n_slope)
  where
    by : (b : Bool) → at_next_k (cond b (x ∷ []) (shifts_up_to order x)) ≡ cond b (next_k x ∷ []) (shifts_up_to order (next_k x))
    by true = next_shifts 0 x
    by false = next_shifts order x

pub later_all : (order : ℕ) (x : Factor) → x.form.k_slope ≢ pos 0 → later_over order x ≡ counted order (next_k x)
later_all order x n =
    ap (from_each with_k) (next_counted order x)
    ∙ with_all x.form.k_slope (counted order (next_k x)) (counted_slope order (next_k x)) (other_slope x.form.k_slope n)

pub later_none : (order : ℕ) (x : Factor) → x.form.k_slope ≡ pos 0 → later_over order x ≡ []
later_none order x e =
    ap (from_each with_k) (next_counted order x)
    ∙ with_none x.form.k_slope (counted order (next_k x)) (counted_slope order (next_k x)) (zero_slope x.form.k_slope e)
