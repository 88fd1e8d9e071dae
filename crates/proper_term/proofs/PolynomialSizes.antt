-- Values of polynomials at a point, and the sizes that bound them.
use Rattle.std.proofs.Common.{◌≡◌, ℕ, zero, suc, ◌+◌, ◌*◌, ◌<◌, ◌≤◌, ◌^◌, refl, ap, sym, ◌∙◌, subst, arith, List, [], ◌∷◌, map, length, drop, get_or, ◌-◌}
use Rattle.std.proofs.Math.Nat.{mul-le-mul_left, mul-le-mul_right}
use Rattle.std.proofs.lemmas.Int.{ints, unsigned_abs-mul}
use Rattle.std.proofs.lemmas.Option.{slice_get-map, slice_get_read}
use Rattle.std.specs.Option.{option_map}
use Rattle.lin_form.proofs.ListProducts.{from_index}
use Rattle.std.specs.Prelude.{ℤ, pos, ◌+ℤ◌, ◌*ℤ◌, unsigned_abs}
use Rattle.ring_laws.specs.Meaning.{Meaning, number, listed, items, parted-joined}
use Rattle.ring_laws.specs.Wholes.{number_of, whole_algebra}
use Rattle.poly_laws.specs.Evaluation.{list_value, ValueInBounds}
use Rattle.poly_laws.specs.Values.{horner}
use Rattle.hypergeometric.specs.Point.{Point}
use Rattle.hypergeometric.specs.ProperTerm.{value_in_n}
use Rattle.proper_term.specs.ValueBounds.{sizes, size_in_n}

-- a value in the ring of whole numbers
pub value_number : (v : ℤ) (ms : List Meaning) → number_of (list_value whole_algebra.ops (number v) ms) ≡ horner number_of v ms
value_number v [] = refl
value_number v (m ∷ ms) = ap (λ z. number_of m +ℤ v *ℤ z) (value_number v ms)

size_number : (v : ℕ) (ms : List Meaning)
    → number_of (list_value whole_algebra.ops (number (pos v)) (map whole_algebra.ops.magnitude ms)) ≡ pos (sizes (λ z. unsigned_abs
    (number_of z)) v ms)
size_number v [] = refl
size_number v (m ∷ ms) = ap (λ z. pos (unsigned_abs (number_of m)) +ℤ pos v *ℤ z) (size_number v ms)

-- a value in n is in bounds where its size is
pub value_in_bounds : (n : ℤ) (ms : List Meaning) → sizes (λ z. unsigned_abs (number_of z)) (unsigned_abs n) ms < 2 ^ 127
    → ValueInBounds whole_algebra (number n) ms
value_in_bounds n ms h = subst (λ z. unsigned_abs z < 2 ^ 127) (sym (size_number (unsigned_abs n) ms)) h

sum_size : (a b : ℤ) → unsigned_abs (a +ℤ b) ≤ unsigned_abs a + unsigned_abs b
sum_size a b = omega (arith, ints)

-- sizes bound values
pub within_size : {A : Type 0} (f : A → ℤ) (g : A → ℕ) → ((x : A) → unsigned_abs (f x) ≤ g x) → (v : ℤ) (xs : List A)
    → unsigned_abs (horner f v xs) ≤ sizes g (unsigned_abs v) xs
within_size f g h v [] = omega (arith, ints)
within_size f g h v (x ∷ xs) =
    let rest = mul-le-mul_left (unsigned_abs v) (within_size f g h v xs) in
    let product = unsigned_abs-mul v (horner f v xs) in
    let whole = sum_size (f x) (v *ℤ horner f v xs) in
    let here = h x in
    omega (arith, rest, product, whole, here)

same_size : (x : Meaning) → unsigned_abs (number_of x) ≤ unsigned_abs (number_of x)
same_size x = omega arith

pub within_size_in_n : (p : Point) (c : Meaning) → unsigned_abs (value_in_n c p) ≤ size_in_n p c
within_size_in_n p c = within_size number_of (λ z. unsigned_abs (number_of z)) same_size p.n (items c)

-- later coefficients count less, where the variable isn't 0
pub later_less : {A : Type 0} (g : A → ℕ) (v : ℕ) (xs : List A) (i : ℕ) → (v ≡ 0 → length xs ≤ 1) → i < length xs
    → sizes g v (drop i xs) ≤ sizes g v xs
later_less g v xs zero counted below = omega arith
later_less g v [] (suc i) counted below = absurd (omega (arith, below))
later_less g zero (x ∷ xs) (suc i) counted below = let few = counted refl in absurd (omega (arith, few, below))
later_less g (suc v) (x ∷ xs) (suc i) counted below =
    let rest = later_less g (suc v) xs i (λ e. absurd (omega (arith, e))) (omega (arith, below)) in
    let grows : 1 * sizes g (suc v) xs ≤ suc v * sizes g (suc v) xs = mul-le-mul_right (sizes g (suc v) xs) (omega arith) in
    omega (arith, rest, grows)

-- the coefficient that comes next stands first
pub coefficient_first : {A B : Type 0} (f : A → B) (xs : List A) (power : ℕ) (x : A) → 0 < power → power ≤ length xs
    → x ≡ get_or xs (power - 1) x → drop (power - 1) (map f xs) ≡ f x ∷ drop power (map f xs)
coefficient_first f xs zero x some within is = absurd (omega (arith, some))
coefficient_first f xs (suc i) x some within is =
    ap (λ j. drop j (map f xs)) (last i)
    ∙ from_index (map f xs) i (f x) (slice_get-map f xs i ∙ ap (option_map f) (slice_get_read xs (length xs) i x refl (omega (arith, within)) (is
    ∙ ap (λ j. get_or xs j x) (last i))))
  where
    last : (i : ℕ) → suc i - 1 ≡ i
    last i = omega arith

-- where the next step is out of bounds, the whole is
pub step_out : (p : Point) (v : ℤ) (ms : List Meaning) (power : ℕ) (m : Meaning) → 0 < power → power ≤ length ms → (p.k ≡ pos 0 → length ms ≤ 1)
    → drop (power - 1) ms ≡ m ∷ drop power ms → v ≡ horner (λ c. value_in_n c p) p.k (drop power ms)
    → ¬ (size_in_n p m + unsigned_abs p.k * unsigned_abs v < 2 ^ 127) → ¬ (sizes (size_in_n p) (unsigned_abs p.k) ms < 2 ^ 127)
step_out p v ms power m some within counted first is out small =
    let size : unsigned_abs v ≤ sizes (size_in_n p) (unsigned_abs p.k) (drop power ms) =
    subst (λ z. unsigned_abs z ≤ sizes (size_in_n p) (unsigned_abs p.k) (drop power ms)) (sym is)
    (within_size (λ c. value_in_n c p) (size_in_n p) (within_size_in_n p) p.k (drop power ms)) in
    let product = mul-le-mul_left (unsigned_abs p.k) size in
    let less : sizes (size_in_n p) (unsigned_abs p.k) (m ∷ drop power ms) ≤ sizes (size_in_n p) (unsigned_abs p.k) ms =
    subst (λ t. sizes (size_in_n p) (unsigned_abs p.k) t ≤ sizes (size_in_n p) (unsigned_abs p.k) ms) first
    (later_less (size_in_n p) (unsigned_abs p.k) ms (power - 1) (λ e. counted (zero_size p.k e)) (omega (arith, some, within))) in
    out (omega (arith, product, less, small))
  where
    zero_size : (z : ℤ) → unsigned_abs z ≡ 0 → z ≡ pos 0
    zero_size z e = omega (arith, ints, e)

-- the coefficients are the items of the polynomial
pub coefficients_are : (ms : List Meaning) (p : Meaning) → listed ms ≡ p → ms ≡ items p
coefficients_are ms p e = sym (parted-joined ms) ∙ ap items e
