-- Cancelling common factors changes no quotient of factorials.
use Rattle.std.proofs.Common.{◌≡◌, ℕ, zero, suc, ◌+◌, ◌-◌, ◌*◌, ◌^◌, ◌<◌, ◌≤◌, max, refl, ap, sym, ◌∙◌, subst, arith, add-one, List, [], ◌∷◌, ◌++◌, ⊎_elim}
use Rattle.std.specs.Prelude.{replicate}
use Rattle.std.proofs.Math.Nat.{pow-zero, pow-succ', one-le-pow}
use Rattle.std.proofs.lemmas.Nat.{pow-add, mul-pow}
use Rattle.std.proofs.lemmas.Bool.{cases_lt}
use Rattle.std.proofs.lemmas.Bool.Decides.{nat_tests}
use Rattle.hypergeometric.specs.LinearForm.{factorial}
use Rattle.proper_term.specs.Cancelled.{Argument, counted, at_least, greatest, rising, left_over}

abbrev pub list_product : List ℕ → ℕ
list_product [] = 1
list_product (x ∷ xs) = x * list_product xs

-- the numbers i, i + 1, .., so many of them, each to its count
abbrev pub powers_from : (ℕ → ℕ) → ℕ → ℕ → ℕ
powers_from counts i zero = 1
powers_from counts i (suc more) = i ^ counts i * powers_from counts (i + 1) more

-- the product of the factorials, with their powers
abbrev pub factorials : List Argument → ℕ
factorials [] = 1
factorials (x ∷ xs) = factorial x.number ^ x.power * factorials xs

four : (a b c d : ℕ) → (a * b) * (c * d) ≡ (a * c) * (b * d)
four a b c d = omega arith

powers_sum : (a b : ℕ → ℕ) (i m : ℕ) → powers_from (λ j. a j + b j) i m ≡ powers_from a i m * powers_from b i m
powers_sum a b i zero = refl
powers_sum a b i (suc m) =
    ap (λ t. t * powers_from (λ j. a j + b j) (i + 1) m) (pow-add i (a i) (b i))
    ∙ ap (λ t. (i ^ a i * i ^ b i) * t) (powers_sum a b (i + 1) m)
    ∙ four (i ^ a i) (i ^ b i) (powers_from a (i + 1) m) (powers_from b (i + 1) m)

powers_same : (a b : ℕ → ℕ) (i m : ℕ) → ((j : ℕ) → a j ≡ b j) → powers_from a i m ≡ powers_from b i m
powers_same a b i zero h = refl
powers_same a b i (suc m) h = ap (λ t. i ^ t * powers_from a (i + 1) m) (h i) ∙ ap (λ t. i ^ b i * t) (powers_same a b (i + 1) m h)

powers_none : (a : ℕ → ℕ) (i m : ℕ) → ((j : ℕ) → i ≤ j → a j ≡ 0) → powers_from a i m ≡ 1
powers_none a i zero h = refl
powers_none a i (suc m) h =
    ap (λ t. i ^ t * powers_from a (i + 1) m) (h i (omega arith))
    ∙ ap (λ t. t * powers_from a (i + 1) m) (pow-zero i)
    ∙ ap (λ t. 1 * t) (powers_none a (i + 1) m (λ j le. h j (omega arith)))

pub powers_positive : (a : ℕ → ℕ) (i m : ℕ) → 0 < i → 0 < powers_from a i m
powers_positive a i zero h = omega arith
powers_positive a i (suc m) h = both (i ^ a i) (powers_from a (i + 1) m) (one-le-pow (a i) i h) (powers_positive a (i + 1) m (omega arith))
  where
    both : (x y : ℕ) → 1 ≤ x → 0 < y → 0 < x * y
    both x y p q = grind arith

pub counted_below : (number p j : ℕ) → j ≤ number → counted number p j ≡ p
counted_below number p j h = grind (arith, nat_tests)

pub counted_above : (number p j : ℕ) → number < j → counted number p j ≡ 0
counted_above number p j h = grind (arith, nat_tests)

next_power : (j p r f : ℕ) → (suc j ^ p * r) * f ^ p ≡ r * (suc j * f) ^ p
next_power j p r f = regroup (suc j ^ p) r (f ^ p) ∙ ap (λ t. r * t) (sym (mul-pow (suc j) f p))
  where
    regroup : (a b c : ℕ) → (a * b) * c ≡ b * (a * c)
    regroup a b c = omega arith

one_times : (a b : ℕ) → a ≡ 1 → a * b ≡ b
one_times a b e = grind (arith, e)

-- past the number, nothing is left
past_number : (number p j m : ℕ) → j ≤ number → number ≤ j
    → powers_from (counted number p) (j + 1) m * factorial j ^ p ≡ factorial number ^ p
past_number number p j m h k =
    let e : j ≡ number = omega arith in
    one_times (powers_from (counted number p) (j + 1) m) (factorial j ^ p)
    (powers_none (counted number p) (j + 1) m (λ i le. counted_above number p i (omega arith)))
    ∙ ap (λ t. factorial t ^ p) e

one_further : (number p j m : ℕ) → j < number
    → powers_from (counted number p) (suc j + 1) m * factorial (suc j) ^ p ≡ factorial number ^ p
    → powers_from (counted number p) (j + 1) (suc m) * factorial j ^ p ≡ factorial number ^ p
one_further number p j m below rest =
    ap (λ t. ((j + 1) ^ t * powers_from (counted number p) (j + 1 + 1) m) * factorial j ^ p) (counted_below number p (j + 1) (omega arith))
    ∙ ap (λ t. (t ^ p * powers_from (counted number p) (t + 1) m) * factorial j ^ p) (add-one j)
    ∙ next_power j p (powers_from (counted number p) (suc j + 1) m) (factorial j)
    ∙ rest

-- j! times the numbers from j + 1 on
powers_factorial : (number p j m : ℕ) → j ≤ number → number ≤ j + m
    → powers_from (counted number p) (j + 1) m * factorial j ^ p ≡ factorial number ^ p
powers_factorial number p j zero h k = past_number number p j zero h (omega arith)
powers_factorial number p j (suc m) h k =
    ⊎_elim (λ below. one_further number p j m below (powers_factorial number p (suc j) m (omega arith) (omega arith)))
    (past_number number p j (suc m) h) (cases_lt j number)

one_power : (p : ℕ) → 1 ^ p ≡ 1
one_power zero = pow-zero 1
one_power (suc p) = pow-succ' 1 p ∙ ap (λ t. 1 * t) (one_power p)

-- a factorial by the numbers from 2 on
powers_of_one : (number p m : ℕ) → number ≤ m → powers_from (counted number p) 2 m ≡ factorial number ^ p
powers_of_one zero p m h = powers_none (counted zero p) 2 m (λ j le. counted_above zero p j (omega arith)) ∙ sym (one_power p)
powers_of_one (suc number) p m h =
    once (powers_from (counted (suc number) p) 2 m)
    ∙ ap (λ t. powers_from (counted (suc number) p) 2 m * t) (sym (one_power p))
    ∙ powers_factorial (suc number) p 1 m (omega arith) (omega arith)
  where
    once : (a : ℕ) → a ≡ a * 1
    once a = omega arith

pub powers_at_least : (xs : List Argument) (m : ℕ) → greatest xs ≤ m → powers_from (at_least xs) 2 m ≡ factorials xs
powers_at_least [] m h = powers_none (at_least []) 2 m (λ j le. refl)
powers_at_least (x ∷ xs) m h =
    powers_sum (counted x.number x.power) (at_least xs) 2 m
    ∙ ap (λ t. t * powers_from (at_least xs) 2 m) (powers_of_one x.number x.power m (omega arith))
    ∙ ap (λ t. factorial x.number ^ x.power * t) (powers_at_least xs m (omega arith))

product_joined : (xs ys : List ℕ) → list_product (xs ++ ys) ≡ list_product xs * list_product ys
product_joined [] ys = once (list_product ys)
  where
    once : (a : ℕ) → a ≡ 1 * a
    once a = omega arith
product_joined (x ∷ xs) ys = ap (λ t. x * t) (product_joined xs ys) ∙ regroup x (list_product xs) (list_product ys)
  where
    regroup : (a b c : ℕ) → a * (b * c) ≡ (a * b) * c
    regroup a b c = omega arith

product_copies : (count i : ℕ) → list_product (replicate count i) ≡ i ^ count
product_copies zero i = sym (pow-zero i)
product_copies (suc count) i = ap (λ t. i * t) (product_copies count i) ∙ sym (pow-succ' i count)

pub product_rising : (a : ℕ → ℕ) (i m : ℕ) → list_product (rising a i m) ≡ powers_from a i m
product_rising a i zero = refl
product_rising a i (suc m) =
    product_joined (replicate (a i) i) (rising a (i + 1) m)
    ∙ ap (λ t. t * list_product (rising a (i + 1) m)) (product_copies (a i) i)
    ∙ ap (λ t. i ^ a i * t) (product_rising a (i + 1) m)

pub left_over_positive : (us ds : List Argument) → 0 < list_product (left_over us ds)
left_over_positive us ds =
    subst (λ t. 0 < t) (sym (product_rising (λ i. at_least us i - at_least ds i) 2 (max (greatest us) (greatest ds))))
    (powers_positive (λ i. at_least us i - at_least ds i) 2 (max (greatest us) (greatest ds)) (omega arith))

-- what is cancelled above is cancelled below
pub cancelled : (us ds : List Argument) → factorials us * list_product (left_over ds us) ≡ factorials ds * list_product (left_over us ds)
cancelled us ds =
    sym (side us ds m (omega arith) (max (greatest ds) (greatest us)) (omega arith))
    ∙ powers_same (λ j. at_least us j + (at_least ds j - at_least us j)) (λ j. at_least ds j + (at_least us j - at_least ds j)) 2 m (λ j. omega arith)
    ∙ side ds us m (omega arith) (max (greatest us) (greatest ds)) (omega arith)
  where
    m : ℕ
    m = max (greatest us) (greatest ds)

    side : (xs ys : List Argument) (m : ℕ) → greatest xs ≤ m → (more : ℕ) → m ≡ more
        → powers_from (λ j. at_least xs j + (at_least ys j - at_least xs j)) 2 m
        ≡ factorials xs * list_product (rising (λ i. at_least ys i - at_least xs i) 2 more)
    side xs ys m h more e =
        powers_sum (at_least xs) (λ j. at_least ys j - at_least xs j) 2 m
        ∙ ap (λ t. t * powers_from (λ j. at_least ys j - at_least xs j) 2 m) (powers_at_least xs m h)
        ∙ ap (λ t. factorials xs * t)
        (ap (powers_from (λ j. at_least ys j - at_least xs j) 2) e ∙ sym (product_rising (λ j. at_least ys j - at_least xs j) 2 more))
