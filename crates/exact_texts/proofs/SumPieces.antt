-- The pieces that are written of a sum are its text.
use Rattle.std.specs.Prelude.{◌≡◌, ℕ, zero, suc, ℤ, pos, negsuc, Bool, true, false, not, nat_eq, ◌||◌, ◌&&◌, if◌then◌else◌, unsigned_abs, List, [], ◌∷◌, ◌++◌}
use Rattle.std.specs.List.{flat_map}
use Rattle.std.specs.Fmt.{decimal}
use Rattle.std.specs.Str.{byte}
use Rattle.std.proofs.Common.{refl, ap, sym, ◌∙◌, append_assoc, append-nil, cond}
use Rattle.std.proofs.Math.Dec.{eqb-suc-zero}
use Rattle.exact_texts.specs.Texts.{joined}
use Rattle.exact_texts.specs.Sums.{Monomial, power_factor, power_factors, with_magnitude, body_text, sign_of, signed_text, without_plus, sum_text}
use Rattle.exact_texts.specs.SumWriting.{starred, shows_magnitude, placed_text}

joined_starred : (fs : List (List ℕ)) → joined (42 ∷ []) fs ≡ starred false fs
joined_starred [] = refl
joined_starred (x ∷ []) = sym (append-nil x)
joined_starred (x ∷ y ∷ fs) = ap (λ t. x ++ 42 ∷ t) (joined_starred (y ∷ fs))

abbrev some : List (List ℕ) → Bool
some [] = false
some (f ∷ fs) = true

starred_more : (xs ys : List (List ℕ)) → starred true (xs ++ ys) ≡ starred true xs ++ starred true ys
starred_more [] ys = refl
starred_more (x ∷ xs) ys = ap (λ t. 42 ∷ t) (ap (λ t. x ++ t) (starred_more xs ys) ∙ sym (append_assoc x (starred true xs) (starred true ys)))

starred_append : (b : Bool) (xs ys : List (List ℕ)) → starred b (xs ++ ys) ≡ starred b xs ++ starred (b || some xs) ys
starred_append true xs ys = starred_more xs ys
starred_append false [] ys = refl
starred_append false (x ∷ xs) ys = ap (λ t. x ++ t) (starred_more xs ys) ∙ sym (append_assoc x (starred true xs) (starred true ys))

abbrev is_zero : ℕ → Bool
is_zero zero = true
is_zero (suc p) = false

zero_test : (p : ℕ) → is_zero p ≡ nat_eq p 0
zero_test zero = refl
zero_test (suc p) = sym (eqb-suc-zero p)

power_there : (name p : ℕ) → some (power_factor name p) ≡ not (is_zero p)
power_there name zero = refl
power_there name (suc zero) = refl
power_there name (suc (suc p)) = refl

some_power : (name p : ℕ) → some (power_factor name p) ≡ not (nat_eq p 0)
some_power name p = power_there name p ∙ ap not (zero_test p)

powers_there : (n k x : ℕ) → some (power_factor (byte "n") n ++ (power_factor (byte "k") k ++ power_factor (byte "x") x))
    ≡ not (is_zero n && (is_zero k && is_zero x))
powers_there zero zero zero = refl
powers_there zero zero (suc zero) = refl
powers_there zero zero (suc (suc x)) = refl
powers_there zero (suc zero) x = refl
powers_there zero (suc (suc k)) x = refl
powers_there (suc zero) k x = refl
powers_there (suc (suc n)) k x = refl

none_of : (n k x : ℕ) → some (power_factor (byte "n") n ++ (power_factor (byte "k") k ++ power_factor (byte "x") x))
    ≡ not (nat_eq n 0 && (nat_eq k 0 && nat_eq x 0))
none_of n k x = powers_there n k x ∙ (λ i. not (zero_test n i && (zero_test k i && zero_test x i)))

-- the magnitude, where it is shown, and the factors
magnitude_written : (c : ℕ) (fs : List (List ℕ)) (empty : Bool) → some fs ≡ not empty
    → joined (42 ∷ []) (with_magnitude c fs) ≡ (if not (nat_eq c 1) || empty then decimal c else []) ++ starred (not (nat_eq c 1) || empty) fs
magnitude_written c [] true e = go (nat_eq c 1)
  where
    go : (b : Bool) → decimal c ≡ (if not b || true then decimal c else []) ++ starred (not b || true) []
    go true = sym (append-nil (decimal c))
    go false = sym (append-nil (decimal c))
magnitude_written c [] false e = absurd cc
magnitude_written c (f ∷ fs) true e = absurd cc
magnitude_written c (f ∷ fs) false e = go (nat_eq c 1)
  where
    go : (b : Bool) → joined (42 ∷ []) (cond b (f ∷ fs) (decimal c ∷ f ∷ fs)) ≡ (if not b || false then decimal c else [])
        ++ starred (not b || false) (f ∷ fs)
    go true = joined_starred (f ∷ fs)
    go false = joined_starred (decimal c ∷ f ∷ fs)

abbrev pub body_pieces : Bool → Monomial → List ℕ
body_pieces shown m = (if shown then decimal (unsigned_abs m.coefficient) else []) ++ (starred shown (power_factor (byte "n") m.n_power)
    ++ (starred (shown || not (nat_eq m.n_power 0)) (power_factor (byte "k") m.k_power)
    ++ starred ((shown || not (nat_eq m.n_power 0)) || not (nat_eq m.k_power 0)) (power_factor (byte "x") m.x_power)))

pub body_written : (m : Monomial) → body_pieces (shows_magnitude m) m ≡ body_text m
body_written m =
    let n = power_factor (byte "n") m.n_power in
    let k = power_factor (byte "k") m.k_power in
    let x = power_factor (byte "x") m.x_power in
    let s = shows_magnitude m in
    sym (magnitude_written (unsigned_abs m.coefficient) (power_factors m) (nat_eq m.n_power 0 && (nat_eq m.k_power 0 && nat_eq m.x_power 0))
    (none_of m.n_power m.k_power m.x_power)
    ∙ ap (λ t. (if s then decimal (unsigned_abs m.coefficient) else []) ++ t)
    (starred_append s n (k ++ x)
    ∙ ap (λ b. starred s n ++ starred (s || b) (k ++ x)) (some_power (byte "n") m.n_power)
    ∙ ap (λ t. starred s n ++ t) (starred_append (s || not (nat_eq m.n_power 0)) k x
    ∙ ap (λ b. starred (s || not (nat_eq m.n_power 0)) k ++ starred ((s || not (nat_eq m.n_power 0)) || b) x) (some_power (byte "k") m.k_power))))

-- the first monomial, and those behind it
pub first_placed : (m : Monomial) (ms : List Monomial) → placed_text true m ++ flat_map signed_text ms ≡ sum_text (m ∷ ms)
first_placed m ms = go m.coefficient
  where
    go : (z : ℤ) → without_plus (sign_of z ∷ body_text m) ++ flat_map signed_text ms
        ≡ without_plus (sign_of z ∷ (body_text m ++ flat_map signed_text ms))
    go (pos c) = refl
    go (negsuc c) = refl
