-- The text of the powers of a monomial determines them.
use Rattle.std.specs.Prelude.{◌≡◌, ℕ, zero, suc, ◌^◌, ◌<◌, Bool, true, codes, List, [], ◌∷◌, ◌++◌, drop}
use Rattle.std.specs.Fmt.{decimal}
use Rattle.std.specs.Str.{byte}
use Rattle.std.proofs.Common.{refl, ap, sym, subst, ◌∙◌, append-nil}
use Rattle.std.proofs.lemmas.Bool.{and_parts, and_from}
use Rattle.document_text.specs.Spelling.{power_text, starred}
use Rattle.exact_texts.proofs.Cuts.{among, Stops, only_append, only_more, cut}
use Rattle.exact_texts.specs.Texts.{Only}
use Rattle.exact_texts.proofs.Numerals.{digit_bytes, only_decimal, decimal_determines}

-- a power is of bytes of each class that has its name, the caret and the digits
only_power : (class : ℕ → Bool) (name p : ℕ) → p < 2 ^ 127 → Only class (name ∷ codes "^0123456789") → Only class (power_text name p)
only_power class name zero h all = refl
only_power class name (suc zero) h all = and_from (class name) true (and_parts (class name) _ all).0 refl
only_power class name (suc (suc p)) h all =
    let parts = and_parts (class name) _ all in
    let more = and_parts (class (byte "^")) _ parts.1 in
    and_from (class name) _ parts.0
    (and_from (class (byte "^")) _ more.0 (only_more digit_bytes class (decimal (suc (suc p))) more.1 (only_decimal (suc (suc p)) h)))

-- the text of a power determines it
power_determines : (name p q : ℕ) → p < 2 ^ 127 → q < 2 ^ 127 → power_text name p ≡ power_text name q → p ≡ q
power_determines name zero zero h k e = refl
power_determines name zero (suc zero) h k e = cc
power_determines name zero (suc (suc q)) h k e = cc
power_determines name (suc zero) zero h k e = cc
power_determines name (suc zero) (suc zero) h k e = refl
power_determines name (suc zero) (suc (suc q)) h k e = cc
power_determines name (suc (suc p)) zero h k e = cc
power_determines name (suc (suc p)) (suc zero) h k e = cc
power_determines name (suc (suc p)) (suc (suc q)) h k e = decimal_determines (suc (suc p)) (suc (suc q)) h k (ap (drop 2) e)

-- the powers of n and k
abbrev pub powers_of : ℕ → ℕ → List ℕ
powers_of i j = starred (power_text (byte "n") i) (power_text (byte "k") j)

-- what follows the power of n
abbrev k_part : ℕ → ℕ → List ℕ
k_part zero j = power_text (byte "k") j
k_part (suc i) zero = []
k_part (suc i) (suc j) = byte "*" ∷ power_text (byte "k") (suc j)

-- the text of the powers is that of the power of n and what follows it
starred_parts : (i j : ℕ) → powers_of i j ≡ power_text (byte "n") i ++ k_part i j
starred_parts zero j = refl
starred_parts (suc zero) zero = refl
starred_parts (suc zero) (suc zero) = refl
starred_parts (suc zero) (suc (suc j)) = refl
starred_parts (suc (suc i)) zero = sym (append-nil (power_text (byte "n") (suc (suc i))))
starred_parts (suc (suc i)) (suc zero) = refl
starred_parts (suc (suc i)) (suc (suc j)) = refl

abbrev n_bytes : List ℕ
n_bytes = codes "n^0123456789"

-- the power of n ends where what follows it begins
k_part_stops : (i j : ℕ) → Stops (among n_bytes) (k_part i j)
k_part_stops zero zero = tt
k_part_stops zero (suc zero) = refl
k_part_stops zero (suc (suc j)) = refl
k_part_stops (suc i) zero = tt
k_part_stops (suc i) (suc j) = refl

-- behind one power of n the power of k is determined
k_part_determines : (i p q : ℕ) → p < 2 ^ 127 → q < 2 ^ 127 → k_part i p ≡ k_part i q → p ≡ q
k_part_determines zero p q h k e = power_determines (byte "k") p q h k e
k_part_determines (suc i) zero zero h k e = refl
k_part_determines (suc i) zero (suc q) h k e = cc
k_part_determines (suc i) (suc p) zero h k e = cc
k_part_determines (suc i) (suc p) (suc q) h k e = power_determines (byte "k") (suc p) (suc q) h k (ap (drop 1) e)

-- the text of the powers determines both
pub powers_determine : (i j p q : ℕ) → i < 2 ^ 127 → j < 2 ^ 127 → p < 2 ^ 127 → q < 2 ^ 127 → powers_of i j ≡ powers_of p q → (i ≡ p) × (j ≡ q)
powers_determine i j p q hi hj hp hq e =
    let parts = cut (among n_bytes) (power_text (byte "n") i) (power_text (byte "n") p) (k_part i j) (k_part p q)
    (only_power (among n_bytes) (byte "n") i hi refl) (only_power (among n_bytes) (byte "n") p hp refl) (k_part_stops i j) (k_part_stops p q)
    (sym (starred_parts i j) ∙ e ∙ starred_parts p q) in
    let first = power_determines (byte "n") i p hi hp parts.0 in
    (first, k_part_determines p j q hj hq (ap (λ t. k_part t j) (sym first) ∙ parts.1))

abbrev pub unsigned_bytes : List ℕ
unsigned_bytes = codes "0123456789*^nk"

-- the powers have digits, stars, carets and names only
only_k_part : (i j : ℕ) → j < 2 ^ 127 → Only (among unsigned_bytes) (k_part i j)
only_k_part zero j h = only_power (among unsigned_bytes) (byte "k") j h refl
only_k_part (suc i) zero h = refl
only_k_part (suc i) (suc j) h = only_power (among unsigned_bytes) (byte "k") (suc j) h refl

pub only_powers : (i j : ℕ) → i < 2 ^ 127 → j < 2 ^ 127 → Only (among unsigned_bytes) (powers_of i j)
only_powers i j hi hj = subst (Only (among unsigned_bytes)) (sym (starred_parts i j))
    (only_append (among unsigned_bytes) (power_text (byte "n") i) (k_part i j)
    (only_power (among unsigned_bytes) (byte "n") i hi refl) (only_k_part i j hj))

-- powers begin with no digit
pub powers_stop : (i j : ℕ) → Stops (among digit_bytes) (powers_of i j)
powers_stop zero zero = tt
powers_stop zero (suc zero) = refl
powers_stop zero (suc (suc j)) = refl
powers_stop (suc zero) zero = refl
powers_stop (suc zero) (suc zero) = refl
powers_stop (suc zero) (suc (suc j)) = refl
powers_stop (suc (suc i)) zero = refl
powers_stop (suc (suc i)) (suc zero) = refl
powers_stop (suc (suc i)) (suc (suc j)) = refl
