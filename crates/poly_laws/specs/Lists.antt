-- Lists of coefficients, from power 0 up.
use Rattle.std.specs.Prelude.{◌≡◌, ℕ, Bool, true, cond, not, List, [], ◌∷◌, map, get_or}
use Rattle.ring_laws.specs.Algebra.{Ops}

-- the coefficient at a power
abbrev pub coefficient_at : {A : Type 0} → Ops A → List A → ℕ → A
coefficient_at o xs k = get_or xs k o.nought

-- the sums of the coefficients
abbrev pub list_sum : {A : Type 0} → Ops A → List A → List A → List A
list_sum o [] ys = ys
list_sum o (x ∷ xs) [] = x ∷ xs
list_sum o (x ∷ xs) (y ∷ ys) = o.sum x y ∷ list_sum o xs ys

-- (x + t*f) * g = x*g + t*(f*g), for the variable t
abbrev pub list_product : {A : Type 0} → Ops A → List A → List A → List A
list_product o [] ys = []
list_product o (x ∷ xs) ys = list_sum o (map (o.product x) ys) (o.nought ∷ list_product o xs ys)

-- one more coefficient, at the power 0, in front of the others; in front of none a nought is left out
abbrev pub in_front : {A : Type 0} → Ops A → A → List A → List A
in_front o x [] = cond (o.is_nought x) [] (x ∷ [])
in_front o x (y ∷ ys) = x ∷ y ∷ ys

-- without the zeros at the end
abbrev pub trimmed : {A : Type 0} → Ops A → List A → List A
trimmed o [] = []
trimmed o (x ∷ xs) = in_front o x (trimmed o xs)

-- the last coefficient isn't zero
abbrev pub is_trimmed : {A : Type 0} → Ops A → List A → Bool
is_trimmed o [] = true
is_trimmed o (x ∷ []) = not (o.is_nought x)
is_trimmed o (x ∷ y ∷ ys) = is_trimmed o (y ∷ ys)

-- equal coefficients at every power
abbrev pub SameCoefficients : {A : Type 0} → Ops A → List A → List A → Type 0
SameCoefficients o xs ys = (k : ℕ) → coefficient_at o xs k ≡ coefficient_at o ys k
