-- What the antidifference of a polynomial in k is, for lists of coefficients from the power 0 up.
use Rattle.std.specs.Prelude.{◌≡◌, ℕ, ◌<◌, length, All, ℤ, pos, ◌+ℤ◌, ◌-ℤ◌, ◌*ℤ◌, ◌<ℤ◌, unsigned_abs, List, [], ◌∷◌, slice_index_or}
use Rattle.std.specs.Int.{◌∣◌}
use Rattle.poly_laws.specs.Values.{horner}

-- the value of a list of coefficients
abbrev pub value_of : List ℤ → ℤ → ℤ
value_of cs k = horner (λ z. z) k cs

-- the sum of the products of two lists' numbers
abbrev pub dot_product : List ℤ → List ℤ → ℤ
dot_product [] xs = pos 0
dot_product (w ∷ ws) [] = pos 0
dot_product (w ∷ ws) (x ∷ xs) = w *ℤ x +ℤ dot_product ws xs

-- multiplier times the polynomial cs is the difference of the polynomial ys, for all k
abbrev pub IsDifference : ℤ → List ℤ → List ℤ → Type 0
IsDifference multiplier cs ys = (k : ℤ) → multiplier *ℤ value_of cs k ≡ value_of ys (k +ℤ pos 1) -ℤ value_of ys k

-- d divides each number
abbrev pub DividesAll : ℕ → List ℤ → Type 0
DividesAll d zs = All (λ z. d ∣ unsigned_abs z) zs

-- each number is its quotient times the divisor
pub record AreQuotients (divisor : ℤ) (numbers quotients : List ℤ) : Type 0 where
  pub as_many : length quotients ≡ length numbers
  pub each : (i : ℕ) → i < length numbers → slice_index_or quotients i (pos 0) *ℤ divisor ≡ slice_index_or numbers i (pos 0)

-- The multiplier is positive, no number but 1 divides it and all coefficients of ys, and ys has no constant: so cs alone fixes both.
pub record IsLeastAntidifference (cs : List ℤ) (multiplier : ℤ) (ys : List ℤ) : Type 0 where
  pub difference : IsDifference multiplier cs ys
  pub positive : pos 0 <ℤ multiplier
  pub primitive : (d : ℕ) → d ∣ unsigned_abs multiplier → DividesAll d ys → d ≡ 1
  pub no_constant : slice_index_or ys 0 (pos 0) ≡ pos 0
