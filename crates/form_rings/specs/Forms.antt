-- What a ring brings whose values are polynomials in n, or in n and x, over the whole numbers, all in terms of meanings, and its laws.
use Rattle.std.specs.Prelude.{◌≡◌, ℤ, pos, ◌+ℤ◌, ◌*ℤ◌, Bool, IsTrue, [], ◌∷◌}
use Rattle.ring_laws.specs.Meaning.{Meaning, number, listed}
use Rattle.ring_laws.specs.Algebra.{Algebra, Passing}
use Rattle.poly_laws.specs.Values.{level}

-- what such a ring brings: the parts of forms, the polynomials in n, values, their bounds and leads
pub record Forms : Type 1 where
  -- whether the variable x may occur
  pub holds_x : Bool
  -- n_slope*n + x_slope*x + offset
  pub part : (n_slope x_slope offset : ℤ) → Meaning
  -- what a polynomial in n is in the ring
  pub of_n : Meaning → Meaning
  -- the value at n and then at x
  pub value : (n x : ℤ) → Meaning → ℤ
  -- the value at n, and then that at x, is in bounds
  pub ValueInBounds : (n x : ℤ) → Meaning → Type 0
  -- the coefficient of the greatest power of n and then of x, and 0 for zero
  pub lead : Meaning → ℤ

-- a part may have this slope of x: any, where x may occur, and else 0
abbrev pub MayHaveSlope : Forms → ℤ → Type 0
MayHaveSlope forms x_slope = ¬ IsTrue forms.holds_x → x_slope ≡ pos 0

-- the variable n, as a polynomial in n
abbrev pub variable_n : Meaning
variable_n = listed (number (pos 0) ∷ number (pos 1) ∷ [])

-- what each such ring proves
pub record FormLaws (a : Algebra) (forms : Forms) : Type 0 where
  -- the value keeps the operations, and is w at the whole number w
  pub value_whole : (n x w : ℤ) → forms.value n x (a.ops.whole w) ≡ w
  pub value_sum : (n x : ℤ) (f g : Passing a) → forms.value n x (a.ops.sum f.0 g.0) ≡ forms.value n x f.0 +ℤ forms.value n x g.0
  pub value_product : (n x : ℤ) (f g : Passing a) → forms.value n x (a.ops.product f.0 g.0) ≡ forms.value n x f.0 *ℤ forms.value n x g.0
  -- parts belong to the ring, have the values that they say, and are added slope by slope; without variables a part is a whole number
  pub part_passes : (u w v : ℤ) → IsTrue (a.passes (forms.part u w v))
  pub part_value : (n x u w v : ℤ) → MayHaveSlope forms w → forms.value n x (forms.part u w v) ≡ u *ℤ n +ℤ w *ℤ x +ℤ v
  pub part_sum : (u w v : ℤ) (s t c : ℤ) → MayHaveSlope forms w → MayHaveSlope forms t
      → forms.part (u +ℤ s) (w +ℤ t) (v +ℤ c) ≡ a.ops.sum (forms.part u w v) (forms.part s t c)
  pub part_whole : (w : ℤ) → forms.part (pos 0) (pos 0) w ≡ a.ops.whole w
  -- polynomials in n belong to the ring, by a map that keeps the operations, the whole numbers and n
  pub of_n_passes : (f : Passing (level 1)) → IsTrue (a.passes (forms.of_n f.0))
  pub of_n_sum : (f g : Passing (level 1)) → forms.of_n ((level 1).ops.sum f.0 g.0) ≡ a.ops.sum (forms.of_n f.0) (forms.of_n g.0)
  pub of_n_product : (f g : Passing (level 1)) → forms.of_n ((level 1).ops.product f.0 g.0) ≡ a.ops.product (forms.of_n f.0) (forms.of_n g.0)
  pub of_n_whole : (w : ℤ) → forms.of_n ((level 1).ops.whole w) ≡ a.ops.whole w
  pub of_n_variable : forms.of_n variable_n ≡ forms.part (pos 1) (pos 0) (pos 0)
  -- the lead is w for the whole number w, that of a product is the product of the leads, and it is 0 for zero alone
  pub lead_whole : (w : ℤ) → forms.lead (a.ops.whole w) ≡ w
  pub lead_product : (f g : Passing a) → forms.lead (a.ops.product f.0 g.0) ≡ forms.lead f.0 *ℤ forms.lead g.0
  pub lead_zero : (f : Passing a) → forms.lead f.0 ≡ pos 0 → f.0 ≡ a.ops.nought
