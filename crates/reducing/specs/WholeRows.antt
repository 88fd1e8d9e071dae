-- Rows of whole numbers: reduced by their greatest common divisor.
use Rattle.std.specs.Prelude.{◌≡◌, ℕ, ℤ, pos, ◌*ℤ◌, unsigned_abs, List, map, ⊤}
use Rattle.ring_laws.specs.Meaning.{Meaning, number}
use Rattle.poly_divide.specs.Content.{IsContent}
use Rattle.kernel_laws.specs.Reduction.{Reduction}

-- the old row is its content, the greatest common divisor of its numbers, times the new row; a row of zeros stays
pub record WholeReduced (old new : List Meaning) : Type 0 where
  pub numbers : List ℤ
  pub numbers_are : old ≡ map number numbers
  pub content : ℕ
  pub is_content : IsContent (map unsigned_abs numbers) content
  pub quotients : List ℤ
  pub quotients_are : new ≡ map number quotients
  pub times : numbers ≡ map (λ q. pos content *ℤ q) quotients
  pub zeros_stay : content ≡ 0 → quotients ≡ numbers

-- whole numbers whose greatest common divisor is 1
pub record ArePrimitive (row : List Meaning) : Type 0 where
  pub numbers : List ℤ
  pub numbers_are : row ≡ map number numbers
  pub is_content : IsContent (map unsigned_abs numbers) 1

-- a number is its own plain part, and its core is 1
pub record WholeSplit (x plain core : Meaning) : Type 0 where
  pub value : ℤ
  pub value_is : x ≡ number value
  pub plain_is : plain ≡ number value
  pub core_is : core ≡ number (pos 1)

-- how rows of whole numbers are reduced: of two numbers neither is the better pivot, and each step is in bounds
abbrev pub whole_reduction : Reduction
whole_reduction = record {
  weight = λ x. 0;
  Reduced = WholeReduced;
  Split = WholeSplit;
  ReductionInBounds = λ row. ⊤;
  SplitInBounds = λ x. ⊤;
  CoreInBounds = λ x. ⊤;
}
