-- What a reduction leaves of a row of polynomials, said without the order of its steps.
use Rattle.std.specs.Prelude.{◌≡◌, ℕ, ℤ, pos, List, [], ◌∷◌}
use Rattle.std.specs.List.{AllByRecursion}
use Rattle.ring_laws.specs.Meaning.{Meaning}
use Rattle.poly_divide.specs.Content.{row_sizes, IsContent}
use Rattle.poly_divide.specs.Forms.{linear}
use Rattle.whole_roots.specs.Differences.{polynomials}
use Rattle.whole_roots.specs.LinearFactors.{IsProfileForm}
use Rattle.reducing.specs.TakenOut.{times_row}
use Rattle.reducing.specs.PolynomialRows.{Row, meant}
use Rattle.reducing.specs.CommonForms.{HasNoCommonForm}

-- the product of forms u*n + v, each given by u and v
abbrev pub product_of_forms : List (ℕ × ℤ) → Meaning
product_of_forms [] = polynomials.ops.unit
product_of_forms (x ∷ xs) = polynomials.ops.product (product_of_forms xs) (linear (pos x.0) x.1)

-- the old row is a number above 0 times forms of the profile times the new row, which has the content 1, and which no form of the profile divides
pub record IsWhatIsLeft (old new : List Meaning) : Type 0 where
  pub row : Row
  pub row_is : new ≡ meant row
  pub number : ℕ
  pub not_zero : ¬ (number ≡ 0)
  pub forms : List (ℕ × ℤ)
  pub profile : AllByRecursion (λ (x : ℕ × ℤ). IsProfileForm x.0 x.1) forms
  pub is : old ≡ times_row polynomials (polynomials.ops.product (product_of_forms forms) (polynomials.ops.whole (pos number))) row
  pub primitive : IsContent (row_sizes new) 1
  pub no_form : HasNoCommonForm new
