-- Rows of polynomials in n, reduced by their content and by the linear factors of an entry; and a polynomial, split.
use Rattle.std.specs.Prelude.{◌≡◌, ℕ, ◌<◌, ◌≤◌, ◌-◌, ℤ, pos, ◌<ℤ◌, unsigned_abs, ◌⊎◌, List, [], ◌∷◌, map, length, IsFalse, ⊤}
use Rattle.ring_laws.specs.Meaning.{Meaning, items}
use Rattle.ring_laws.specs.Algebra.{Passing, ProductInBounds}
use Rattle.ring_laws.specs.Wholes.{number_of, whole_algebra}
use Rattle.poly_laws.specs.Lists.{coefficient_at}
use Rattle.poly_laws.specs.LongDivision.{DivisionInBounds}
use Rattle.poly_divide.specs.Content.{row_sizes, IsContent}
use Rattle.poly_divide.specs.Forms.{linear}
use Rattle.whole_roots.specs.Differences.{polynomials}
use Rattle.whole_roots.specs.LinearFactors.{Entry, AreLinearFactors}
use Rattle.whole_roots.specs.FactorBounds.{FactorsInBounds}
use Rattle.kernel_laws.specs.Rows.{entry_at}
use Rattle.kernel_laws.specs.Reduction.{Reduction, bare}
use Rattle.reducing.specs.TakenOut.{times_row, AllTakenOut, AllTakingOutInBounds}

-- a row of polynomials of any size
abbrev pub Row : Type 0
Row = List (Passing polynomials)

-- the entries of a row as meanings
abbrev pub meant : Row → List Meaning
meant row = bare polynomials row

-- the degree, and 0 for zero
abbrev pub degree : Meaning → ℕ
degree f = length (items f) - 1

-- an entry that isn't zero
abbrev pub IsNonzeroAt : List Meaning → ℕ → Type 0
IsNonzeroAt row k = IsFalse (polynomials.ops.is_nought (entry_at polynomials.ops row k))

-- the degree of entry k
abbrev pub degree_at : List Meaning → ℕ → ℕ
degree_at row k = degree (entry_at polynomials.ops row k)

-- of the first n entries that aren't zero, the one of least degree, and of these the first
pub record IsLeastOf (row : List Meaning) (n place : ℕ) : Type 0 where
  pub within : place < n
  pub nonzero : IsNonzeroAt row place
  pub least : (k : ℕ) → k < n → IsNonzeroAt row k → degree_at row place ≤ degree_at row k
  pub first : (k : ℕ) → k < place → IsNonzeroAt row k → degree_at row place < degree_at row k

-- the first of all entries of least degree that aren't zero
abbrev pub IsLeast : List Meaning → ℕ → Type 0
IsLeast row place = IsLeastOf row (length row) place

-- the quotients of a row that isn't all zero by its whole content, the greatest common divisor of all its coefficients
pub record WithoutContent (old quotients : Row) : Type 0 where
  pub content : ℕ
  pub is_content : IsContent (row_sizes (meant old)) content
  pub not_zero : ¬ (content ≡ 0)
  pub times : meant old ≡ times_row polynomials (polynomials.ops.whole (pos content)) quotients

-- the linear factors of the first entry of least degree
pub record FactorsOfLeast (row : Row) (entries : List Entry) : Type 0 where
  pub place : ℕ
  pub least : IsLeast (meant row) place
  pub factors : AreLinearFactors (entry_at polynomials.ops (meant row) place) entries

-- the forms in their order
abbrev pub forms : List Entry → List Meaning
forms factors = map (λ x. linear (pos x.0.0) x.0.1) factors

-- a row of zeros stays; from every other first its content is taken out, and then each linear factor as often as it divides every entry
pub data Reduced : Row → Row → Type 0 where
  stays : {row : Row} → IsContent (row_sizes (meant row)) 0 → Reduced row row
  divides : {old new : Row} (quotients : Row) (factors : List Entry) → WithoutContent old quotients → FactorsOfLeast quotients factors
      → AllTakenOut polynomials (forms factors) quotients new → Reduced old new

-- a relation of rows, for the lists of their meanings
pub record OfRows (R : Row → Row → Type 0) (old new : List Meaning) : Type 0 where
  pub row : Row
  pub row_is : old ≡ meant row
  pub result : Row
  pub result_is : new ≡ meant result
  pub holds : R row result

-- two lists of meanings are a row of polynomials and that row reduced
abbrev pub PolynomialsReduced : List Meaning → List Meaning → Type 0
PolynomialsReduced old new = OfRows Reduced old new

-- the steps of a long division
abbrev pub DivisionOfPolynomials : Meaning → Meaning → Type 0
DivisionOfPolynomials = DivisionInBounds whole_algebra (λ x y. ⊤)

-- finding the linear factors is in bounds, and so are the divisions of the row by them; those by the content always are
pub record PolynomialsInBounds (old : List Meaning) : Type 0 where
  pub factoring : (row quotients : Row) (place : ℕ) → old ≡ meant row → WithoutContent row quotients → IsLeast (meant quotients) place
      → FactorsInBounds (entry_at polynomials.ops (meant quotients) place)
  pub divisions : (row quotients : Row) (factors : List Entry) → old ≡ meant row → WithoutContent row quotients → FactorsOfLeast quotients factors
      → AllTakingOutInBounds DivisionOfPolynomials polynomials (forms factors) quotients

-- the coefficient of the greatest power
abbrev pub lead_number : Meaning → ℤ
lead_number f = number_of (coefficient_at whole_algebra.ops (items f) (degree f))

-- what is left of a polynomial without its content and all its linear factors, with the sign that makes its lead positive
pub record IsCore (x core : Meaning) : Type 0 where
  pub value : Passing polynomials
  pub value_is : x ≡ value.0
  pub rest : Passing polynomials
  pub reduced : Reduced (value ∷ []) (rest ∷ [])
  pub core_is : (core ≡ rest.0) ⊎ (core ≡ polynomials.ops.neg rest.0)
  pub positive : pos 0 <ℤ lead_number core

-- the plain part, of the content, the linear factors and the sign, times the core is the polynomial
pub record PolynomialSplit (x plain core : Meaning) : Type 0 where
  pub is_core : IsCore x core
  pub plain_part : Passing polynomials
  pub plain_is : plain ≡ plain_part.0
  pub product : polynomials.ops.product plain core ≡ x

-- what finds the core of x is in bounds
abbrev pub CoreInBounds : Meaning → Type 0
CoreInBounds x = PolynomialsInBounds (x ∷ [])

-- x is its whole content, which isn't 0, times a part
pub record IsTimesContent (x : Meaning) (content : ℤ) (part : Meaning) : Type 0 where
  pub value : Passing polynomials
  pub value_is : x ≡ value.0
  pub rest : Passing polynomials
  pub rest_is : part ≡ rest.0
  pub is_content : IsContent (row_sizes (x ∷ [])) (unsigned_abs content)
  pub positive : pos 0 <ℤ content
  pub times : x ≡ polynomials.ops.product part (polynomials.ops.whole content)

-- what finds the core is in bounds; then the division of x over its content by the core, and the product of the quotient with the content,
-- which is the plain part
pub record SplittingInBounds (x : Meaning) : Type 0 where
  pub core : CoreInBounds x
  pub division : (content : ℤ) (part core : Meaning) → IsTimesContent x content part → IsCore x core → DivisionOfPolynomials part core
  pub product : (content : ℤ) (part core quotient : Meaning) → IsTimesContent x content part → IsCore x core
      → polynomials.ops.product quotient core ≡ part → ProductInBounds polynomials quotient (polynomials.ops.whole content)

-- how rows of polynomials are reduced: the entry of less degree is the better pivot
abbrev pub polynomial_reduction : Reduction
polynomial_reduction = record {
  weight = degree;
  Reduced = PolynomialsReduced;
  Split = PolynomialSplit;
  ReductionInBounds = PolynomialsInBounds;
  SplitInBounds = SplittingInBounds;
  CoreInBounds = CoreInBounds;
}
