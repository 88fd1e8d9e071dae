-- What the calls on rows of polynomials answer.
use Rattle.std.specs.Prelude.{◌⊎◌, pos, ◌<ℤ◌, [], ◌∷◌, ◌≡◌, ℕ, ◌+◌, ◌<◌, List, Result, Ok, Err, Option, Some, None, IsTrue}
use Rattle.ring_laws.specs.Meaning.{Meaning}
use Rattle.ring_laws.specs.Answer.{OnFault}
use Rattle.ring_laws.specs.declared.faults.RingFault.{RingFault}
use Rattle.whole_roots.specs.Differences.{polynomials}
use Rattle.whole_roots.specs.LinearFactors.{Entry}
use Rattle.kernel_laws.specs.Rows.{entry_at}
use Rattle.reducing.specs.TakenOut.{raised_to, times_row, TakingOutInBounds, AllTakingOutInBounds}
use Rattle.reducing.specs.PolynomialRows.{Row, meant, IsLeastOf, forms, DivisionOfPolynomials, PolynomialsInBounds, IsCore, lead_number}

-- the least of the first n entries, or none where each of them is zero
abbrev pub LeastOf : List Meaning → ℕ → Option ℕ → Type 0
LeastOf row n (Some place) = IsLeastOf row n place
LeastOf row n None = (k : ℕ) → k < n → IsTrue (polynomials.ops.is_nought (entry_at polynomials.ops row k))

-- no greater power of t divides every entry of the row
abbrev pub IsMost : Meaning → ℕ → List Meaning → Type 0
IsMost t power row = (rest : Row) → ¬ (row ≡ times_row polynomials (raised_to polynomials.ops t (power + 1)) rest)

-- the divisions of the row, and of what is left of it, by t, or by the forms in their order, are in bounds
abbrev pub FactorInBounds : Meaning → List Meaning → Type 0
FactorInBounds t old = (row : Row) → old ≡ meant row → TakingOutInBounds DivisionOfPolynomials polynomials t row

-- taking all the linear factors out of the row, one after another, is in bounds
abbrev pub FactorsOfRowInBounds : List Entry → List Meaning → Type 0
FactorsOfRowInBounds entries old = (row : Row) → old ≡ meant row → AllTakingOutInBounds DivisionOfPolynomials polynomials (forms entries) row

-- the core of x; `TooLarge` only where a step of reducing it is not in bounds
abbrev pub GivesCore : {T : Type 0} → (T → Meaning) → Meaning → Result T RingFault → Type 0
GivesCore meaning x (Ok core) = IsCore x (meaning core)
GivesCore meaning x (Err fault) = OnFault (¬ (PolynomialsInBounds (x ∷ []))) fault

-- f or its negative, whose lead is positive where f isn't zero
pub record HasPositiveLead (f result : Meaning) : Type 0 where
  pub is : (result ≡ f) ⊎ (result ≡ polynomials.ops.neg f)
  pub positive : ¬ (f ≡ polynomials.ops.nought) → pos 0 <ℤ lead_number result
