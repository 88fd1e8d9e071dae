-- The values of rows of polynomials at one value of the variable.
use Rattle.std.specs.Prelude.{List, map}
use Rattle.ring_laws.specs.Meaning.{Meaning, items}
use Rattle.ring_laws.specs.Algebra.{Ops}
use Rattle.poly_laws.specs.Evaluation.{list_value}

-- the rows with each polynomial replaced by its value
abbrev pub rows_at : Ops Meaning → Meaning → List (List Meaning) → List (List Meaning)
rows_at o v rows = map (λ row. map (λ f. list_value o v (items f)) row) rows
