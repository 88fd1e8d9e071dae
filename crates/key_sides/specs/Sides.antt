-- The sides of a key equation over a ring of forms: their degrees in k, which are tested before anything is multiplied, and when they are in
-- bounds.
use Rattle.std.specs.Prelude.{◌≡◌, ℕ, ◌+◌, ◌-◌, List, length, map, Ok, Err}
use Rattle.std.specs.List.{AllByRecursion}
use Rattle.ring_laws.specs.Meaning.{items}
use Rattle.ring_laws.specs.Algebra.{Algebra}
use Rattle.poly_laws.specs.PolyAlgebra.{poly_algebra}
use Rattle.steps.specs.declared.faults.StepFault.{StepFault}
use Rattle.steps.specs.declared.faults.StepFault.TheVariants.{Limit, TooLarge, Memory}
use Rattle.steps.specs.Steps.{limit}
use Rattle.form_rings.specs.Forms.{Forms}
use Rattle.hypergeometric.specs.LinearForm.{FactorList}
use Rattle.term_pieces.specs.Pieces.{Top, Pieces, top_at}
use Rattle.term_pieces.specs.NormalForm.{Normal}
use Rattle.gosper_form.specs.PieceSteps.{degree_in_k, each_within}
use Rattle.key_sides.specs.Powers.{counterpart_of, PowersInBounds}
use Rattle.key_sides.specs.ListPowers.{side_powers}

-- the degree in k of g p_j, for a polynomial that isn't 0
abbrev pub side_degree : FactorList → Top → ℕ
side_degree g top = degree_in_k g.factors + ((length (items top.poly) - 1) + degree_in_k top.factors.factors)

-- those of g p_0, .., g p_J
abbrev pub side_degrees : Normal → Pieces → List ℕ
side_degrees normal pieces = map (side_degree normal.g) pieces.tops

-- all degrees are within the limit
abbrev pub AreLowDegrees : List ℕ → Type 0
AreLowDegrees counts = (each_within counts).outcome ≡ Ok (tt {0})

-- What is said of a fault: the limit is passed by the first degree above it, or where none passes it, an operation isn't in bounds.
abbrev pub OnSideFault : List ℕ → Type 0 → StepFault → Type 0
OnSideFault counts InBounds (Limit name counted) = (each_within counts).outcome ≡ Err (limit name counted)
OnSideFault counts InBounds TooLarge = AreLowDegrees counts × ¬ InBounds
OnSideFault counts InBounds Memory = Unit {0}

-- each product g p_j is in bounds
abbrev pub SidesInBounds : Algebra → Forms → Normal → Pieces → Type 0
SidesInBounds a forms normal pieces = AllByRecursion (λ top. PowersInBounds (poly_algebra a) (side_powers a forms normal.g top)) pieces.tops

-- g (p_1 - p_0) as one operation is in bounds: |g| |p_1| + |g| |p_0| fits
abbrev pub PairInBounds : Algebra → Forms → Normal → Pieces → Type 0
PairInBounds a forms normal pieces =
    let o = (poly_algebra a).ops in
    o.Fits (o.sum (counterpart_of o (side_powers a forms normal.g (top_at pieces 1))) (counterpart_of o (side_powers a forms normal.g (top_at pieces 0))))
