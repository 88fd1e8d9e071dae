-- The products p_0, .., p_J of a term.
use Rattle.std.specs.Prelude.{◌≡◌, ℕ, suc, ◌≤◌, List, length}
use Rattle.hypergeometric.specs.ProperTerm.{ProperTerm}
use Rattle.term_pieces.specs.Products.{IsProductOf}
use Rattle.term_pieces.specs.Pieces.{Top, top_in, poly_at_later_n, top_number, top_forms}

-- p_j
pub record IsTopOf (top : Top) (f : ProperTerm) (order j : ℕ) : Type 0 where
  pub poly : top.poly ≡ poly_at_later_n f.poly j
  pub factors : IsProductOf top.factors (top_number f order j) (top_forms f order j)

-- one for each j up to the order, and each is that of its j
pub record AreTopsOf (tops : List Top) (f : ProperTerm) (order : ℕ) : Type 0 where
  pub count : length tops ≡ suc order
  pub each : (j : ℕ) → j ≤ order → IsTopOf (top_in tops j) f order j
