-- The key equation of an order of a term, and of a pair: its polynomials p_j and its sides, and when it is insoluble.
use Rattle.std.specs.Prelude.{ℕ, suc, List, [], ◌∷◌, map}
use Rattle.ring_laws.specs.Meaning.{Meaning}
use Rattle.poly_laws.specs.Values.{level}
use Rattle.key_laws.specs.KeyEquation.{Insoluble}
use Rattle.key_laws.specs.KeyRows.{listing}
use Rattle.hypergeometric.specs.Products.{list_polynomial}
use Rattle.term_pieces.specs.Pieces.{Pieces, top_at}
use Rattle.term_pieces.specs.Tops.{top_polynomial}
use Rattle.term_pieces.specs.NormalForm.{Normal}

-- p_0, .., p_J
abbrev pub tops_of : Pieces → ℕ → List Meaning
tops_of pieces order = listing (suc order) (λ j. top_polynomial (top_at pieces j))

-- the one polynomial of a pair, p_1 - p_0
abbrev pub pair_top : Pieces → List Meaning
pair_top pieces = (level 2).ops.sum (top_polynomial (top_at pieces 1)) ((level 2).ops.neg (top_polynomial (top_at pieces 0))) ∷ []

-- the sides of the key equation of a normal form: g times each of the polynomials
abbrev pub sides_of : Normal → List Meaning → List Meaning
sides_of normal tops = map ((level 2).ops.product (list_polynomial normal.g)) tops

-- no polynomial Y of any degree solves the key equation of the order with multipliers that aren't all zero
abbrev pub IsInsolubleOrder : Pieces → Normal → ℕ → Type 0
IsInsolubleOrder pieces normal order =
    Insoluble (level 1) (list_polynomial normal.q) (list_polynomial normal.r) (sides_of normal (tops_of pieces order))

-- the same for the one side of a pair
abbrev pub IsInsolublePair : Pieces → Normal → Type 0
IsInsolublePair pieces normal =
    Insoluble (level 1) (list_polynomial normal.q) (list_polynomial normal.r)
    (sides_of normal (pair_top pieces))
