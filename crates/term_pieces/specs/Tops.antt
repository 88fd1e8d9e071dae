-- The polynomials p_0, .., p_J of the pieces of a term.
use Rattle.ring_laws.specs.Meaning.{Meaning}
use Rattle.poly_laws.specs.Values.{level}
use Rattle.hypergeometric.specs.Products.{list_polynomial}
use Rattle.term_pieces.specs.Pieces.{Top}

-- p_j as a polynomial in k over those in n: the product of its polynomial and of its forms
abbrev pub top_polynomial : Top → Meaning
top_polynomial top = (level 2).ops.product top.poly (list_polynomial top.factors)
