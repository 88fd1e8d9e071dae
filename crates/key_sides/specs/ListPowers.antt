-- What is multiplied for a list of forms, over a ring of forms, and for a side of a key equation.
use Rattle.std.specs.Prelude.{ℤ, negsuc, List, ◌∷◌, ◌++◌, map}
use Rattle.ring_laws.specs.Meaning.{Meaning}
use Rattle.ring_laws.specs.Algebra.{Algebra}
use Rattle.poly_laws.specs.PolyAlgebra.{poly_algebra}
use Rattle.form_rings.specs.Forms.{Forms}
use Rattle.hypergeometric.specs.LinearForm.{Factor, FactorList}
use Rattle.hypergeometric.specs.FactorLists.{factor_with}
use Rattle.hypergeometric.specs.Products.{form_polynomial}
use Rattle.term_pieces.specs.Products.{at_later_k}
use Rattle.term_pieces.specs.Pieces.{Top}
use Rattle.key_sides.specs.Lifted.{lifted}
use Rattle.key_sides.specs.Powers.{Power}

-- a value once
abbrev pub once : Meaning → Power
once f = record { base = f; power = 1 }

-- a form as a polynomial over the ring, as often as its power says
abbrev pub factor_power : Algebra → Forms → Factor → Power
factor_power a forms x = record { base = lifted a forms (form_polynomial x.form); power = x.power }

-- the number and the forms of a list
abbrev pub list_powers : Algebra → Forms → FactorList → List Power
list_powers a forms l = once ((poly_algebra a).ops.whole l.scale) ∷ map (factor_power a forms) l.factors

-- the list at k + j
abbrev pub list_at_later_k : FactorList → ℤ → FactorList
list_at_later_k l j = record { scale = l.scale; factors = map (λ x. factor_with (at_later_k x.form j) x.power) l.factors }

-- the list at k - 1
abbrev pub list_before : FactorList → FactorList
list_before l = list_at_later_k l (negsuc 0)

-- g, the polynomial of p_j and the forms of p_j: all that a side is the product of
abbrev pub side_powers : Algebra → Forms → FactorList → Top → List Power
side_powers a forms g top = list_powers a forms g ++ (once (lifted a forms top.poly) ∷ list_powers a forms top.factors)
