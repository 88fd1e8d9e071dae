use Rattle.std.proofs.Common.{map}
use Rattle.ring_laws.specs.Meaning.{listed}
use Rattle.poly_laws.specs.PolyAlgebra.{poly_algebra}
use Rattle.hypergeometric.specs.FactorLists.{factor_with}
use Rattle.term_pieces.specs.Products.{at_later_k}
use Rattle.lin_form.specs.ListOf.{list_of}
use Rattle.key_sides.specs.Places.{shift_of}
use Rattle.key_sides.specs.ListPowers.{factor_power, list_powers, list_at_later_k}
use Rattle.key_sides.proofs.Multiplied.{Multiplied}
use Rattle.key_sides.proofs.products.times_list.Given as goal

-- the product times the number and the forms so far, and what is left of the forms
abbrev pub invariant-loop-form : goal.invariant-loop-form
invariant-loop-form g l =
    Multiplied (poly_algebra g.B.Ring.algebra) (listed (map g.B.Ring.meaning l.fn.product.list.items))
    (list_powers g.B.Ring.algebra g.B.FormRing.forms (list_at_later_k (list_of l.list) (shift_of l.place)))
    (listed (map g.B.Ring.meaning l.product.list.items))
    (map (factor_power g.B.Ring.algebra g.B.FormRing.forms) (map (λ x. factor_with (at_later_k x.form (shift_of l.place)) x.power) l.form-iterator))
