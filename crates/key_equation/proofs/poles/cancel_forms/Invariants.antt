use Rattle.std.proofs.Common.{◌≡◌, map}
use Rattle.ring_laws.specs.Meaning.{listed}
use Rattle.poly_laws.specs.PolyAlgebra.{poly_algebra}
use Rattle.lin_form.specs.ListOf.{list_of}
use Rattle.key_equation.specs.Polynomials.{form_over}
use Rattle.key_equation.proofs.Cancels.{Reached}
use Rattle.key_equation.proofs.poles.cancel_forms.Given as goal

-- the forms so far were divided out, and the list has the number
abbrev pub invariant-loop-form : goal.invariant-loop-form
invariant-loop-form g l = record {
  scale : (list_of l.left).scale ≡ (list_of l.poles).scale;
  reached : Reached (poly_algebra g.B.Ring.algebra) (form_over g.B.Ring.algebra g.B.FormRing.forms) (list_of l.poles).factors
      (listed (map g.B.Ring.meaning l.fn.y.list.items)) l.form-iterator (listed (map g.B.Ring.meaning l.rest.list.items)) (list_of l.left).factors;
}
