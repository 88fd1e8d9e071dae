use Rattle.poly_laws.specs.PolyAlgebra.{poly_algebra}
use Rattle.poly_laws.proofs.PolyDomain.{poly_domain}
use Rattle.poly_laws.proofs.PolyMagnitudes.{poly_laws}
use Rattle.pole_laws.proofs.Cancelling.{form_in_k}
use Rattle.key_sides.proofs.Lifts.{lift_in}
use Rattle.key_equation.proofs.OneCancelling.{one_left_over}
use Rattle.key_equation.proofs.laws.one_is_left.Goals as goal

pub returns : goal.returns
returns g c = record {
  only = λ chains y left other poles others h k.
      let a = g.B.Ring.algebra in
      let l = g.met.B.Ring.laws in
      one_left_over (poly_algebra a) (poly_laws a l) (poly_domain a l g.met.B.Domain.domain_laws)
      (λ f. lift_in a l g.B.FormRing.forms g.met.B.FormRing.form_laws (form_in_k f)) chains y left other poles others h k;
}
