use Rattle.std.proofs.Common.{map}
use Rattle.ring_laws.specs.Meaning.{listed}
use Rattle.poly_generic.specs.declared.polys.Poly.{Poly}
use Rattle.lin_form.specs.ListOf.{list_of}
use Rattle.key_sides.proofs.ListTimes.{here_answer}
use Rattle.key_sides.proofs.lists.to_poly.Goals as goal

pub returns : goal.returns
returns g c =
    let mean = λ (f : Poly g.row.B.Denot g.B.Ring). listed (map g.B.Ring.meaning f.list.items) in
    let given = here_answer g.B.Ring.algebra g.met.B.Ring.laws g.B.FormRing.forms g.met.B.FormRing.form_laws mean c.times_list.result (mean c.in_ok-one.one)
    c.in_ok-one.ensures.gives (list_of c.args.list.now) c.times_list.ensures.gives in
    record { polynomial = given.0; too_large = given.1 }
