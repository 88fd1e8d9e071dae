use Rattle.key_sides.proofs.ListLifts.{distinct}
use Rattle.key_sides.proofs.products.times.Goals as goal

pub times_power-requires : goal.times_power-requires
times_power-requires g c = record {
  distinct = distinct g.B.Ring.algebra g.met.B.Ring.laws g.B.FormRing.forms g.met.B.FormRing.form_laws;
}
