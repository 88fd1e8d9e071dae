use Rattle.std.proofs.Common.{◌≡◌, ◌≤◌, ◌-◌, [], ◌∷◌, map, length, arith, suc}
use Rattle.ring_laws.specs.Meaning.{Meaning, items, listed}
use Rattle.poly_laws.proofs.Belonging.{value_passes}
use Rattle.poly_generic.specs.declared.polys.Poly.{Poly}
use Rattle.key_system.proofs.BoundDegrees.{longest_of, as_long, degree_of, some_items}
use Rattle.key_system.proofs.bounds.greatest_degree.Goals as goal

pub returns-clause-greatest : goal.returns-clause-greatest
returns-clause-greatest g c =
    let mean : Poly g.row.B.Denot g.B.Ring → Meaning = λ v. listed (map g.B.Ring.meaning v.list.items) in
    let pass = λ (v : Poly g.row.B.Denot g.B.Ring). value_passes g.B.Ring.algebra g.B.Ring.meaning g.met.B.Ring.passes v.list.items v.ended in
    let q : length c.coefficients.result.now ≡ length (items (mean c.args.q.now)) =
    as_long g.B.Ring.meaning c.coefficients.result.now (mean c.args.q.now) c.coefficients.ensures.coefficients in
    let b : length c.coefficients-2.result.now ≡ length (items (mean c.args.b.now)) =
    as_long g.B.Ring.meaning c.coefficients-2.result.now (mean c.args.b.now) c.coefficients-2.ensures.coefficients in
    let some : 1 ≤ length (items (mean c.args.q.now)) = some_items (items (mean c.args.q.now)) c.requires.not_zero in
    let long : longest_of mean (c.args.q.now ∷ c.args.b.now ∷ []) ≡ suc (c.max.result - 1) = omega (arith, q, b, some, c.max.ensures) in
    degree_of mean g.B.Ring.algebra g.met.B.Ring.laws pass (c.args.q.now ∷ c.args.b.now ∷ []) (c.max.result - 1) long
