use Rattle.std.proofs.Common.{rules, map, IsTrue}
use Rattle.ring_laws.specs.Meaning.{Meaning, listed}
use Rattle.poly_laws.specs.PolyAlgebra.{poly_algebra}
use Rattle.poly_laws.proofs.Belonging.{value_passes}
use Rattle.poly_generic.specs.declared.polys.Poly.{Poly}
use Rattle.key_laws.specs.DegreeBounds.{coefficient_count}
use Rattle.key_system.proofs.RowKeys.{sizes_of_code, code_solves, code_all}
use Rattle.key_system.proofs.rows.key_rows.Given.{Over}
use Rattle.key_system.proofs.rows.key_rows.Goals as goal

-- what a polynomial of the code means, and that this is one of the ring
abbrev mean : (g : Over) → Poly g.row.B.Denot g.B.Ring → Meaning
mean g v = listed (map g.B.Ring.meaning v.list.items)

pass : (g : Over) (v : Poly g.row.B.Denot g.B.Ring) → IsTrue ((poly_algebra g.B.Ring.algebra).passes (mean g v))
pass g v = value_passes g.B.Ring.algebra g.B.Ring.meaning g.met.B.Ring.passes v.list.items v.ended

pub returns-clause-rows : goal.returns-clause-rows
returns-clause-rows g c = search rules

pub returns-clause-sizes : goal.returns-clause-sizes
returns-clause-sizes g c =
    sizes_of_code g.B.Ring.meaning g.B.Ring.algebra.ops (mean g) c.args.q.now c.args.b.now (coefficient_count c.args.bound) c.args.sides.now
    c.stepped-2.result (returns-clause-rows g c)

pub returns-clause-solves : goal.returns-clause-solves
returns-clause-solves g c =
    code_solves g.B.Ring.algebra g.met.B.Ring.laws (mean g) (pass g) c.args.q.now c.args.b.now (coefficient_count c.args.bound) c.args.sides.now
    g.B.Ring.meaning c.stepped-2.result (returns-clause-rows g c)

pub returns-clause-all : goal.returns-clause-all
returns-clause-all g c =
    code_all g.B.Ring.algebra g.met.B.Ring.laws (mean g) (pass g) c.args.q.now c.args.b.now (coefficient_count c.args.bound) c.args.sides.now
    g.B.Ring.meaning c.stepped-2.result (returns-clause-rows g c)
