use Rattle.std.proofs.Common.{IsTrue, map, subst, sym}
use Rattle.ring_laws.specs.Meaning.{Meaning, listed}
use Rattle.ring_laws.specs.Algebra.{Passing}
use Rattle.poly_laws.specs.PolyAlgebra.{poly_algebra}
use Rattle.poly_laws.proofs.Belonging.{value_passes}
use Rattle.poly_generic.specs.declared.polys.Poly.{Poly}
use Rattle.key_laws.specs.DegreeBounds.{IsDegreeBound}
use Rattle.key_laws.proofs.FindingBounds.{bound_by_degrees, bound_by_both, one_lead}
use Rattle.key_system.proofs.BoundDegrees.{code_within}
use Rattle.key_system.proofs.BoundLeads.{lead_some}
use Rattle.key_system.proofs.bounds.degree_bound.Given.{Over}
use Rattle.key_system.proofs.bounds.degree_bound.Goals as goal

-- what a polynomial of the code means, and that this is one of the ring
abbrev mean : (g : Over) → Poly g.row.B.Denot g.B.Ring → Meaning
mean g v = listed (map g.B.Ring.meaning v.list.items)

pass : (g : Over) (v : Poly g.row.B.Denot g.B.Ring) → IsTrue ((poly_algebra g.B.Ring.algebra).passes (mean g v))
pass g v = value_passes g.B.Ring.algebra g.B.Ring.meaning g.met.B.Ring.passes v.list.items v.ended

pub returns-then-not-leads_agree-clause-bound : goal.returns-then-not-leads_agree-clause-bound
returns-then-not-leads_agree-clause-bound g c =
    record {
      degree = c.greatest_degree-degree.result;
      is_degree = c.greatest_degree-degree.ensures.greatest;
      bounds = bound_by_degrees g.B.Ring.algebra.ops (mean g c.args.q.now) (mean g c.args.b.now) (map (mean g) c.args.sides.now)
          c.greatest_degree-degree.result
          (λ h. cc (c.leads_agree.ensures.agree.1 h, c.if-not-leads_agree.true)) c.degree_difference.result c.degree_difference.ensures.difference;
    }

pub returns-then-not-leads_agree-clause-within : goal.returns-then-not-leads_agree-clause-within
returns-then-not-leads_agree-clause-within g c =
    code_within (mean g) g.B.Ring.algebra g.met.B.Ring.laws (pass g) g.met.B.Domain.domain_laws c.args.q.now c.args.b.now c.args.sides.now
    c.degree_difference.result (returns-then-not-leads_agree-clause-bound g c)

pub returns-clause-bound : goal.returns-clause-bound
returns-clause-bound g c =
    let A = g.B.Ring.algebra in
    let q : Passing (poly_algebra A) = (mean g c.args.q.now, pass g c.args.q.now) in
    let b : Passing (poly_algebra A) = (mean g c.args.b.now, pass g c.args.b.now) in
    let m = c.greatest_degree-degree.result in
    let same = c.leads_agree.ensures.agree.0 c.if-not-leads_agree.false in
    let some = lead_some A.ops q.0 b.0 m c.greatest_degree-degree.ensures.greatest same in
    subst (IsDegreeBound A.ops q.0 b.0 (map (mean g) c.args.sides.now)) (sym c.greater_of.ensures.greater) (record {
      degree = m;
      is_degree = c.greatest_degree-degree.ensures.greatest;
      bounds = bound_by_both A.ops q.0 b.0 (map (mean g) c.args.sides.now) m same
          (one_lead A g.met.B.Ring.laws g.met.B.Domain.domain_laws q b m some) c.degree_difference-by_degrees.result c.in_ok-by_leads.by_leads
          c.degree_difference-by_degrees.ensures.difference c.in_ok-by_leads.ensures.quotient;
    })

pub returns-clause-within : goal.returns-clause-within
returns-clause-within g c =
    code_within (mean g) g.B.Ring.algebra g.met.B.Ring.laws (pass g) g.met.B.Domain.domain_laws c.args.q.now c.args.b.now c.args.sides.now
    c.greater_of.result (returns-clause-bound g c)
