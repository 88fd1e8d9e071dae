use Rattle.std.proofs.Common.{map, ◌∙◌, sym, subst}
use Rattle.std.specs.Prelude.{pos, ◌≤ℤ◌, unsigned_abs}
use Rattle.std.specs.Result.{OkIff}
use Rattle.std.proofs.lemmas.Int.{to_z-of_z, fits_signed_from_abs}
use mir.Syntax.{w128}
use Rattle.ring_laws.specs.Meaning.{Meaning, listed}
use Rattle.ring_laws.specs.Algebra.{Passing}
use Rattle.poly_laws.specs.PolyAlgebra.{poly_algebra}
use Rattle.poly_laws.proofs.Belonging.{value_passes}
use Rattle.poly_generic.specs.declared.polys.Poly.{Poly}
use Rattle.key_system.proofs.BoundLeads.{lead_some, quotient_is, IsNatural, natural_of}
use Rattle.key_system.proofs.leads.lead_quotient.Goals as goal

pub returns-in-Some-clause-quotient : goal.returns-in-Some-clause-quotient
returns-in-Some-clause-quotient g c =
    let A = g.B.Ring.algebra in
    let mean : Poly g.row.B.Denot g.B.Ring → Meaning = λ v. listed (map g.B.Ring.meaning v.list.items) in
    let pass = λ (v : Poly g.row.B.Denot g.B.Ring). value_passes A g.B.Ring.meaning g.met.B.Ring.passes v.list.items v.ended in
    let q : Passing (poly_algebra A) = (mean c.args.q.now, pass c.args.q.now) in
    let b : Passing (poly_algebra A) = (mean c.args.b.now, pass c.args.b.now) in
    quotient_is A g.met.B.Ring.laws g.met.B.Domain.domain_laws q b c.args.degree c.in-Some.found.value c.ok.result
    (lead_some A.ops q.0 b.0 c.args.degree c.requires.greatest c.requires.agree)
    (cc (
      c.in-Some.ensures.quotient,
      c.in_ok-lead.ensures.gives,
      c.in_ok-difference.ensures.gives.1,
      c.in_ok-of_b.ensures.gives,
      c.in_ok-of_q.ensures.gives,
    ))
    (subst (IsNatural c.in-Some.found.value) (sym c.ok.ensures.value)
    (natural_of c.in-Some.found.value c.try_from.result
    (subst (λ z. OkIff c.try_from.result (pos 0 ≤ℤ z) (unsigned_abs z))
    (to_z-of_z w128 c.value.result (fits_signed_from_abs w128 c.value.result c.value.ensures.small) ∙ c.value.ensures.value) c.try_from.ensures)))
