use Rattle.std.proofs.Common.{map, sym, subst}
use Rattle.std.specs.Prelude.{⊤}
use Rattle.poly_generic.specs.ListAnswer.{GivesList}
use Rattle.key_system.proofs.SolvSigns.{kept, turned, none_negative}
use Rattle.key_system.proofs.vectors.with_sign.Goals as goal

pub returns-in-Negative-clause-signed : goal.returns-in-Negative-clause-signed
returns-in-Negative-clause-signed g c =
    let A = g.B.Ring.algebra in
    turned A g.met.B.Ring.laws g.B.FormRing.forms g.met.B.FormRing.form_laws g.B.Ring.meaning g.met.B.Ring.passes c.args.vector.items c.args.column
    c.index.result.now c.requires.within c.index.ensures c.negatives.result (sym c.in-Negative.ensures.sign)
    (subst (λ v. GivesList g.B.Ring.meaning ⊤ (map A.ops.neg (map g.B.Ring.meaning v)) c.negatives.result) c.deref.ensures.value
    c.negatives.ensures)

pub returns-in-Zero : goal.returns-in-Zero
returns-in-Zero g c = record {
  signed = kept g.B.Ring.algebra g.met.B.Ring.laws g.B.FormRing.forms g.met.B.FormRing.form_laws g.B.Ring.meaning g.met.B.Ring.passes
      c.args.vector.items c.args.column c.index.result.now c.requires.within c.index.ensures c.requires.not_zero
      (none_negative c.lead_sign.result (g.B.FormRing.forms.lead (g.B.Ring.meaning c.index.result.now)) c.lead_sign.ensures.sign c.in-Zero.is);
  memory = tt;
}
