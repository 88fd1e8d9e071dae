use Rattle.std.proofs.Common.{map, length, ap, arith, ◌≡◌, ◌∙◌}
use Rattle.std.proofs.lemmas.List.{length-map}
use Rattle.ring_laws.specs.Meaning.{listed}
use Rattle.poly_generic.proofs.PolyAnswers.{gives_same, given_trimmed}
use Rattle.poly_laws.proofs.Trimming.{trimmed_already}
use Rattle.poly_generic.proofs.polys.PolyRing.duplicate.Goals as goal

pub returns : goal.returns
returns g c =
    let ms = map g.R.Ring.meaning c.args.self.now.list.items in
    let e : map g.R.Ring.meaning c.in_ok-list.list.items ≡ map g.R.Ring.meaning c.args.self.now.list.items =
    c.in_ok-list.ensures ∙ ap (map g.R.Ring.meaning) c.deref.ensures.value in
    record {
      gives =
          gives_same _ _ _ c.from_coefficients.result (ap listed (trimmed_already g.R.Ring.algebra.ops ms c.args.self.now.ended))
          (given_trimmed g.R.Ring.algebra.ops _ (map g.R.Ring.meaning c.in_ok-list.list.items) ms c.from_coefficients.result
          (omega (
            arith,
            ap length e,
            length-map c.args.self.now.list.items g.R.Ring.meaning,
            c.args.self.now.short,
          )) e c.from_coefficients.ensures.gives);
    }
