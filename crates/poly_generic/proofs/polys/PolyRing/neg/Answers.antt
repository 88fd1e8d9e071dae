use Rattle.std.proofs.Common.{map, length, ap, arith, ◌≡◌, ◌∙◌, sym}
use Rattle.std.proofs.lemmas.List.{length-map}
use Rattle.ring_laws.specs.Meaning.{joined, parted, parted-joined}
use Rattle.poly_generic.proofs.PolyAnswers.{given_trimmed}
use Rattle.poly_generic.proofs.polys.PolyRing.neg.Goals as goal

pub returns : goal.returns
returns g c =
    let ms = map g.R.Ring.meaning c.args.self.now.list.items in
    let e : map g.R.Ring.meaning c.in_ok-list.list.items ≡ map g.R.Ring.algebra.ops.neg (map g.R.Ring.meaning c.args.self.now.list.items) =
    c.in_ok-list.ensures ∙ ap (λ t. map g.R.Ring.algebra.ops.neg (map g.R.Ring.meaning t)) c.deref.ensures.value in
    record {
      gives =
          given_trimmed g.R.Ring.algebra.ops _ (map g.R.Ring.meaning c.in_ok-list.list.items)
          (map g.R.Ring.algebra.ops.neg (parted (joined ms))) c.from_coefficients.result
          (omega (
            arith,
            ap length e,
            length-map ms g.R.Ring.algebra.ops.neg,
            length-map c.args.self.now.list.items g.R.Ring.meaning,
            c.args.self.now.short,
          ))
          (e ∙ ap (map g.R.Ring.algebra.ops.neg) (sym (parted-joined ms))) c.from_coefficients.ensures.gives;
    }
