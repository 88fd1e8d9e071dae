use Rattle.std.proofs.Common.{◌≡◌, map, length, ap, sym, ◌∙◌, arith}
use Rattle.std.proofs.lemmas.List.{length-map, take_all}
use Rattle.ring_laws.specs.Meaning.{number, listed, items, parted-joined}
use Rattle.ring_laws.specs.declared.wholes.Whole.{Whole}
use Rattle.poly_generic.specs.declared.polys.Poly.{Poly}
use Rattle.poly_generic.proofs.PolyAnswers.{given_trimmed}
use Rattle.key_sides.proofs.form_polynomials.over_ring.Goals as goal

pub returns : goal.returns
returns g c =
    let in_n = λ (f : Poly _ _). listed (map (λ (w : Whole). number w.value) f.list.items) in
    let to = g.B.FormRing.forms.of_n in
    let list = c.coefficients-coefficients.result.now in
    let made : map g.B.Ring.meaning c.loop-coefficient.list.items ≡ map to (map in_n list) =
    c.loop-coefficient.invariant ∙ ap (λ xs. map to (map in_n xs)) (take_all c.loop-coefficient.coefficient-index list c.loop-coefficient-test.false) in
    record {
      gives = given_trimmed g.B.Ring.algebra.ops _ (map g.B.Ring.meaning c.loop-coefficient.list.items) (map to (items (listed (map in_n c.args.f.now.list.items))))
          c.from_coefficients.result
          (omega (arith, ap length made, length-map (map in_n list) to, length-map list in_n, c.coefficients-coefficients.ensures.short))
          (made ∙ ap (map to) (sym (parted-joined (map in_n list))) ∙ ap (λ m. map to (items m)) c.coefficients-coefficients.ensures.coefficients)
          c.from_coefficients.ensures.gives;
    }
