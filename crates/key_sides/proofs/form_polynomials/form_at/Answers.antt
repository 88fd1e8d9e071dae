use Rattle.std.specs.Int.{w64}
use Rattle.std.proofs.Common.{◌≡◌, ◌≤◌, ◌^◌, ◌∷◌, [], ◌++◌, ℤ, pos, unsigned_abs, to_z, of_z, map, length, ap, sym, ◌∙◌, arith}
use Rattle.std.proofs.lemmas.Int.{to_z-of_z, fits_signed_from_abs}
use Rattle.poly_generic.proofs.PolyAnswers.{gives_same, given_trimmed}
use Rattle.term_pieces.specs.Products.{at_later_k}
use Rattle.lin_form.specs.Forms.{form_of}
use Rattle.key_sides.specs.Places.{shift_of}
use Rattle.key_sides.proofs.FormParts.{form_over}
use Rattle.key_sides.proofs.form_polynomials.form_at.Goals as goal

read_back : (z w : ℤ) → z ≡ w → unsigned_abs w ≤ 2 ^ 41 → to_z w64 (of_z w64 z) ≡ w
read_back z w e small = to_z-of_z w64 z (fits_signed_from_abs w64 z (omega (arith, ap unsigned_abs e, small))) ∙ e

pub returns : goal.returns
returns g c =
    let M = g.B.Ring.meaning in
    let a = g.B.Ring.algebra in
    let forms = g.B.FormRing.forms in
    let f = at_later_k (form_of c.args.form) (shift_of c.args.place) in
    let n_is = read_back c.n_slope.result f.n_slope c.n_slope.ensures.n_slope (omega (arith, c.args.form.small_n_slope)) in
    let offset_is = read_back c.offset_at-offset.result f.offset c.offset_at-offset.ensures.offset
    (omega (arith, ap unsigned_abs c.offset_at-offset.ensures.offset, c.offset_at-offset.ensures.small)) in
    let part : M c.in_ok-part.field-0 ≡ forms.part f.n_slope (pos 0) f.offset =
    c.in_ok-part.ensures.gives ∙ (λ i. forms.part (n_is i) (pos 0) (offset_is i)) in
    let slope : M c.in_ok-whole.field-0 ≡ a.ops.whole f.k_slope = c.in_ok-whole.ensures.gives ∙ ap a.ops.whole (c.from.ensures ∙ read_back c.k_slope.result f.k_slope c.k_slope.ensures.k_slope (omega (arith, c.args.form.small_k_slope))) in
    let made : map M c.push-2.new.self.items ≡ forms.part f.n_slope (pos 0) f.offset ∷ a.ops.whole f.k_slope ∷ [] =
    ap (map M) (c.in_ok-push-2.ensures.items ∙ ap (λ t. t ++ c.in_ok-whole.field-0 ∷ []) (c.in_ok-push.ensures.items
    ∙ ap (λ t. t ++ c.in_ok-part.field-0 ∷ []) c.new-coefficients.ensures.items)) ∙ (λ i. part i ∷ slope i ∷ []) in
    record {
      gives = gives_same _ _ _ c.from_coefficients.result (sym (form_over a g.met.B.Ring.laws forms g.met.B.FormRing.form_laws f))
          (given_trimmed a.ops _ (map M c.push-2.new.self.items) (forms.part f.n_slope (pos 0) f.offset ∷ a.ops.whole f.k_slope ∷ [])
          c.from_coefficients.result (omega (arith, ap length made)) made c.from_coefficients.ensures.gives);
    }
