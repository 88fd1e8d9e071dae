use Rattle.std.proofs.Common.{ap, sym, ◌∙◌}
use Rattle.std.specs.Int.{w128}
use Rattle.std.proofs.lemmas.Int.{to_z-of_z}
use Rattle.ring_laws.specs.declared.wholes.Whole.{Whole}
use Rattle.poly_laws.specs.Values.{horner}
use Rattle.whole_roots.specs.Signs.{sign_of}
use Rattle.whole_roots.proofs.Values.{value_is}
use Rattle.whole_roots.proofs.signs.sign_at.Goals as goal

-- the value of the polynomial is that of its list of numbers
pub returns-then-unsigned_abs-lt2 : goal.returns-then-unsigned_abs-lt2
returns-then-unsigned_abs-lt2 c = record {
  sign =
      c.sign_near.ensures.sign
      ∙ ap (λ z. sign_of (horner (λ (w : Whole). w.value) z c.coefficients.result.now)) (to_z-of_z w128 c.args.at c.ranges.at)
      ∙ ap sign_of (sym (value_is c.args.at _ c.coefficients.result.now c.coefficients.ensures.coefficients));
}

pub returns : goal.returns
returns c = record {
  sign =
      c.sign_far.ensures.sign
      ∙ ap (λ z. sign_of (horner (λ (w : Whole). w.value) z c.coefficients-2.result.now)) (to_z-of_z w128 c.args.at c.ranges.at)
      ∙ ap sign_of (sym (value_is c.args.at _ c.coefficients-2.result.now c.coefficients-2.ensures.coefficients));
}
