use Rattle.std.proofs.Common.{◌-◌, length, ap, ◌∙◌}
use Rattle.ring_laws.specs.Meaning.{items}
use Rattle.steps.specs.Limits.{capped}
use Rattle.gosper_form.specs.PieceSteps.{degree_in_k}
use Rattle.key_sides.proofs.CappedDegrees.{degrees_added, small_capped}
use Rattle.key_sides.proofs.degrees.degree_of_side.Goals as goal

pub returns : goal.returns
returns c = record {
  degree = degrees_added _ _ c.degree_of-2.result c.saturating_add-degree.result c.saturating_add.result c.degree_of-2.ensures.degree
      (degrees_added _ _ c.degree_of_poly.result c.degree_of.result c.saturating_add-degree.result
      (small_capped c.degree_of_poly.result _ (c.degree_of_poly.ensures.degree ∙ ap (λ m. length (items m) - 1) c.poly.ensures.poly)
      c.degree_of_poly.ensures.small)
      (c.degree_of.ensures.degree ∙ ap (λ l. capped (degree_in_k l.factors)) c.factors.ensures.factors) c.saturating_add-degree.ensures)
      c.saturating_add.ensures;
}
