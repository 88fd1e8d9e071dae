use Rattle.std.proofs.Common.{◌+◌, ap, ◌∙◌, arith}
use Rattle.lin_form.specs.ListOf.{list_of}
use Rattle.steps.specs.Limits.{capped}
use Rattle.gosper_form.specs.PieceSteps.{degree_in_k}
use Rattle.key_sides.proofs.CappedDegrees.{degree_more, degree_all, none_yet}
use Rattle.key_sides.proofs.degrees.degree_of.Goals as goal

pub loop-form-init : goal.loop-form-init
loop-form-init c = record {
  counted = ap (λ xs. capped (0 + degree_in_k xs)) (c.into_iter-form-iterator.ensures.into_iter_gives ∙ c.iter-form-items.ensures.items)
      ∙ none_yet (degree_in_k (list_of c.args.list.now).factors);
  fits = omega arith;
}

pub loop-form-preserved : goal.loop-form-preserved
loop-form-preserved c = record {
  counted = degree_more _ _ _ c.loop-form.degree c.power_in_k.result _ _ c.in-Some.ensures.steps c.power_in_k.ensures.power
      c.saturating_add-degree.ensures c.loop-form.invariant.counted;
  fits = c.saturating_add-degree.type_inv;
}

pub returns : goal.returns
returns c = record {
  degree = degree_all _ c.loop-form.degree _ c.in-None.ensures.steps.0 c.loop-form.invariant.fits c.loop-form.invariant.counted;
}
