use Rattle.std.proofs.Common.{subst, sym}
use Rattle.tree_polynomials.proofs.LeastPlaces.{IsLeastOf, more_places}
use Rattle.tree_polynomials.proofs.names_of_k.+walk.Goals as goal

-- one more part
pub least_of_parts-loop-part-preserved : goal.least_of_parts-loop-part-preserved
least_of_parts-loop-part-preserved t c =
    subst (IsLeastOf c.lesser-least.result)
    (sym (more_places c.args.parts.now c.loop-part.part-index c.part-item.result c.loop-part-test.true c.part-item.is))
    (c.lesser-least.ensures.least _ _ c.loop-part.invariant c.free_of_k.ensures.least)
