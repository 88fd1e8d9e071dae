use Rattle.std.proofs.Common.{◌≡◌, ◌+◌}
use Rattle.hypergeometric.specs.LinearForm.{LinearForm}
use Rattle.hypergeometric.specs.FactorLists.{power_of}
use Rattle.term_pieces.specs.NormalForm.{forms_before, power_within}
use Rattle.lin_form.specs.Forms.{form_of}
use Rattle.lin_form.specs.ListOf.{list_of}
use Rattle.gosper_form.proofs.normal_lists.with_chain.Given as goal

-- the product so far, and the forms of the chain so far
abbrev pub invariant-loop-step : goal.invariant-loop-step
invariant-loop-step l = record {
  scale : (list_of l.product).scale ≡ (list_of l.fn.product).scale;
  powers : (f : LinearForm) → power_of f (list_of l.product).factors
      ≡ power_of f (list_of l.fn.product).factors + power_within f (forms_before (form_of l.entry.form) l.step l.entry.power);
}
