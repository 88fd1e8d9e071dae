use Rattle.std.proofs.Common.{◌≡◌, ◌+◌, drop, pos, []}
use Rattle.hypergeometric.specs.TermFacts.{total_power}
use Rattle.lin_form.specs.ListOf.{list_of}
use Rattle.term_pieces.specs.Pieces.{gathered_forms}
use Rattle.gosper_form.specs.RaisedForms.{factors_of}
use Rattle.gosper_form.proofs.form_products.gathered.Given as goal

-- the list so far, with the forms that are left, is the whole list
abbrev pub invariant-loop-raised : goal.invariant-loop-raised
invariant-loop-raised l = record {
  forms : gathered_forms (list_of l.list).factors (factors_of (drop l.raised-index l.forms)) ≡ gathered_forms [] (factors_of l.forms);
  few : total_power (list_of l.list).factors + total_power (factors_of (drop l.raised-index l.forms)) ≡ total_power (factors_of l.forms);
  unit : (list_of l.list).scale ≡ pos 1;
}
