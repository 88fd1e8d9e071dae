use Rattle.std.proofs.Common.{◌≡◌, ◌++◌, drop, pos}
use Rattle.lin_form.specs.ListOf.{list_of}
use Rattle.term_pieces.specs.Pieces.{carrier_up}
use Rattle.gosper_form.proofs.carriers.factorials_above.Given as goal

-- the forms so far, and those of the rest of the list
abbrev pub invariant-loop-index : goal.invariant-loop-index
invariant-loop-index l = record {
  leads : carrier_up l.order (list_of l.list).factors ≡ (list_of l.above).factors ++ carrier_up l.order (drop l.index (list_of l.list).factors);
  unit : (list_of l.above).scale ≡ pos 1;
}
