use Rattle.std.proofs.Common.{◌≡◌, [], MatchOption, take}
use Rattle.term_classes.specs.NamesOfK.{parts_k_places, IsLeast}
use Rattle.term_text.specs.View.{parts_of}
use Rattle.tree_polynomials.proofs.names_of_k.+walk.Given as goal

-- the least place in the parts that were passed
abbrev pub invariant-least_of_parts-loop-part : goal.invariant-least_of_parts-loop-part
invariant-least_of_parts-loop-part l =
    MatchOption l.least (parts_k_places (parts_of (take l.part-index l.parts)) ≡ []) (λ at. IsLeast at (parts_k_places (parts_of
    (take l.part-index l.parts))))
