use Rattle.std.proofs.Common.{◌≤◌, map, drop, length}
use Rattle.ring_laws.specs.Meaning.{number, listed}
use Rattle.poly_divide.specs.Content.{row_sizes, IsContent}
use Rattle.poly_divide.proofs.content.whole_content.Given as goal

-- the content of the polynomials from the place on
abbrev pub invariant-loop-at : goal.invariant-loop-at
invariant-loop-at l = record {
  within : l.at ≤ length l.row;
  made : IsContent (row_sizes (map (λ f. listed (map (λ w. number w.value) f.list.items)) (drop l.at l.row))) l.content;
}

abbrev pub decreases-loop-at : goal.decreases-loop-at
decreases-loop-at l = l.at
