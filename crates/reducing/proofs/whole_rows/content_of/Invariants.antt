use Rattle.std.proofs.Common.{◌≤◌, ◌≤ℤ◌, pos, unsigned_abs, map, drop, length}
use Rattle.poly_divide.specs.Content.{IsContent}
use Rattle.reducing.proofs.whole_rows.content_of.Given as goal

-- the content of the numbers from the place on
abbrev pub invariant-loop-at : goal.invariant-loop-at
invariant-loop-at l = record {
  within : l.at ≤ length l.row;
  made : IsContent (drop l.at (map (λ number. unsigned_abs number.value) l.row)) (unsigned_abs l.content.value);
  sign : pos 0 ≤ℤ l.content.value;
}

abbrev pub decreases-loop-at : goal.decreases-loop-at
decreases-loop-at l = l.at
