use Rattle.std.proofs.Common.{◌≡◌, take}
use Rattle.reducing.proofs.row_contents.copied.Given as goal

-- the numbers that are behind the loop
abbrev pub invariant-loop-number : goal.invariant-loop-number
invariant-loop-number l = l.copy.items ≡ take l.number-index l.list
