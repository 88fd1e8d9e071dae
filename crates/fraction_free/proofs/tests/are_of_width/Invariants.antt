use Rattle.std.proofs.Common.{◌≡◌, ◌<◌, length, ℕ, get_or}
use Rattle.fraction_free.proofs.tests.are_of_width.Given as goal

-- each row behind the loop has the width
abbrev pub invariant-loop-at : goal.invariant-loop-at
invariant-loop-at g l = (k : ℕ) (d : _) → k < l.at → length (get_or l.rows k d).items ≡ l.width
