use Rattle.std.proofs.Common.{◌≡◌, ◌≢◌, List, ℕ, [], length}
use Rattle.std.specs.List.{AllByRecursion}
use Rattle.exact_texts.specs.Texts.{Only, other_than}
use Rattle.exact_texts.proofs.Separated.{separated, IsSplit}
use Rattle.spelled.proofs.splitting.pieces.Given as goal

-- the pieces so far and those of the rest are those of the text
abbrev pub invariant-loop-found : goal.invariant-loop-found
invariant-loop-found l =
    (xs : List (List ℕ)) → xs ≢ [] → AllByRecursion (Only (other_than l.stop)) xs → l.text ≡ separated l.stop l.tail xs → IsSplit l.stop l.tail xs
    l.found.items l.rest

abbrev pub decreases-loop-found : goal.decreases-loop-found
decreases-loop-found l = length l.rest
