use Rattle.std.proofs.Common.{◌≡◌, ◌≤◌, drop}
use Rattle.lin_form.specs.ListOf.{list_of}
use Rattle.gosper_form.specs.NormalCandidates.{AreTaken}
use Rattle.gosper_form.specs.NormalShifts.{shifts_counted}
use Rattle.gosper_form.specs.NormalView.{matches_of}
use Rattle.gosper_form.proofs.NormalMatches.{whole_of}
use Rattle.gosper_form.proofs.NormalWalk.{Walked}
use Rattle.gosper_form.proofs.normal_matches.take_matches.Given as goal

-- the matches are the first of all, the lists are what they take, and the limit isn't passed yet
abbrev pub invariant-loop-candidate : goal.invariant-loop-candidate
invariant-loop-candidate l = record {
  walked : Walked (whole_of (list_of l.q0) (list_of l.r0)).matches (drop l.candidate-index l.candidates) (matches_of l.taken.matches.items);
  taken : AreTaken (matches_of l.taken.matches.items) (list_of l.taken.above).factors (list_of l.taken.below).factors;
  counted : l.counted ≡ shifts_counted (matches_of l.taken.matches.items);
  few : l.counted ≤ 256;
}
