use Rattle.term_text.specs.Code.SeveralImage.{kind_of}
use Rattle.std.proofs.Common.{length, ◌-◌, ◌≤◌, List}
use Rattle.grammar.specs.Token.{Placed}
use Rattle.term_text.specs.Code.Progress.{IsAfter}
use Rattle.term_text.proofs.read.read_contents.Given as goal

abbrev pub invariant-loop-contents : goal.invariant-loop-contents
invariant-loop-contents l = record {
  within : l.progress.from ≤ length l.text;
  after : (ts : List Placed) × IsAfter (kind_of l.kind) l.text l.progress ts;
}

abbrev pub decreases-loop-contents : goal.decreases-loop-contents
decreases-loop-contents l = length l.text - l.progress.from
