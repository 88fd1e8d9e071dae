use Rattle.std.specs.Prelude.{◌≡◌, ℕ, suc, ◌+◌, ◌≤◌, length, ◌-◌}
use Rattle.cert_text.specs.Readable.{carried}
use Rattle.cert_text.proofs.Lines.{lines_shared, shared_from}
use Rattle.cert_text.proofs.reading.line_of_difference.Given as goal

-- the lines so far and those behind the place are all that are shared
abbrev pub invariant-loop-at : goal.invariant-loop-at
invariant-loop-at l = record {
  within : l.at ≤ length l.text;
  within_other : l.at ≤ length l.other;
  lines : (passed : ℕ) × (l.line ≡ carried (suc passed)) × (lines_shared l.text l.other ≡ passed + shared_from l.text l.other l.at);
}

abbrev pub decreases-loop-at : goal.decreases-loop-at
decreases-loop-at l = length l.text - l.at
