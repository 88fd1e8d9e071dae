use Rattle.std.proofs.Common.{◌≡◌, ◌*◌, ◌≤◌, take}
use Rattle.std.specs.Prelude.{unsigned_abs}
use Rattle.ekhad_cli.specs.Antidifference.{dot_product}
use Rattle.ekhad_cli.proofs.antidifference.dot.Given as goal

abbrev pub invariant-loop-place : goal.invariant-loop-place
invariant-loop-place l = record {
  value : l.sum ≡ dot_product (take l.place l.weights) (take l.place l.c);
  small : unsigned_abs l.sum ≤ 300000000 * l.place;
}
