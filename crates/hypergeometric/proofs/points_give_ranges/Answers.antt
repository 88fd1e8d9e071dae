use Rattle.hypergeometric.proofs.RangeSums.{ranges_from_points}
use Rattle.hypergeometric.proofs.points_give_ranges.Goals as goal

pub returns : goal.returns
returns c = record { ranges = ranges_from_points }
