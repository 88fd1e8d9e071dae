use Rattle.std.proofs.Common.{ap, sym, ◌∙◌, length}
use Rattle.term_text.proofs.Counts.{two_of_box, four_of_box, box_of}
use Rattle.term_text.proofs.read.read_boxed.Goals as goal

-- the text of a box has two trees and four bounds
pub both-first-requires : goal.both-first-requires
both-first-requires c = record { two = two_of_box c.args.text.now c.in-Ok.contents.terms c.in-Ok.contents.bounds c.in-Ok.ensures.reads }

pub range_of-range-requires : goal.range_of-range-requires
range_of-range-requires c = record { four = ap length c.as_slice.ensures ∙ four_of_box c.args.text.now c.in-Ok.contents.terms c.in-Ok.contents.bounds c.in-Ok.ensures.reads }

pub returns-in-Ok : goal.returns-in-Ok
returns-in-Ok c = record {
  reads = box_of c.args.text.now c.in-Ok.contents.terms c.in-Ok.contents.bounds _ _ _ _ _ _ c.in-Ok.ensures.reads c.both-first.ensures.both
      (sym c.as_slice.ensures ∙ c.range_of-range.ensures.range);
}
