use Rattle.std.proofs.Common.{arith, ◌+◌}
use Rattle.cert_text.proofs.Lines.{shared_none, parts_at, passed_next}
use Rattle.cert_text.proofs.reading.line_of_difference.Goals as goal

-- one byte more
pub loop-at-preserved : goal.loop-at-preserved
loop-at-preserved c =
    let lines = c.loop-at.invariant.lines in record {
      within = omega (arith, c.loop-at-test.true);
      within_other = omega (arith, c.if-at-other.true);
      lines = (
        _,
        c.line_behind-line.ensures.counts lines.0 lines.1,
        passed_next c.args.text.now c.args.other.now c.loop-at.at (c.loop-at.at + 1) lines.0 (omega arith) c.loop-at-test.true c.if-at-other.true c.if-text-at.true lines.2,
      );
    }

-- the texts part at a byte, or at the end of one of them
pub returns-else-text-at : goal.returns-else-text-at
returns-else-text-at c =
    let lines = c.loop-at.invariant.lines in record {
      parts = parts_at c.args.text.now c.args.other.now c.loop-at.line c.loop-at.at lines.0 lines.1 lines.2
          (shared_none c.args.text.now c.args.other.now c.loop-at.at (λ p q. c.if-text-at.false));
    }

pub returns-else-at-other : goal.returns-else-at-other
returns-else-at-other c =
    let lines = c.loop-at.invariant.lines in record {
      parts = parts_at c.args.text.now c.args.other.now c.loop-at.line c.loop-at.at lines.0 lines.1 lines.2
          (shared_none c.args.text.now c.args.other.now c.loop-at.at (λ p q. absurd (omega (arith, q, c.if-at-other.false))));
    }

pub returns-after-loop-at : goal.returns-after-loop-at
returns-after-loop-at c =
    let lines = c.loop-at.invariant.lines in record {
      parts = parts_at c.args.text.now c.args.other.now c.loop-at.line c.loop-at.at lines.0 lines.1 lines.2
          (shared_none c.args.text.now c.args.other.now c.loop-at.at (λ p q. absurd (omega (arith, p, c.loop-at-test.false))));
    }
