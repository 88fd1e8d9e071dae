use Rattle.term_text.specs.Code.SeveralImage.{kind_of}
use Rattle.std.proofs.Common.{Ok, subst, sym, [], arith, ap}
use Rattle.term_text.specs.Code.Progress.{IsAfter, IsTurn}
use Rattle.term_text.proofs.Turns.{after_start}
use Rattle.term_text.proofs.read.read_contents.Goals as goal

pub loop-contents-init : goal.loop-contents-init
loop-contents-init c = record {
  within = omega (arith, ap (λ p. p.from) c.start-progress.ensures.start);
  after = ([], subst (λ p. IsAfter (kind_of c.args.kind) c.args.text.now p []) (sym c.start-progress.ensures.start) (after_start (kind_of c.args.kind) c.args.text.now));
}

-- the turn says so
pub loop-contents-preserved : goal.loop-contents-preserved
loop-contents-preserved c =
    let after = c.loop-contents.invariant.after in
    let next = subst (λ t. IsTurn (kind_of c.args.kind) c.args.text.now c.loop-contents.progress (Ok t)) c.in-Ok-More.field-0-is (c.in-Ok-More.ensures.turn after.0 after.1) in
    record { within = next.3; after = (next.0, next.1) }
