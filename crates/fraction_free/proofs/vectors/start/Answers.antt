use Rattle.std.proofs.Common.{arith, refl}
use Rattle.fraction_free.proofs.VectorLemmas.{zeros_length, zero_pushed, one_placed}
use Rattle.fraction_free.proofs.vectors.start.Goals as goal

pub loop-column-preserved : goal.loop-column-preserved
loop-column-preserved g c =
    let M = g.R.Ring.meaning in
    record {
      within = omega (arith, c.loop-column-test.true);
      made = zero_pushed g.R.Ring.algebra M c.loop-column.vector.items c.push.new.self.items c.in_ok-zero.field-0 c.loop-column._column
          c.in_ok-push.ensures.items c.loop-column.invariant.made c.in_ok-zero.ensures.gives;
    }

pub index_mut-requires : goal.index_mut-requires
index_mut-requires g c =
    let n = zeros_length g.R.Ring.algebra g.R.Ring.meaning c.loop-column.vector.items c.loop-column._column c.loop-column.invariant.made in
    omega (arith, n, c.requires.within, c.loop-column-test.false)

pub returns : goal.returns
returns g c = record {
  gives = one_placed g.R.Ring.algebra g.R.Ring.meaning c.loop-column.vector.items _ c.in_ok-vector.field-0 c.loop-column._column c.args.columns
      c.args.free refl c.loop-column.invariant.made (omega (arith, c.loop-column.invariant.within, c.loop-column-test.false)) c.in_ok-vector.ensures.gives;
}
