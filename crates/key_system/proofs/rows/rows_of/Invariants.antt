use Rattle.std.proofs.Common.{◌≡◌, ◌≤◌, ◌++◌, map}
use Rattle.ring_laws.specs.Meaning.{items, listed}
use Rattle.poly_generic.specs.declared.polys.Poly.{Poly}
use Rattle.key_laws.specs.KeyRows.{rows_below, longest}
use Rattle.fraction_free.specs.RowAnswers.{rows_meant}
use Rattle.key_system.proofs.rows.rows_of.Given as goal

-- the rows so far, with those of the powers to come behind them
abbrev pub invariant-loop-power : goal.invariant-loop-power
invariant-loop-power g l = record {
  small : l.power ≤ 256;
  made : rows_meant g.B.Ring.meaning l.rows.items
      ++ rows_below g.B.Ring.algebra.ops (map items (map (λ (f : Poly _ _). listed (map g.B.Ring.meaning f.list.items)) l.columns)) l.power
      ≡ rows_below g.B.Ring.algebra.ops (map items (map (λ (f : Poly _ _). listed (map g.B.Ring.meaning f.list.items)) l.columns))
      (longest (map items (map (λ (f : Poly _ _). listed (map g.B.Ring.meaning f.list.items)) l.columns)));
}

abbrev pub decreases-loop-power : goal.decreases-loop-power
decreases-loop-power g l = l.power
