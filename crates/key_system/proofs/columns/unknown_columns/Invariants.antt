use Rattle.std.proofs.Common.{◌≡◌, ◌≤◌, map}
use Rattle.ring_laws.specs.Meaning.{listed}
use Rattle.poly_generic.specs.declared.polys.Poly.{Poly}
use Rattle.key_laws.specs.KeyEquation.{key_difference}
use Rattle.key_laws.specs.KeyRows.{power_of_k, listing}
use Rattle.key_system.proofs.columns.unknown_columns.Given as goal

-- the columns so far
abbrev pub invariant-loop-power : goal.invariant-loop-power
invariant-loop-power g l = record {
  within : l.power ≤ l.count;
  made : map (λ (f : Poly _ _). listed (map g.B.Ring.meaning f.list.items)) l.columns.items
      ≡ listing l.power (λ i. key_difference g.B.Ring.algebra.ops (listed (map g.B.Ring.meaning l.q.list.items))
      (listed (map g.B.Ring.meaning l.b.list.items)) (power_of_k g.B.Ring.algebra.ops i));
}
