use Rattle.std.proofs.Common.{◌≡◌, map, length, ap, arith}
use Rattle.poly_generic.proofs.PolyAnswers.{given_trimmed}
use Rattle.key_laws.specs.KeyRows.{power_list}
use Rattle.key_system.proofs.ColumnLists.{power_pushed, length-power_list}
use Rattle.key_system.proofs.columns.power_of_k.Goals as goal

pub returns : goal.returns
returns g c =
    let o = g.B.Ring.algebra.ops in
    let made : map g.B.Ring.meaning c.push-2.new.self.items ≡ power_list o c.args.power =
    power_pushed o g.B.Ring.meaning c.loop-at.list.items c.push-2.new.self.items c.in_ok-item-2.item c.loop-at._at c.args.power
    (omega (arith, c.loop-at-test.false, c.loop-at.invariant.within)) c.in_ok-push-2.ensures.items c.loop-at.invariant.zeros
    c.in_ok-item-2.ensures.gives in
    record {
      gives = given_trimmed o _ (map g.B.Ring.meaning c.push-2.new.self.items) (power_list o c.args.power) c.from_coefficients.result
          (omega (arith, ap length made, length-power_list o c.args.power, c.requires.few)) made c.from_coefficients.ensures.gives;
    }
