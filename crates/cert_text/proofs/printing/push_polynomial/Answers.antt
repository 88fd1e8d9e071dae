use Rattle.std.proofs.Common.{◌≢◌, ◌-◌, string_bytes, pos, arith}
use Rattle.std.proofs.lemmas.Int.{ints}
use Rattle.cert_text.proofs.WrittenNumbers.{start, passed, added, ended_some, ended_none}
use Rattle.cert_text.proofs.printing.push_polynomial.Goals as goal

-- nothing is written before the highest power
pub loop-power-init : goal.loop-power-init
loop-power-init c = record {
  within = omega arith;
  short = c.requires.short;
  written = start (string_bytes c.args.text.now) c.args.coefficients.now;
}

-- the monomial of a coefficient that isn't 0
pub loop-power-preserved-then-value-ne0 : goal.loop-power-preserved-then-value-ne0
loop-power-preserved-then-value-ne0 c =
    let some : c.index-coefficients-power.result.value ≢ pos 0 = λ e. omega (arith, ints, e, c.if-value-ne0.true, c.value.ensures.value) in record {
      within = omega arith;
      short = c.requires.short;
      written = added (string_bytes c.args.text.now) (string_bytes c.loop-power.text) (string_bytes c.push_monomial.new.text)
          c.args.coefficients.now c.loop-power.first c.loop-power.power (c.loop-power.power - 1) c.index-coefficients-power.result
          (omega arith) c.loop-power.invariant.within c.index-coefficients-power.is some c.loop-power.invariant.written c.in_ok-push_monomial.ensures;
    }

-- a coefficient that is 0 is passed over
pub loop-power-preserved : goal.loop-power-preserved
loop-power-preserved c = record {
  within = omega arith;
  short = c.requires.short;
  written = passed (string_bytes c.args.text.now) (string_bytes c.loop-power.text) c.args.coefficients.now c.loop-power.first
      c.loop-power.power (c.loop-power.power - 1) c.index-coefficients-power.result (omega arith) c.loop-power.invariant.within
      c.index-coefficients-power.is (omega (arith, ints, c.if-value-ne0.false, c.value.ensures.value)) c.loop-power.invariant.written;
}

-- no monomial at all: the text is 0
pub returns-in_ok-push_str : goal.returns-in_ok-push_str
returns-in_ok-push_str c =
    ended_none (string_bytes c.args.text.now) (string_bytes c.loop-power.text) (string_bytes c.push_str.new.self) c.args.coefficients.now
    c.loop-power.first c.loop-power.power c.loop-power-test.false c.loop-power.invariant.written c.if-first.true c.in_ok-push_str.ensures.bytes

pub returns-else-first : goal.returns-else-first
returns-else-first c =
    ended_some (string_bytes c.args.text.now) (string_bytes c.loop-power.text) c.args.coefficients.now
    c.loop-power.first c.loop-power.power c.loop-power-test.false c.loop-power.invariant.written c.if-first.false
