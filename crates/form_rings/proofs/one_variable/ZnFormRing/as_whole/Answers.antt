use Rattle.std.proofs.Common.{◌≡◌, length, ◌∙◌, sym, arith}
use Rattle.form_rings.proofs.WholeValues.{one_number, no_number, trimmed_too}
use Rattle.form_rings.proofs.one_variable.ZnFormRing.as_whole.Goals as goal

-- two coefficients or more are no whole number
pub returns-then-list-gt1 : goal.returns-then-list-gt1
returns-then-list-gt1 c = record {
  whole = λ w e. no_number c.coefficients-list.result.now w (omega (arith, c.if-list-gt1.true)) (c.coefficients-list.ensures.coefficients ∙ e);
}

-- and one is one
pub returns : goal.returns
returns c = record {
  whole =
      let list = c.coefficients-list.result.now in
      let same = c.coefficients-list.ensures.coefficients in
      let one : length list ≡ 1 = grind (arith, c.if-list-gt1.false, c.if-is_empty.false, c.is_empty.ensures) in
      sym same ∙ one_number list c.index-list-0.result one c.index-list-0.is (trimmed_too list c.args.self.now.list.items same c.args.self.now.ended);
}
