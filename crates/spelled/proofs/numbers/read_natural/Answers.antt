use Rattle.std.proofs.Common.{◌∙◌, sym, ap, subst, arith}
use Rattle.std.specs.Fmt.{decimal}
use Rattle.std.specs.Str.{IsUtf8}
use Rattle.std.specs.Result.{result_ok}
use Rattle.std.proofs.lemmas.Str.{IsUtf8-from_ascii}
use Rattle.std.proofs.lemmas.Fmt.{IsAscii-decimal_wide, parse-decimal_wide}
use Rattle.spelled.proofs.numbers.read_natural.Goals as goal

-- digits are a text
pub returns-in_default : goal.returns-in_default
returns-in_default c = record {
  read = λ n small e.
      absurd (c.in_default.ensures.cases.0 (subst IsUtf8 (sym e) (IsUtf8-from_ascii (decimal n) (IsAscii-decimal_wide n (omega (arith, small))))));
}

-- and are read as their number
pub returns : goal.returns
returns c = record {
  read = λ n small e.
      let read = parse-decimal_wide 128 n c.in-Ok.digits.now c.parse.result (omega (arith, small)) (omega (arith, small))
      (c.in-Ok.ensures.cases.0 ∙ e)
      c.parse.ensures.value.0 in
      c.ok.ensures.value ∙ ap result_ok read;
}
