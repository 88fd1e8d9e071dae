use Rattle.reducing.proofs.Polynomials.{sense}
use Rattle.reducing.proofs.PlainParts.{some_quotient, plain_is, fault_plain, division_fault}
use Rattle.reducing.proofs.polynomial_rows.plain_beside.Goals as goal

pub returns-in_err-divide_exact : goal.returns-in_err-divide_exact
returns-in_err-divide_exact c = record {
  plain =
      fault_plain (sense c.args.f.now) (sense c.args.core.now) c.from_residual-in_err-divide_exact.result c.in_err-divide_exact.field-0.0
      c.from_residual-in_err-divide_exact.ensures.1
      (division_fault (sense c.args.f.now) c.in_ok-part.content.value c.in_ok-part.part c.args.core.now c.in_ok-part.ensures.parts
      c.requires.core c.in_err-divide_exact.field-0.0 c.in_err-divide_exact.ensures.divides);
}

pub unwrap-quotient-requires : goal.unwrap-quotient-requires
unwrap-quotient-requires c =
    some_quotient (sense c.args.f.now) c.in_ok-part.content.value c.in_ok-part.part c.args.core.now c.in_ok-part.ensures.parts
    c.requires.core c.in_ok-divide_exact.field-0 c.in_ok-divide_exact.ensures.divides

pub returns : goal.returns
returns c = record {
  plain =
      plain_is (sense c.args.f.now) c.in_ok-part.content.value c.in_ok-part.part c.args.core.now c.in_ok-part.ensures.parts
      c.requires.core c.unwrap-quotient.result c.in_ok-content.content c.in_ok-divide_exact.field-0
      c.unwrap-quotient.ensures c.in_ok-divide_exact.ensures.divides c.in_ok-content.ensures.gives c.mul.result c.mul.ensures.gives;
}
