use Rattle.std.specs.Int.{w128}
use Rattle.std.proofs.lemmas.Int.{fits_signed_from_abs}
use Rattle.ring_laws.proofs.Quotients.{no_quotient, quotient_given}
use Rattle.ring_laws.proofs.wholes.exact_quotient.Goals as goal

-- where a rest is left, no number is a quotient
pub returns-then-number-by-ne0 : goal.returns-then-number-by-ne0
returns-then-number-by-ne0 c = record {
  quotient = λ quotient holds.
      no_quotient c.args.number.value c.args.by.value
      (fits_signed_from_abs w128 c.args.number.value c.args.number.small)
      (fits_signed_from_abs w128 c.args.by.value c.args.by.small)
      c.if-number-by-ne0.true quotient holds;
}

-- where none is left, what `/` gives is one, and its magnitude is below 2^127
pub returns : goal.returns
returns c = record {
  quotient =
      quotient_given c.args.number.value c.args.by.value c.new.result
      (fits_signed_from_abs w128 c.args.number.value c.args.number.small)
      (fits_signed_from_abs w128 c.args.by.value c.args.by.small)
      c.args.number.small c.if-number-by-ne0.false c.new.ensures.given;
}
