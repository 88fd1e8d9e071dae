use Rattle.std.proofs.Common.{sym, subst}
use Rattle.cert_text.specs.Reading.{IsMagnitudeText, IsStarOf}
use Rattle.cert_text.proofs.MonomialReading.{unsigned_parts}
use Rattle.cert_text.proofs.polynomials.read_unsigned.Goals as goal

-- the magnitude is read
pub returns-in_err-magnitude : goal.returns-in_err-magnitude
returns-in_err-magnitude c = record {
  read = λ n power small short e.
      let parts = unsigned_parts n power c.args.text.now small e in
      let cut = c.until.ensures.cut parts.front parts.back parts.only parts.stops parts.whole in
      let no = c.in_err-magnitude.ensures.read n small (subst (λ t. IsMagnitudeText t n) (sym cut.0) parts.digits) in
      absurd cc;
}

-- and the power
pub returns-in_err-power : goal.returns-in_err-power
returns-in_err-power c = record {
  read = λ n power small short e.
      let parts = unsigned_parts n power c.args.text.now small e in
      let cut = c.until.ensures.cut parts.front parts.back parts.only parts.stops parts.whole in
      let no = c.in_err-power.ensures.read power short
      (parts.behind c.without_star.result.now (subst (λ t. IsStarOf t c.without_star.result.now) cut.1 c.without_star.ensures.star)) in
      absurd cc;
}

pub returns : goal.returns
returns c = record {
  read = λ n power small short e.
      let parts = unsigned_parts n power c.args.text.now small e in
      let cut = c.until.ensures.cut parts.front parts.back parts.only parts.stops parts.whole in
      let first = c.read_magnitude.ensures.read n small (subst (λ t. IsMagnitudeText t n) (sym cut.0) parts.digits) in
      let second = c.read_power.ensures.read power short
      (parts.behind c.without_star.result.now (subst (λ t. IsStarOf t c.without_star.result.now) cut.1 c.without_star.ensures.star)) in
      let a = c.in_ok-magnitude.was in
      let b = c.in_ok-power.was in
      cc;
}
