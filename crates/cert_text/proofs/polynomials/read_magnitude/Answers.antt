use Rattle.std.proofs.Common.{◌≡◌, [], ap, sym, arith, Some}
use Rattle.std.proofs.lemmas.Grind.{common_steps}
use Rattle.cert_text.proofs.MonomialReading.{magnitude_of_none}
use Rattle.cert_text.proofs.polynomials.read_magnitude.Goals as goal

-- no digits are those of 1
pub returns-then-is_empty : goal.returns-then-is_empty
returns-then-is_empty c = record {
  read = λ n small is.
      let none : c.args.digits.now ≡ [] = grind (arith, common_steps) in ap Some (sym (magnitude_of_none n c.args.digits.now small none is));
}
