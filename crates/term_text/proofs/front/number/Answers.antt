use Rattle.term_text.proofs.Literals.{number_is}
use Rattle.term_text.proofs.front.number.Goals as goal

-- the number is below 2^127, so the token is that of its digits
pub returns-in-Some-clause-token : goal.returns-in-Some-clause-token
returns-in-Some-clause-token c = number_is c.args.digits.now c.in-Some.value c.whole.result c.in-Some.ensures.value c.whole.ensures.whole
