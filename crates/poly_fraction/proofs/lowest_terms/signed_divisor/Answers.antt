use Rattle.std.specs.Prelude.{unsigned_abs}
use Rattle.std.specs.Int.{IsGcd}
use Rattle.std.proofs.Common.{arith, subst}
use Rattle.std.proofs.lemmas.Int.{ints}
use Rattle.poly_fraction.proofs.lowest_terms.signed_divisor.Goals as goal

-- the sign changes no magnitude
pub returns-then-value-gt0-clause-greatest : goal.returns-then-value-gt0-clause-greatest
returns-then-value-gt0-clause-greatest c =
    subst (λ n. IsGcd (unsigned_abs c.args.a.value) (unsigned_abs c.args.b.value) n) (omega (arith, ints)) c.divisor_of-divisor.ensures.greatest

pub returns-else-value-gt0-clause-greatest : goal.returns-else-value-gt0-clause-greatest
returns-else-value-gt0-clause-greatest c =
    subst (λ n. IsGcd (unsigned_abs c.args.a.value) (unsigned_abs c.args.b.value) n) (omega (arith, ints)) c.divisor_of-divisor.ensures.greatest
