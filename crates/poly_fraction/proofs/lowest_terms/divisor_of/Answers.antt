use Rattle.std.specs.Prelude.{◌<◌, ◌^◌, unsigned_abs}
use Rattle.std.specs.Int.{IsGcd, w128}
use Rattle.std.proofs.Common.{arith, ap, ◌∙◌, subst}
use Rattle.std.proofs.lemmas.Int.{ints, to_z-of_z, fits_signed_from_abs}
use Rattle.poly_fraction.proofs.Divisors.{divisor_within}
use Rattle.poly_fraction.proofs.lowest_terms.divisor_of.Goals as goal

-- the divisor of the magnitudes
greatest : (c : goal.After-gcd_whole) → IsGcd (unsigned_abs c.args.a.value) (unsigned_abs c.args.b.value) c.gcd_whole.result
greatest c =
    subst (λ n. IsGcd n (unsigned_abs c.args.b.value) c.gcd_whole.result)
    (c.unsigned_abs.ensures.value ∙ ap unsigned_abs (to_z-of_z w128 c.value.result (fits_signed_from_abs w128 c.value.result c.value.ensures.small))
    ∙ ap unsigned_abs c.value.ensures.value)
    (subst (λ n. IsGcd c.unsigned_abs.result n c.gcd_whole.result)
    (c.unsigned_abs-2.ensures.value
    ∙ ap unsigned_abs (to_z-of_z w128 c.value-2.result (fits_signed_from_abs w128 c.value-2.result c.value-2.ensures.small))
    ∙ ap unsigned_abs c.value-2.ensures.value) c.gcd_whole.ensures.greatest)

within : (c : goal.After-gcd_whole) → (0 < c.gcd_whole.result) × (c.gcd_whole.result < 2 ^ 127)
within c = divisor_within (unsigned_abs c.args.a.value) c.gcd_whole.result c.args.b.value c.requires.not_zero c.args.b.small (greatest c)

-- it is between 1 and 2^127
pub overflow_cast-result : goal.overflow_cast-result
overflow_cast-result c = let b = within c in omega (arith, ints, b)

pub returns : goal.returns
returns c =
    let b = within c in
    record {
      positive = omega (arith, ints, b);
      greatest = subst (λ n. IsGcd (unsigned_abs c.args.a.value) (unsigned_abs c.args.b.value) n) (omega (arith, ints, b)) (greatest c);
    }
