use Rattle.std.specs.Prelude.{◌≡◌, pos, ◌≤ℤ◌, unsigned_abs}
use Rattle.std.proofs.Common.{arith, ap, ◌∙◌, sym, subst}
use Rattle.std.proofs.lemmas.Int.{ints}
use Rattle.reducing.proofs.Divisors.{gcd_small, some_whole, whole_is, gcd_of}
use Rattle.reducing.proofs.whole_rows.common_divisor.Goals as goal

pub overflow_cast-divisor : goal.overflow_cast-divisor
overflow_cast-divisor c =
    let b = gcd_small c.magnitude.result c.magnitude-2.result c.gcd_whole-divisor.result c.magnitude.ensures.small c.magnitude-2.ensures.small
    c.gcd_whole-divisor.ensures.greatest in
    omega (arith, ints, b)

pub unwrap-requires : goal.unwrap-requires
unwrap-requires c =
    let b = gcd_small c.magnitude.result c.magnitude-2.result c.gcd_whole-divisor.result c.magnitude.ensures.small c.magnitude-2.ensures.small
    c.gcd_whole-divisor.ensures.greatest in
    some_whole c.new.result _ _ (λ e. omega (arith, ints, b, e)) c.new.ensures.given

value_is : (c : goal.After-unwrap) → c.unwrap.result.value ≡ pos c.gcd_whole-divisor.result
value_is c =
    let b = gcd_small c.magnitude.result c.magnitude-2.result c.gcd_whole-divisor.result c.magnitude.ensures.small c.magnitude-2.ensures.small
    c.gcd_whole-divisor.ensures.greatest in
    whole_is c.new.result c.unwrap.result _ _ c.unwrap.ensures c.new.ensures.given ∙ omega (arith, ints, b)

pub returns-clause-greatest : goal.returns-clause-greatest
returns-clause-greatest c =
    gcd_of c.magnitude.result c.magnitude-2.result c.gcd_whole-divisor.result (unsigned_abs c.args.a.value) (unsigned_abs c.args.b.value)
    (unsigned_abs c.unwrap.result.value) c.magnitude.ensures.magnitude c.magnitude-2.ensures.magnitude (ap unsigned_abs (value_is c))
    c.gcd_whole-divisor.ensures.greatest

pub returns-clause-sign : goal.returns-clause-sign
returns-clause-sign c = subst (λ z. pos 0 ≤ℤ z) (sym (value_is c)) (omega (arith, ints))
