use Rattle.std.specs.Prelude.{◌≡◌, ◌≢◌, pos, ◌*ℤ◌, ◌<ℤ◌, ◌↔◌, unsigned_abs, IfSome}
use Rattle.std.specs.Int.{◌∣◌, IsGcd, w128, cast_signed as to_z, cast_unsigned as of_z}
use Rattle.std.proofs.Common.{arith, ap, sym, ◌∙◌, subst, true≢false}
use Rattle.std.proofs.lemmas.Int.{ints}
use Rattle.ring_laws.specs.Meaning.{number}
use Rattle.ring_laws.specs.Wholes.{number_of, is_zero}
use Rattle.poly_fraction.specs.FractionOf.{fraction_of}
use Rattle.poly_fraction.proofs.Divisors.{quotient_kept, same_quotients, lowest_quotients}
use Rattle.poly_fraction.proofs.lowest_terms.lowest.Goals as goal

pub exact_quotient-top-requires-clause-divides : goal.exact_quotient-top-requires-clause-divides
exact_quotient-top-requires-clause-divides c =
    let d = c.signed_divisor-divisor.result in
    let kept : d ≡ to_z w128 (of_z w128 d) = omega (arith, ints) in
    subst (λ t. unsigned_abs t ∣ unsigned_abs c.top-top.result.now.value) kept
    c.signed_divisor-divisor.ensures.greatest.0

pub exact_quotient-bottom-requires-clause-divides : goal.exact_quotient-bottom-requires-clause-divides
exact_quotient-bottom-requires-clause-divides c =
    let d = c.signed_divisor-divisor.result in
    let kept : d ≡ to_z w128 (of_z w128 d) = omega (arith, ints) in
    subst (λ t. unsigned_abs t ∣ unsigned_abs c.bottom-bottom.result.now.value) kept
    c.signed_divisor-divisor.ensures.greatest.1

-- the parts of the result times the divisor are those of the fraction
top_is : (c : goal.After-unwrap) → c.unwrap.result.top.value *ℤ c.signed_divisor-divisor.result ≡ c.args.f.now.top.value
top_is c =
    let d = c.signed_divisor-divisor.result in
    let q = c.exact_quotient-top in
    let kept : d ≡ to_z w128 (of_z w128 d) = omega (arith, ints) in
    quotient_kept c.unwrap.result.top.value q.result.value d (to_z w128 (of_z w128 d))
    (ap number_of (subst (λ r. IfSome r (λ f. (fraction_of f).top ≡ number q.result.value)) c.unwrap.ensures c.new.ensures.top)) kept
    q.ensures.quotient (ap number_of c.top-top.ensures.top)

bottom_is : (c : goal.After-unwrap) → c.unwrap.result.bottom.value *ℤ c.signed_divisor-divisor.result ≡ c.args.f.now.bottom.value
bottom_is c =
    let d = c.signed_divisor-divisor.result in
    let q = c.exact_quotient-bottom in
    let kept : d ≡ to_z w128 (of_z w128 d) = omega (arith, ints) in
    quotient_kept c.unwrap.result.bottom.value q.result.value d (to_z w128 (of_z w128 d))
    (ap number_of (subst (λ r. IfSome r (λ f. (fraction_of f).bottom ≡ number q.result.value)) c.unwrap.ensures c.new.ensures.bottom)) kept
    q.ensures.quotient (ap number_of c.bottom-bottom.ensures.bottom)

pub returns-clause-same : goal.returns-clause-same
returns-clause-same c =
    ap number (same_quotients c.unwrap.result.top.value c.unwrap.result.bottom.value c.signed_divisor-divisor.result c.args.f.now.top.value
    c.args.f.now.bottom.value (top_is c) (bottom_is c))

pub returns-clause-lowest : goal.returns-clause-lowest
returns-clause-lowest c =
    let d = c.signed_divisor-divisor in
    let f = c.args.f.now in
    let top : c.top-top.result.now.value ≡ f.top.value = ap number_of c.top-top.ensures.top in
    let bottom : c.bottom-bottom.result.now.value ≡ f.bottom.value = ap number_of c.bottom-bottom.ensures.bottom in
    let not_zero : f.bottom.value ≢ pos 0 = λ h. true≢false (sym (ap is_zero h) ∙ f.nonzero) in
    lowest_quotients c.unwrap.result.top.value c.unwrap.result.bottom.value d.result f.top.value f.bottom.value (top_is c) (bottom_is c)
    d.ensures.not_zero not_zero
    (subst (λ t. (pos 0 <ℤ d.result) ↔ (pos 0 <ℤ t)) bottom d.ensures.sign)
    (subst (λ t. IsGcd (unsigned_abs t) (unsigned_abs f.bottom.value) (unsigned_abs d.result)) top
    (subst (λ t. IsGcd (unsigned_abs c.top-top.result.now.value) (unsigned_abs t) (unsigned_abs d.result)) bottom d.ensures.greatest))
