use Rattle.std.proofs.Common.{◌≡◌, ◌*ℤ◌, unsigned_abs, map, sym, ap, ◌∙◌, subst}
use Rattle.poly_divide.specs.Content.{DividesAll}
use Rattle.reducing.proofs.ContentQuotients.{quotient_is, quotient_fits, divides_numbers}
use Rattle.reducing.proofs.row_contents.quotient_by.Goals as goal

pub divided-requires-clause-divides : goal.divided-requires-clause-divides
divided-requires-clause-divides c =
    subst (λ t. DividesAll (unsigned_abs c.args.divisor.value) (map (λ number. unsigned_abs number.value) t)) (sym c.in_ok-list.ensures.copy)
    (divides_numbers c.args.f.now c.coefficients.result.now (unsigned_abs c.args.divisor.value) c.coefficients.ensures.coefficients c.requires.divides)

-- the coefficients are the divisor times the quotients
quotients : (c : goal.After-from_coefficients)
    → map (λ number. number.value) c.coefficients.result.now ≡ map (λ number. c.args.divisor.value *ℤ number.value) c.divided.result.items
quotients c = ap (map (λ number. number.value)) (sym c.in_ok-list.ensures.copy) ∙ c.divided.ensures.quotients

pub returns-clause-quotient : goal.returns-clause-quotient
returns-clause-quotient c =
    quotient_is c.args.f.now c.args.divisor.value c.coefficients.result.now c.divided.result.items c.from_coefficients.result
    c.coefficients.ensures.coefficients (quotients c) c.from_coefficients.ensures.gives

pub returns-clause-memory : goal.returns-clause-memory
returns-clause-memory c =
    quotient_fits c.args.divisor.value c.coefficients.result.now c.divided.result.items c.from_coefficients.result c.coefficients.ensures.short
    (quotients c) c.from_coefficients.ensures.gives
