use Rattle.std.proofs.Common.{refl, sym, subst, true≢false, List}
use Rattle.std.specs.List.{AllByRecursion}
use Rattle.std.specs.Prelude.{◌≤ℤ◌, pos}
use Rattle.hypergeometric.specs.LinearForm.{Factor, form_value}
use Rattle.hypergeometric.specs.ProperTerm.{proper_value}
use Rattle.hypergeometric.proofs.Definedness.{proper_value_defined}
use Rattle.poly_fraction.specs.FractionOf.{fraction_of}
use Rattle.proper_term.specs.Fields.{number_fraction_of}
use Rattle.proper_term.specs.Points.{point_of}
use Rattle.proper_term.specs.TermOf.{term_of}
use Rattle.proper_term.proofs.ListItems.{negative_all}
use Rattle.proper_term.proofs.ValueRuns.{err_weaker, proper_fractions}
use Rattle.proper_term.proofs.ZeroValues.{zero_equal, zero_lowest, zero_down}
use Rattle.proper_term.proofs.values.defined_value.Goals as goal

-- a factorial below is that of a negative number
pub returns-then-not-none_negative-clause-value : goal.returns-then-not-none_negative-clause-value
returns-then-not-none_negative-clause-value c =
    let f = term_of c.args.term.now in
    zero_equal (number_fraction_of (fraction_of c.zero.result)) (proper_value f (point_of c.args.point)) c.zero.ensures.top c.zero.ensures.bottom
    (proper_value_defined f (point_of c.args.point) (proper_fractions f c.args.term.now.proper) c.requires.defined)
    (zero_down f (point_of c.args.point) c.args.term.now.proper.down.each
    (λ h. true≢false (sym (c.if-not-none_negative.ensures.test.1 (subst
    (λ (xs : List Factor). AllByRecursion (λ x. pos 0 ≤ℤ form_value x.form (point_of c.args.point)) xs) (sym c.down.ensures.down)
    ((negative_all f.down (point_of c.args.point)).0 h))))))

pub returns-then-not-none_negative-clause-lowest : goal.returns-then-not-none_negative-clause-lowest
returns-then-not-none_negative-clause-lowest c = zero_lowest (number_fraction_of (fraction_of c.zero.result)) c.zero.ensures.top c.zero.ensures.bottom

pub product_value-requires-clause-down : goal.product_value-requires-clause-down
product_value-requires-clause-down c =
    (negative_all (term_of c.args.term.now).down (point_of c.args.point)).1
    (subst (λ (xs : List Factor). AllByRecursion (λ x. pos 0 ≤ℤ form_value x.form (point_of c.args.point)) xs) c.down.ensures.down
    (c.if-not-none_negative.ensures.test.0 refl))

-- the term is defined, and no factorial below is that of a negative number
pub returns-clause-too_large : goal.returns-clause-too_large
returns-clause-too_large c =
    let down = (negative_all (term_of c.args.term.now).down (point_of c.args.point)).1
    (subst (λ (xs : List Factor). AllByRecursion (λ x. pos 0 ≤ℤ form_value x.form (point_of c.args.point)) xs) c.down.ensures.down
    (c.if-not-none_negative.ensures.test.0 refl)) in
    err_weaker _ _ c.product_value.result (λ out b. out (b c.requires.defined down)) c.product_value.ensures.too_large
