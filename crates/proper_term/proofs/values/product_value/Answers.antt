use Rattle.std.proofs.Common.{sym, ◌∙◌, subst, arith, ◌∷◌}
use Rattle.std.proofs.lemmas.Int.{ints}
use Rattle.std.specs.Prelude.{ℤ}
use Rattle.ring_laws.specs.Answer.{fault_weaker}
use Rattle.lin_form.proofs.ListProducts.{fault_list}
use Rattle.hypergeometric.specs.Fraction.{of_whole}
use Rattle.hypergeometric.specs.ProperTerm.{poly_value, proper_value}
use Rattle.hypergeometric.proofs.Definedness.{proper_value_defined}
use Rattle.poly_fraction.specs.FractionOf.{fraction_of}
use Rattle.proper_term.specs.Fields.{number_fraction_of}
use Rattle.proper_term.specs.Points.{point_of}
use Rattle.proper_term.specs.Runs.{GivesRun}
use Rattle.proper_term.specs.TermOf.{term_of}
use Rattle.proper_term.specs.ValueBounds.{base_power, divisors, factorial_factors}
use Rattle.proper_term.proofs.Runs.{bounds_before}
use Rattle.proper_term.proofs.ValueRuns.{run_then, value_of_run, lowest_of_run, fault_of_run, factorials_top, proper_fractions, lowest_nonzero}
use Rattle.proper_term.proofs.ZeroValues.{zero_equal, zero_lowest, zero_poly}
use Rattle.proper_term.proofs.values.product_value.Goals as goal

pub returns-in_err-running-clause-too_large : goal.returns-in_err-running-clause-too_large
returns-in_err-running-clause-too_large c =
    let f = term_of c.args.term.now in
    fault_list _ c.from_residual.result c.in_err-running.field-0.0 c.from_residual.ensures.1
    (fault_weaker c.in_err-running.field-0.0 (λ no b. no (bounds_before f.scale (factorial_factors f (point_of c.args.point))
    (of_whole (poly_value f.poly (point_of c.args.point)) ∷ base_power f.n_base c.args.point.n ∷ base_power f.k_base c.args.point.k
    ∷ divisors f.over (point_of c.args.point)) b.run)) c.in_err-running.ensures.run)

pub returns-then-value-eq0-clause-value : goal.returns-then-value-eq0-clause-value
returns-then-value-eq0-clause-value c =
    let f = term_of c.args.term.now in
    zero_equal (number_fraction_of (fraction_of c.zero.result)) (proper_value f (point_of c.args.point)) c.zero.ensures.top c.zero.ensures.bottom
    (proper_value_defined f (point_of c.args.point) (proper_fractions f c.args.term.now.proper) c.requires.defined)
    (zero_poly f (point_of c.args.point) (sym c.in_ok-poly.ensures.value ∙ omega (arith, ints)))

pub returns-then-value-eq0-clause-lowest : goal.returns-then-value-eq0-clause-lowest
returns-then-value-eq0-clause-lowest c = zero_lowest (number_fraction_of (fraction_of c.zero.result)) c.zero.ensures.top c.zero.ensures.bottom

-- the quotient of the factorials isn't 0
pub times_factors-requires-clause-running : goal.times_factors-requires-clause-running
times_factors-requires-clause-running c =
    let f = term_of c.args.term.now in
    factorials_top f (point_of c.args.point) (number_fraction_of (fraction_of c.in_ok-running.running))
    (lowest_nonzero f.scale c.args.term.now.proper.scale) c.in_ok-running.ensures.run

-- the run over all factors
pub returns-clause-value : goal.returns-clause-value
returns-clause-value c =
    let f = term_of c.args.term.now in
    let p = point_of c.args.point in
    let rest : GivesRun fraction_of (number_fraction_of (fraction_of c.in_ok-running.running))
    (of_whole (poly_value f.poly p) ∷ base_power f.n_base p.n ∷ base_power f.k_base p.k ∷ divisors f.over p) c.times_factors.result =
    subst (λ (z : ℤ). GivesRun fraction_of (number_fraction_of (fraction_of c.in_ok-running.running))
    (of_whole z ∷ base_power f.n_base p.n ∷ base_power f.k_base p.k ∷ divisors f.over p) c.times_factors.result) c.in_ok-poly.ensures.value
    c.times_factors.ensures.run in
    let run = run_then fraction_of f.scale (factorial_factors f p) (number_fraction_of (fraction_of c.in_ok-running.running))
    (of_whole (poly_value f.poly p) ∷ base_power f.n_base p.n ∷ base_power f.k_base p.k ∷ divisors f.over p) c.times_factors.result
    c.in_ok-running.ensures.run rest in
    value_of_run fraction_of f p c.args.term.now.proper c.times_factors.result c.requires.defined c.requires.down run

pub returns-clause-lowest : goal.returns-clause-lowest
returns-clause-lowest c =
    let f = term_of c.args.term.now in
    let p = point_of c.args.point in
    let rest : GivesRun fraction_of (number_fraction_of (fraction_of c.in_ok-running.running))
    (of_whole (poly_value f.poly p) ∷ base_power f.n_base p.n ∷ base_power f.k_base p.k ∷ divisors f.over p) c.times_factors.result =
    subst (λ (z : ℤ). GivesRun fraction_of (number_fraction_of (fraction_of c.in_ok-running.running))
    (of_whole z ∷ base_power f.n_base p.n ∷ base_power f.k_base p.k ∷ divisors f.over p) c.times_factors.result) c.in_ok-poly.ensures.value
    c.times_factors.ensures.run in
    let run = run_then fraction_of f.scale (factorial_factors f p) (number_fraction_of (fraction_of c.in_ok-running.running))
    (of_whole (poly_value f.poly p) ∷ base_power f.n_base p.n ∷ base_power f.k_base p.k ∷ divisors f.over p) c.times_factors.result
    c.in_ok-running.ensures.run rest in
    lowest_of_run fraction_of f p c.args.term.now.proper c.times_factors.result run

pub returns-clause-too_large : goal.returns-clause-too_large
returns-clause-too_large c =
    let f = term_of c.args.term.now in
    let p = point_of c.args.point in
    let rest : GivesRun fraction_of (number_fraction_of (fraction_of c.in_ok-running.running))
    (of_whole (poly_value f.poly p) ∷ base_power f.n_base p.n ∷ base_power f.k_base p.k ∷ divisors f.over p) c.times_factors.result =
    subst (λ (z : ℤ). GivesRun fraction_of (number_fraction_of (fraction_of c.in_ok-running.running))
    (of_whole z ∷ base_power f.n_base p.n ∷ base_power f.k_base p.k ∷ divisors f.over p) c.times_factors.result) c.in_ok-poly.ensures.value
    c.times_factors.ensures.run in
    let run = run_then fraction_of f.scale (factorial_factors f p) (number_fraction_of (fraction_of c.in_ok-running.running))
    (of_whole (poly_value f.poly p) ∷ base_power f.n_base p.n ∷ base_power f.k_base p.k ∷ divisors f.over p) c.times_factors.result
    c.in_ok-running.ensures.run rest in
    fault_of_run fraction_of f p c.args.term.now.proper c.times_factors.result run
