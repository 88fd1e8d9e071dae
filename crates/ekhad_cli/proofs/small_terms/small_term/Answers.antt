use Rattle.std.proofs.Common.{rules, ◌≤◌, length, refl, ap, sym, ◌∙◌, arith, subst}
use Rattle.std.specs.Prelude.{ℤ}
use Rattle.ring_laws.specs.Meaning.{items}
use Rattle.poly_laws.specs.Lists.{coefficient_at}
use Rattle.poly_laws.specs.Values.{level}
use Rattle.proper_term.specs.TermOf.{term_of}
use Rattle.ekhad_cli.specs.FirstRun.{HasNumbers}
use Rattle.ekhad_cli.proofs.Signed.{held}
use Rattle.ekhad_cli.proofs.SmallTerms.{numbers_of}
use Rattle.ekhad_cli.proofs.small_terms.small_term.Goals as goal

-- the numbers of the fields
pub returns-clause-numbers : goal.returns-clause-numbers
returns-clause-numbers c =
    let s = c.in_ok-scale.scale in
    let cs = c.in_ok-coefficients.coefficients in
    let small = c.in_ok-scale.ensures.scale.1 in
    let short : length cs ≤ 5 = search rules in
    subst (λ (z : ℤ). HasNumbers (term_of c.args.term.now) cs z) (sym (held s (omega (arith, small))))
    (numbers_of (term_of c.args.term.now) cs s (c.if-not-is_scaled_polynomial.ensures.test.0 refl) (sym c.scale.ensures.scale ∙ c.in_ok-scale.ensures.scale.0) small
    (λ power. ap (λ m. coefficient_at (level 1).ops (items m) power) (sym c.poly.ensures.poly) ∙ c.in_ok-coefficients.ensures.coefficients power)
    c.in_ok-coefficients.ensures.small short c.poly.ensures.proper)
