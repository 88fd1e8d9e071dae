use Rattle.std.proofs.Common.{rules, ◌≤◌, length, ap, sym, ◌∙◌, arith, subst}
use Rattle.std.specs.Prelude.{ℤ, unsigned_abs}
use Rattle.ekhad_cli.specs.Antidifference.{IsLeastAntidifference}
use Rattle.ekhad_cli.proofs.Signed.{held}
use Rattle.ekhad_cli.proofs.AnsweredTerms.{antidifference_of}
use Rattle.ekhad_cli.proofs.gosper.gosper.Goals as goal

-- the numbers that were found, as polynomials and numbers of the document
pub returns-clause-antidifference : goal.returns-clause-antidifference
returns-clause-antidifference c =
    let cs = c.args.term.now.coefficients in
    let least = c.least_antidifference-least.result in
    let multiplier = c.whole-2.ensures ∙ held least.multiplier (omega (arith, c.least_antidifference-least.ensures.few)) in
    let short : length cs ≤ 5 = search rules in
    let short_y : length least.coefficients ≤ 6 = search rules in
    antidifference_of cs least.coefficients _ _ _ c.in_ok-poly_of.ensures.meaning c.in_ok-poly_of-2.ensures.meaning
    short short_y c.requires.small c.least_antidifference-least.ensures.small
    (subst (λ (a : ℤ). IsLeastAntidifference cs a least.coefficients) (sym multiplier) c.least_antidifference-least.ensures.least)
    (omega (arith, ap unsigned_abs multiplier, c.least_antidifference-least.ensures.few))
