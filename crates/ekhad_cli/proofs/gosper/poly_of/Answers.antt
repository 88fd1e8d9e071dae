use Rattle.std.proofs.Common.{◌≡◌, ◌≤◌, ◌∙◌, ap, sym, arith, subst, map, take, length, List}
use Rattle.std.proofs.lemmas.Grind.{common_steps}
use Rattle.ring_laws.specs.Meaning.{Meaning, number}
use Rattle.ring_laws.specs.Wholes.{whole_algebra}
use Rattle.poly_laws.specs.Lists.{trimmed}
use Rattle.ekhad_cli.proofs.Polynomials.{trimmed_length, never_too_large}
use Rattle.ekhad_cli.proofs.gosper.poly_of.Goals as goal

-- no more coefficients than were given
pub returns-clause-in_bounds : goal.returns-clause-in_bounds
returns-clause-in_bounds c =
    let all : take c.loop-coefficient.coefficient-index c.args.coefficients.now ≡ c.args.coefficients.now = grind (arith, common_steps) in
    let short : length (trimmed whole_algebra.ops (map number c.args.coefficients.now)) ≤ 256 = omega (arith, trimmed_length c.args.coefficients.now, c.requires.short) in
    never_too_large _ _ _ _
    (subst (λ (xs : List Meaning). length (trimmed whole_algebra.ops xs) ≤ 256) (sym (c.loop-coefficient.invariant ∙ ap (map number) all)) short)
    c.from_coefficients.ensures.gives
