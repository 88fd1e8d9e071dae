use Rattle.std.proofs.Common.{◌≡◌, ◌∙◌, map, refl, ap, subst}
use Rattle.std.specs.Option.{MatchOption}
use Rattle.poly_fraction.specs.FractionOf.{fraction_of}
use Rattle.exact_texts.specs.Texts.{other_than}
use Rattle.proper_term.specs.Fields.{number_fraction, number_fraction_of}
use Rattle.number_lines.specs.Fractions.{fraction_pieces}
use Rattle.number_lines.specs.FractionLaws.{pieces_joined, pieces_only}
use Rattle.number_lines.proofs.FractionSteps.{found_fraction}
use Rattle.number_lines.proofs.fractions.FractionsSpelling.read.Goals as goal

-- no two numbers
pub returns-in_default-clause-read : goal.returns-in_default-clause-read
returns-in_default-clause-read c = λ v has e.
    let pieces = c.in_ok-pieces.ensures.pieces (fraction_pieces v) (λ n. cc) (pieces_only (other_than 47) refl v has.0) (e ∙ pieces_joined v) in
    subst (λ found. MatchOption found ⊥ (λ x. number_fraction x.0.value x.1.value ≡ v)) c.in_default.is
    (c.in_ok-top.ensures.read v has (ap (map (λ x. x.now)) c.deref.ensures.value ∙ pieces))

-- the fraction of two numbers
pub returns-clause-read : goal.returns-clause-read
returns-clause-read c = λ v has e.
    let pieces = c.in_ok-pieces.ensures.pieces (fraction_pieces v) (λ n. cc) (pieces_only (other_than 47) refl v has.0) (e ∙ pieces_joined v) in
    let numbers = subst (λ found. MatchOption found ⊥ (λ x. number_fraction x.0.value x.1.value ≡ v)) c.in-Some.is
    (c.in_ok-top.ensures.read v has (ap (map (λ x. x.now)) c.deref.ensures.value ∙ pieces)) in
    found_fraction (λ f. number_fraction_of (fraction_of f)) _ v c.lowest_fraction.result numbers has c.lowest_fraction.ensures
