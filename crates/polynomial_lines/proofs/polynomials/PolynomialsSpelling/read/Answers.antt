use Rattle.std.proofs.Common.{◌≡◌, map, ap, subst, ◌∙◌}
use Rattle.std.specs.Option.{MatchOption}
use Rattle.hypergeometric.specs.TermFacts.{IsPolynomial}
use Rattle.polynomial_sums.specs.PolynomialSums.{monomials_of}
use Rattle.polynomial_sums.proofs.Bounds.{monomials_within}
use Rattle.spelled.specs.Monomials.{monomial_of}
use Rattle.polynomial_lines.specs.Letters.{letter_of, letters_of}
use Rattle.polynomial_lines.proofs.SpellingSteps.{one, one_free, all_read}
use Rattle.polynomial_lines.proofs.polynomials.PolynomialsSpelling.read.Goals as goal

pub returns-in-Some-clause-read : goal.returns-in-Some-clause-read
returns-in-Some-clause-read g c = λ v has e.
    let letters = letters_of c.args.self.now.letters in
    let told = subst (λ found. MatchOption found ⊥ (λ x. map monomial_of x.items ≡ monomials_of letters v)) c.in-Some.is
    (c.in_ok-monomials.ensures.read (monomials_of letters v) (monomials_within letters v has.fits) e) in
    c.from_monomials.ensures.read one v (subst (λ n. IsPolynomial n v) c.args.self.now.one_each has) (one_free (map letter_of c.each.result.now))
    (all_read letters (map letter_of c.each.result.now) v _ c.each.ensures.letters (ap (map monomial_of) c.deref.ensures.value ∙ told))

-- no monomials
pub returns-in-None-clause-read : goal.returns-in-None-clause-read
returns-in-None-clause-read g c = λ v has e.
    let letters = letters_of c.args.self.now.letters in
    subst (λ found. MatchOption found ⊥ (λ x. map monomial_of x.items ≡ monomials_of letters v)) c.in-None.is
    (c.in_ok-monomials.ensures.read (monomials_of letters v) (monomials_within letters v has.fits) e)
