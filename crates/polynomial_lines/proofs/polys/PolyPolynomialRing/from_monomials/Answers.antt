use Rattle.std.proofs.Common.{◌≡◌, map, ap, subst, ◌∙◌}
use Rattle.std.specs.Option.{MatchOption}
use Rattle.ring_laws.specs.Meaning.{items}
use Rattle.ring_laws.specs.Answer.{OnFault}
use Rattle.spelled.specs.Monomials.{monomial_of}
use Rattle.polynomial_lines.specs.Letters.{letter_of}
use Rattle.polynomial_lines.proofs.WholePolynomials.{of_coefficients, made, short}
use Rattle.polynomial_lines.proofs.polys.PolyPolynomialRing.from_monomials.Goals as goal

-- no coefficients
pub returns-in_default-2 : goal.returns-in_default-2
returns-in_default-2 g c = record {
  read = λ powers p has free e.
      subst (λ found. MatchOption found ⊥ (λ list. map g.R.Ring.meaning list.items ≡ items p)) c.in_default-2.is
      (of_coefficients g.R.PolynomialRing.levels (letter_of c.in-Some.letter.now) (map letter_of c.in-Some.inner.now)
      (map letter_of c.args.letters.now) (map monomial_of c.args.monomials.now)
      (λ cs. MatchOption c.in_ok-coefficients.field-0 ⊥ (λ list. map g.R.Ring.meaning list.items ≡ cs))
      (ap (map letter_of) c.in-Some.ensures.cases.0) c.in_ok-coefficients.ensures.read powers p has free e);
}

pub returns-in-Ok : goal.returns-in-Ok
returns-in-Ok g c = record {
  read = λ powers p has free e.
      let told = subst (λ found. MatchOption found ⊥ (λ list. map g.R.Ring.meaning list.items ≡ items p)) c.in-Some-2.is
      (of_coefficients g.R.PolynomialRing.levels (letter_of c.in-Some.letter.now) (map letter_of c.in-Some.inner.now)
      (map letter_of c.args.letters.now) (map monomial_of c.args.monomials.now)
      (λ cs. MatchOption c.in_ok-coefficients.field-0 ⊥ (λ list. map g.R.Ring.meaning list.items ≡ cs))
      (ap (map letter_of) c.in-Some.ensures.cases.0) c.in_ok-coefficients.ensures.read powers p has free e) in
      c.in-Ok.ensures.gives.1 ∙ made g.R.PolynomialRing.levels g.R.Ring.algebra g.met.R.PolynomialRing.has_letters p has _ told;
}

-- there are not too many coefficients
pub returns-in-Err-TooLarge : goal.returns-in-Err-TooLarge
returns-in-Err-TooLarge g c = record {
  read = λ powers p has free e.
      let told = subst (λ found. MatchOption found ⊥ (λ list. map g.R.Ring.meaning list.items ≡ items p)) c.in-Some-2.is
      (of_coefficients g.R.PolynomialRing.levels (letter_of c.in-Some.letter.now) (map letter_of c.in-Some.inner.now)
      (map letter_of c.args.letters.now) (map monomial_of c.args.monomials.now)
      (λ cs. MatchOption c.in_ok-coefficients.field-0 ⊥ (λ list. map g.R.Ring.meaning list.items ≡ cs))
      (ap (map letter_of) c.in-Some.ensures.cases.0) c.in_ok-coefficients.ensures.read powers p has free e) in
      subst (OnFault _) c.in-Err-TooLarge.field-0-is c.in-Err-TooLarge.ensures.gives
      (short g.R.PolynomialRing.levels g.R.Ring.algebra g.met.R.PolynomialRing.has_letters p has _ told);
}
