use Rattle.std.proofs.Common.{rules, ◌≡◌, map, length, arith, subst, ◌∙◌}
use Rattle.std.specs.Option.{MatchOption}
use Rattle.std.proofs.lemmas.List.{length-map}
use Rattle.polynomial_sums.specs.PolynomialSums.{with_power}
use Rattle.spelled.specs.Monomials.{monomial_of}
use Rattle.polynomial_lines.specs.Letters.{letter_of}
use Rattle.polynomial_lines.proofs.ReadSteps.{read_all, read_next, none_there, some_there, one_read, one_longer}
use Rattle.polynomial_lines.proofs.polys.read_falling.Goals as goal

-- each list of last monomials is that of a coefficient
pub returns-in-None : goal.returns-in-None
returns-in-None g c = record {
  read = λ powers cs are short free e.
      let l = letter_of c.args.letter in
      let ls = map letter_of c.args.inner.now in
      let coefficients = c.loop-rest.coefficients.items in
      let counted : length coefficients ≡ c.len-in-loop-rest.result = search rules in
      let a = c.loop-rest.invariant.read powers cs are short free e in
      let n = read_next l ls c.requires.distinct powers free cs _ _ _ (length-map c.args.inner.now letter_of ∙ c.requires.one_each) a
      c.len-in-loop-rest.result (length-map coefficients g.R.Ring.meaning ∙ counted)
      (some_there monomial_of c.loop-rest.rest.now (λ z. grind (arith, z, c.is_empty.ensures, c.loop-rest-test.true))) in
      let cut = c.cut_at_power.ensures.cut n.front n.last n.greater n.equal n.parts in
      subst (λ found. MatchOption found ⊥ (λ x. g.R.Ring.meaning x ≡ n.next)) c.in-None.is
      (c.in_ok-coefficient.ensures.read (with_power l c.len-in-loop-rest.result powers) n.next n.polynomial n.free (cut.1 ∙ n.spelled));
}

pub loop-rest-preserved : goal.loop-rest-preserved
loop-rest-preserved g c = record {
  short = one_longer c.loop-rest.coefficients.items _ _ c.in_ok-push-in-Some.ensures.items c.loop-rest.invariant.short
      (λ e. grind (arith, e, c.len.ensures, c.if-len-eq-MAX_LENGTH.false));
  read = λ powers cs are short free e.
      let l = letter_of c.args.letter in
      let ls = map letter_of c.args.inner.now in
      let coefficients = c.loop-rest.coefficients.items in
      let counted : length coefficients ≡ c.len-in-loop-rest.result = search rules in
      let a = c.loop-rest.invariant.read powers cs are short free e in
      let n = read_next l ls c.requires.distinct powers free cs _ _ _ (length-map c.args.inner.now letter_of ∙ c.requires.one_each) a
      c.len-in-loop-rest.result (length-map coefficients g.R.Ring.meaning ∙ counted)
      (some_there monomial_of c.loop-rest.rest.now (λ z. grind (arith, z, c.is_empty.ensures, c.loop-rest-test.true))) in
      let cut = c.cut_at_power.ensures.cut n.front n.last n.greater n.equal n.parts in
      let told = subst (λ found. MatchOption found ⊥ (λ x. g.R.Ring.meaning x ≡ n.next)) c.in-Some.is
      (c.in_ok-coefficient.ensures.read (with_power l c.len-in-loop-rest.result powers) n.next n.polynomial n.free (cut.1 ∙ n.spelled)) in
      one_read g.R.Ring.meaning l ls _ _ powers cs coefficients _ _ _ _ n c.in_ok-push-in-Some.ensures.items told cut.0;
}

-- no monomials are left
pub returns : goal.returns
returns g c = record {
  read = λ powers cs are short free e.
      read_all (letter_of c.args.letter) (map letter_of c.args.inner.now) c.requires.distinct powers free cs _ _ _
      (length-map c.args.inner.now letter_of ∙ c.requires.one_each)
      (c.loop-rest.invariant.read powers cs are short free e)
      (none_there monomial_of c.loop-rest.rest.now (grind (arith, c.is_empty.ensures, c.loop-rest-test.false)));
}
