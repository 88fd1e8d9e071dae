use Rattle.std.proofs.Common.{◌≡◌, List, ℕ, subst, ◌∙◌, Option, Bool, Bor}
use Rattle.std.specs.Option.{MatchOption}
use Rattle.exact_texts.specs.Sums.{IsMonomial}
use Rattle.spelled.specs.Monomials.{monomial_of}
use Rattle.spelled.proofs.SumSteps.{IsCut, body_is, sum_ended, sum_goes_on, one_more, has_more}
use Rattle.spelled.proofs.sums.read_signed.Goals as goal

-- a body that is no monomial
pub returns-in-None-clause-read : goal.returns-in-None-clause-read
returns-in-None-clause-read c = λ m ms p s e.
    let a = c.loop-monomials.invariant.read m ms p s e in
    let body = body_is _ _ _ _ c.cut_at_sign.result.0.now a c.cut_at_sign.ensures.body c.cut_at_sign.result.1 c.cut_at_sign.ensures.rest in
    subst (λ found. MatchOption found ⊥ (λ x. monomial_of x ≡ a.head)) c.in-None.is (c.in_ok-monomial.ensures.read a.head a.each.0 a.signed body)

-- one monomial more
pub loop-monomials-preserved : goal.loop-monomials-preserved
loop-monomials-preserved c =
    let items = c.loop-monomials.monomials.items in
    let x = c.in-Some.monomial in
    record {
      has = has_more items c.push.new.self.items x c.in_ok-push-in-Some.ensures.items c.loop-monomials.invariant.has
          (subst (λ found. MatchOption found (Unit {0}) (λ y. IsMonomial (monomial_of y))) c.in-Some.is c.in_ok-monomial.ensures.has);
      read = λ m ms p s e.
          let a = c.loop-monomials.invariant.read m ms p s e in
          let body = body_is _ _ _ _ c.cut_at_sign.result.0.now a c.cut_at_sign.ensures.body c.cut_at_sign.result.1 c.cut_at_sign.ensures.rest in
          let told = subst (λ found. MatchOption found ⊥ (λ y. monomial_of y ≡ a.head)) c.in-Some.is
          (c.in_ok-monomial.ensures.read a.head a.each.0 a.signed body) in
          sum_goes_on _ _ _ _ c.cut_at_sign.result.0.now a c.cut_at_sign.ensures.body c.in-Some-more.next_negative c.in-Some-more.behind_sign _
          (subst (λ (r : Option (Bool × Bor (List ℕ))). IsCut c.loop-monomials.rest.now c.cut_at_sign.result.0.now r) c.in-Some-more.is
          c.cut_at_sign.ensures.rest)
          (one_more items c.push.new.self.items x a.head c.in_ok-push-in-Some.ensures.items told);
    }

-- the last monomial
pub returns-in-None-more-clause-read : goal.returns-in-None-more-clause-read
returns-in-None-more-clause-read c = λ m ms p s e.
    let items = c.loop-monomials.monomials.items in
    let x = c.in-Some.monomial in
    let a = c.loop-monomials.invariant.read m ms p s e in
    let body = body_is _ _ _ _ c.cut_at_sign.result.0.now a c.cut_at_sign.ensures.body c.cut_at_sign.result.1 c.cut_at_sign.ensures.rest in
    let told = subst (λ found. MatchOption found ⊥ (λ y. monomial_of y ≡ a.head)) c.in-Some.is
    (c.in_ok-monomial.ensures.read a.head a.each.0 a.signed body) in
    one_more items c.push.new.self.items x a.head c.in_ok-push-in-Some.ensures.items told
    ∙ sum_ended _ _ _ _ c.cut_at_sign.result.0.now a c.cut_at_sign.ensures.body
    (subst (λ (r : Option (Bool × Bor (List ℕ))). IsCut c.loop-monomials.rest.now c.cut_at_sign.result.0.now r) c.in-None-more.is
    c.cut_at_sign.ensures.rest)
