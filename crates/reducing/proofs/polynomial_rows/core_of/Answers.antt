use Rattle.std.proofs.Common.{subst, arith}
use Rattle.reducing.specs.PolynomialRows.{PolynomialsReduced}
use Rattle.reducing.proofs.Polynomials.{sense, senses}
use Rattle.reducing.proofs.Cores.{alone, one_left, gives_core}
use Rattle.reducing.proofs.polynomial_rows.core_of.Goals as goal

pub remove-requires : goal.remove-requires
remove-requires c =
    let x = sense c.args.f.now in
    let single = alone x c.push.new.self.items c.new-row.result.items c.in_ok-copy.copy c.in_ok-push.ensures.items c.new-row.ensures.items
    c.in_ok-copy.ensures.gives in
    let one = one_left x c.in_ok-row.row.items
    (subst (λ ms. PolynomialsReduced ms (senses c.in_ok-row.row.items)) single c.in_ok-row.ensures.reduces) in
    omega (arith, one)

pub returns : goal.returns
returns c =
    let x = sense c.args.f.now in
    let single = alone x c.push.new.self.items c.new-row.result.items c.in_ok-copy.copy c.in_ok-push.ensures.items c.new-row.ensures.items
    c.in_ok-copy.ensures.gives in
    record {
      core =
          gives_core x c.in_ok-row.row.items c.remove.result c.with_positive_lead.result
          (subst (λ ms. PolynomialsReduced ms (senses c.in_ok-row.row.items)) single c.in_ok-row.ensures.reduces) c.remove.ensures.value
          c.requires.not_zero c.with_positive_lead.ensures.lead c.with_positive_lead.ensures.memory;
    }
