use Rattle.std.specs.Prelude.{◌≡◌, pos, map}
use Rattle.std.proofs.Common.{subst, arith}
use Rattle.std.proofs.lemmas.Int.{ints}
use Rattle.whole_roots.specs.Differences.{polynomials}
use Rattle.reducing.proofs.Polynomials.{sense, senses}
use Rattle.reducing.proofs.RowContents.{once}
use Rattle.reducing.proofs.row_contents.without_content.Goals as goal

-- the quotients by 1 are the row
pub returns-then-value-eq1-clause-quotients : goal.returns-then-value-eq1-clause-quotients
returns-then-value-eq1-clause-quotients c =
    let e : pos 1 ≡ c.args.content.value = omega (arith, ints, c.if-value-eq1.true, c.value.ensures.value, c.value.ensures.small) in
    subst (λ d. senses c.args.row.items ≡ map (λ f. polynomials.ops.product (sense f) (polynomials.ops.whole d)) c.args.row.items) e
    (once c.args.row.items)
