use Rattle.std.proofs.Common.{◌≡◌, ℕ, arith, subst, ◌↔◌, to_z, w64}
use Rattle.std.proofs.lemmas.Int.{ints}
use Rattle.std.specs.Prelude.{unsigned_abs}
use Rattle.std.specs.Int.{◌∣◌}
use Rattle.ekhad_cli.specs.Antidifference.{DividesAll}
use Rattle.ekhad_cli.proofs.Antidifferences.{divisor_at_most_60}
use Rattle.ekhad_cli.proofs.antidifference.common_divisor.Goals as goal

-- it is at most 60
pub overflow_cast-result : goal.overflow_cast-result
overflow_cast-result c =
    let most = divisor_at_most_60 c.greatest_divisor.result c.args.numbers.now c.greatest_divisor.ensures in
    grind (arith, ints, most)

pub returns-clause-positive : goal.returns-clause-positive
returns-clause-positive c =
    let most = divisor_at_most_60 c.greatest_divisor.result c.args.numbers.now c.greatest_divisor.ensures in
    grind (arith, ints, most)

-- the cast keeps the number
pub returns-clause-greatest : goal.returns-clause-greatest
returns-clause-greatest c =
    let most = divisor_at_most_60 c.greatest_divisor.result c.args.numbers.now c.greatest_divisor.ensures in
    let same : c.greatest_divisor.result ≡ unsigned_abs (to_z w64 c.greatest_divisor.result) = grind (arith, ints, most) in
    subst (λ (g : ℕ). (d : ℕ) → (d ∣ g) ↔ ((d ∣ 60) × DividesAll d c.args.numbers.now)) same c.greatest_divisor.ensures

pub returns-clause-few : goal.returns-clause-few
returns-clause-few c =
    let most = divisor_at_most_60 c.greatest_divisor.result c.args.numbers.now c.greatest_divisor.ensures in
    grind (arith, ints, most)
