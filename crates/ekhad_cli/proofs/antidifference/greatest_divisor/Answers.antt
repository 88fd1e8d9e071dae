use Rattle.std.proofs.Common.{ℕ, ◌≡◌, ◌↔◌, take, subst, arith}
use Rattle.std.proofs.lemmas.Int.{ints, to_z-of_z}
use Rattle.std.proofs.lemmas.Grind.{common_steps}
use Rattle.std.specs.Prelude.{ℤ, List}
use Rattle.std.specs.Int.{◌∣◌}
use Rattle.ekhad_cli.specs.Antidifference.{DividesAll}
use Rattle.ekhad_cli.proofs.Divisors.{common_more}
use Rattle.ekhad_cli.proofs.antidifference.greatest_divisor.Goals as goal

-- one number more
pub loop-number-preserved : goal.loop-number-preserved
loop-number-preserved c =
    common_more c.loop-number.divisor c.from.result c.gcd_whole-divisor.result c.loop-number.number-index c.args.numbers.now c.loop-number-test.true
    (grind (arith, ints, to_z-of_z, c.from.ensures, c.unsigned_abs.ensures.value)) c.gcd_whole-divisor.ensures.greatest c.loop-number.invariant

-- all numbers are taken
pub returns : goal.returns
returns c =
    let all : take c.loop-number.number-index c.args.numbers.now ≡ c.args.numbers.now = grind (arith, common_steps) in
    subst (λ (zs : List ℤ). (d : ℕ) → (d ∣ c.loop-number.divisor) ↔ ((d ∣ 60) × DividesAll d zs)) all c.loop-number.invariant
