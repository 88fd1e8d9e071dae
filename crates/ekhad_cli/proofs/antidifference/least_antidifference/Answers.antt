use Rattle.std.proofs.Common.{rules, ◌≡◌, ◌<◌, length, arith, ap, subst, sym, ◌∙◌, to_z, of_z, w64}
use Rattle.std.proofs.lemmas.Nat.Gcd.{dvd_refl}
use Rattle.std.specs.Prelude.{ℤ, unsigned_abs, ◌*ℤ◌}
use Rattle.std.specs.Int.{◌∣◌}
use Rattle.ekhad_cli.specs.Antidifference.{DividesAll, AreQuotients, IsLeastAntidifference}
use Rattle.ekhad_cli.proofs.Signed.{held}
use Rattle.ekhad_cli.proofs.Quotients.{quotients_small}
use Rattle.ekhad_cli.proofs.Antidifferences.{least}
use Rattle.ekhad_cli.proofs.antidifference.least_antidifference.Goals as goal

-- the greatest common divisor divides itself, and so all
pub divide_all-requires-clause-divides : goal.divide_all-requires-clause-divides
divide_all-requires-clause-divides c =
    let g = c.common_divisor-divisor.result in
    subst (λ (z : ℤ). DividesAll (unsigned_abs z) c.sixty_fold-coefficients.result) (sym (held g (omega (arith, c.common_divisor-divisor.ensures.few))))
    ((c.common_divisor-divisor.ensures.greatest (unsigned_abs g)).0 (dvd_refl (unsigned_abs g))).1

pub quotient-requires-clause-divides : goal.quotient-requires-clause-divides
quotient-requires-clause-divides c =
    let g = c.common_divisor-divisor.result in
    subst (λ (z : ℤ). unsigned_abs z ∣ 60) (sym (held g (omega (arith, c.common_divisor-divisor.ensures.few))))
    ((c.common_divisor-divisor.ensures.greatest (unsigned_abs g)).0 (dvd_refl (unsigned_abs g))).0

-- the quotients by the greatest common divisor
pub returns : goal.returns
returns c =
    let g = c.common_divisor-divisor.result in
    let numbers = c.sixty_fold-coefficients.result in
    let quotients = c.divide_all.new.numbers in
    let a = c.quotient.result in
    let same : to_z w64 (of_z w64 g) ≡ g = held g (omega (arith, c.common_divisor-divisor.ensures.few)) in
    let written : to_z w64 (of_z w64 a) ≡ a = held a (omega (arith, c.quotient.ensures.small)) in
    let some : 0 < length numbers = search rules in
    let divided : AreQuotients g numbers quotients = subst (λ (z : ℤ). AreQuotients z numbers quotients) same c.divide_all.ensures in
    record {
      least = subst (λ (z : ℤ). IsLeastAntidifference c.args.c.now z quotients) (sym written)
          (least c.args.c.now numbers quotients g a c.common_divisor-divisor.ensures.positive c.common_divisor-divisor.ensures.greatest
          c.sixty_fold-coefficients.ensures.difference some c.sixty_fold-coefficients.ensures.no_constant
          (ap (λ z. a *ℤ z) (sym same) ∙ c.quotient.ensures.exact) divided);
      few = omega (arith, ap unsigned_abs written, c.quotient.ensures.small);
      small = quotients_small g numbers quotients c.common_divisor-divisor.ensures.positive divided c.sixty_fold-coefficients.ensures.small;
    }
