use Rattle.std.proofs.Common.{◌≡◌, ◌+◌, set, get_or, arith, ap, subst, sym, ◌∙◌, to_z, of_z, w64, refl}
use Rattle.std.specs.Prelude.{ℤ, pos, unsigned_abs, ◌*ℤ◌}
use Rattle.std.specs.Int.{◌∣◌}
use Rattle.ekhad_cli.proofs.Signed.{held}
use Rattle.ekhad_cli.proofs.Quotients.{IsDividedTo, one_more, all_divided}
use Rattle.ekhad_cli.proofs.antidifference.divide_all.Goals as goal

-- nothing is divided yet
pub loop-number-init : goal.loop-number-init
loop-number-init c = record { as_many = refl; done = λ j h. absurd (omega (arith, h)); to_do = λ j h. refl }

pub quotient-requires-clause-positive : goal.quotient-requires-clause-positive
quotient-requires-clause-positive c = rw (held c.args.divisor (omega (arith, c.requires.few))) c.requires.positive

-- the next number is as it was
pub quotient-requires-clause-divides : goal.quotient-requires-clause-divides
quotient-requires-clause-divides c =
    let i = c.loop-number.number-index in
    let old = get_or c.args.numbers.now i (pos 0) in
    let next : to_z w64 (of_z w64 (get_or c.loop-number.numbers i (pos 0))) ≡ old =
    ap (λ z. to_z w64 (of_z w64 z)) (c.loop-number.invariant.to_do i (omega arith)) ∙ held old (c.requires.small i (pos 0) c.loop-number-test.true) in
    subst (λ (g : ℤ). unsigned_abs g ∣ unsigned_abs (to_z w64 (of_z w64 (get_or c.loop-number.numbers i (pos 0)))))
    (sym (held c.args.divisor (omega (arith, c.requires.few))))
    (subst (λ (z : ℤ). unsigned_abs c.args.divisor ∣ unsigned_abs z) (sym next) (c.requires.divides i (pos 0) c.loop-number-test.true))

-- one number more
pub loop-number-preserved : goal.loop-number-preserved
loop-number-preserved c =
    let i = c.loop-number.number-index in
    let old = get_or c.args.numbers.now i (pos 0) in
    let small = c.requires.small i (pos 0) c.loop-number-test.true in
    let next : to_z w64 (of_z w64 (get_or c.loop-number.numbers i (pos 0))) ≡ old =
    ap (λ z. to_z w64 (of_z w64 z)) (c.loop-number.invariant.to_do i (omega arith)) ∙ held old small in
    let divisor = held c.args.divisor (omega (arith, c.requires.few)) in
    let written = held c.quotient.result (omega (arith, small, c.quotient.ensures.small, ap unsigned_abs next)) in
    subst (λ (g : ℤ). IsDividedTo g c.args.numbers.now (set c.loop-number.numbers i (to_z w64 (of_z w64 c.quotient.result))) (i + 1)) (sym divisor)
    (one_more c.args.divisor c.args.numbers.now c.loop-number.numbers i _ c.loop-number-test.true
    (subst (λ (g : ℤ). IsDividedTo g c.args.numbers.now c.loop-number.numbers i) divisor c.loop-number.invariant)
    (ap (λ z. z *ℤ c.args.divisor) written ∙ ap (λ z. c.quotient.result *ℤ z) (sym divisor) ∙ c.quotient.ensures.exact ∙ next))

pub returns : goal.returns
returns c =
    all_divided c.args.divisor c.args.numbers.now c.loop-number.numbers c.loop-number.number-index c.loop-number-test.false
    (subst (λ (g : ℤ). IsDividedTo g c.args.numbers.now c.loop-number.numbers c.loop-number.number-index) (held c.args.divisor (omega (arith, c.requires.few)))
    c.loop-number.invariant)
