use Rattle.std.proofs.Common.{◌<◌, ◌^◌, ◌*ℤ◌, pos, unsigned_abs, ap, sym, ◌∙◌, subst, ℤ, ◌*◌, arith}
use Rattle.ring_laws.specs.Wholes.{number_of}
use Rattle.whole_roots.proofs.Faults.{fault_out}
use Rattle.whole_roots.proofs.Stretching.{one_more_power, too_large_later}
use Rattle.whole_roots.proofs.factors.times_power.Goals as goal

-- the powers that are left only make it larger
pub returns-in_err-product-clause-too_large : goal.returns-in_err-product-clause-too_large
returns-in_err-product-clause-too_large c =
    fault_out c.from_residual.result c.in_err-product.field-0.0 c.from_residual.ensures.1
    (λ (h : unsigned_abs (c.args.number.value *ℤ pos (unsigned_abs c.args.slope.value ^ c.args.power)) < 2 ^ 127).
    subst (λ (z : ℤ). unsigned_abs z * unsigned_abs c.args.slope.value < 2 ^ 127) (sym c.loop-turn.invariant)
    (too_large_later c.args.number.value c.args.slope.value c.loop-turn._turn c.args.power c.requires.slope (omega (arith, c.loop-turn-test.true)) h))
    c.in_err-product.ensures.gives

-- one power more
pub loop-turn-preserved : goal.loop-turn-preserved
loop-turn-preserved c =
    ap number_of c.in_ok-product.ensures.gives.1
    ∙ ap (λ (z : ℤ). z *ℤ c.args.slope.value) c.loop-turn.invariant
    ∙ one_more_power c.args.number.value c.args.slope.value c.loop-turn._turn c.requires.slope
