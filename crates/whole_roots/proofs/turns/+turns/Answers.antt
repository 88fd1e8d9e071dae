use Rattle.std.proofs.Common.{map, sym, subst, arith}
use Rattle.ring_laws.specs.Meaning.{number, listed}
use Rattle.ring_laws.specs.declared.wholes.Whole.{Whole}
use Rattle.whole_roots.specs.Signs.{value}
use Rattle.whole_roots.specs.Differences.{DifferencesInBounds}
use Rattle.whole_roots.specs.Turns.{greatest, least, IsTurn, AreAll}
use Rattle.whole_roots.proofs.Faults.{fault_out}
use Rattle.whole_roots.proofs.Values.{count_is, constant_turns, differences_behind}
use Rattle.whole_roots.proofs.turns.+turns.Goals as goal

-- a constant has no turn
pub returns-then-coefficients-lt2-clause-turns : goal.returns-then-coefficients-lt2-clause-turns
returns-then-coefficients-lt2-clause-turns t c =
    let m = listed (map (λ (w : Whole). number w.value) c.args.f.now.list.items) in
    subst (λ xs. AreAll (IsTurn (value m)) least greatest xs) (sym c.new.ensures.items)
    (λ z _ _. constant_turns m c.coefficients.result.now c.coefficients.ensures.coefficients c.if-coefficients-lt2.true z)

-- the first difference
pub returns-in_err-difference-clause-too_large : goal.returns-in_err-difference-clause-too_large
returns-in_err-difference-clause-too_large t c =
    let m = listed (map (λ (w : Whole). number w.value) c.args.f.now.list.items) in
    let count = count_is m c.coefficients.result.now c.coefficients.ensures.coefficients in
    fault_out c.from_residual.result c.in_err-difference.field-0.0 c.from_residual.ensures.1
    (λ (h : DifferencesInBounds m). h 0 (omega (arith, count, c.if-coefficients-lt2.false))) c.in_err-difference.ensures.too_large

pub turns-requires : goal.turns-requires
turns-requires t c =
    let m = listed (map (λ (w : Whole). number w.value) c.args.f.now.list.items) in
    let count = count_is m c.coefficients.result.now c.coefficients.ensures.coefficients in
    let below = c.in_ok-difference.ensures.shorter (omega (arith, count, c.if-coefficients-lt2.false)) in
    (omega (arith, c.decreases, below), tt)

-- the differences of the difference
pub returns-in_err-cuts-clause-too_large : goal.returns-in_err-cuts-clause-too_large
returns-in_err-cuts-clause-too_large t c =
    let m = listed (map (λ (w : Whole). number w.value) c.args.f.now.list.items) in
    let d = listed (map (λ (w : Whole). number w.value) c.in_ok-difference.difference.list.items) in
    let count = count_is m c.coefficients.result.now c.coefficients.ensures.coefficients in
    let below = c.in_ok-difference.ensures.shorter (omega (arith, count, c.if-coefficients-lt2.false)) in
    fault_out c.from_residual-in_err-cuts.result c.in_err-cuts.field-0.0 c.from_residual-in_err-cuts.ensures.1
    (λ (h : DifferencesInBounds m). differences_behind m d c.in_ok-difference.ensures.gives below h) c.in_err-cuts.ensures.too_large
