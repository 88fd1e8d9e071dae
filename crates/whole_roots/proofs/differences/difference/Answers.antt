use Rattle.std.proofs.Common.{◌<◌, ◌∙◌, length, ap, sym, subst}
use Rattle.ring_laws.specs.Meaning.{Meaning, items}
use Rattle.ring_laws.specs.Algebra.{Passing}
use Rattle.whole_roots.specs.Differences.{polynomials, DifferenceInBounds}
use Rattle.whole_roots.proofs.DifferenceBounds.{shift_in_bounds, subtraction_in_bounds}
use Rattle.whole_roots.proofs.DifferenceLaws.{polynomial_of, list_fits, shorter}
use Rattle.whole_roots.proofs.Faults.{fault_out}
use Rattle.whole_roots.proofs.differences.difference.Goals as goal

-- the shift
pub returns-in_err-next-clause-too_large : goal.returns-in_err-next-clause-too_large
returns-in_err-next-clause-too_large c =
    let list = c.args.f.now.list.items in
    let f : Passing polynomials = polynomial_of list c.args.f.now.ended in
    fault_out c.from_residual.result c.in_err-next.field-0.0 c.from_residual.ensures.1
    (λ (h : DifferenceInBounds f.0). shift_in_bounds f h) c.in_err-next.ensures.gives

-- the subtraction
pub returns-in_err-out-clause-too_large : goal.returns-in_err-out-clause-too_large
returns-in_err-out-clause-too_large c =
    let list = c.args.f.now.list.items in
    let next = c.in_ok-next.next.list.items in
    let f : Passing polynomials = polynomial_of list c.args.f.now.ended in
    let g : Passing polynomials = polynomial_of next c.in_ok-next.next.ended in
    fault_out c.from_residual-in_err-out.result c.in_err-out.field-0.0 c.from_residual-in_err-out.ensures.1
    (λ (h : DifferenceInBounds f.0). subtraction_in_bounds f h g c.in_ok-next.ensures.gives.1
    (list_fits next c.in_ok-next.next.short) (list_fits list c.args.f.now.short))
    c.in_err-out.ensures.gives

-- the greatest coefficients cancel
pub returns-clause-shorter : goal.returns-clause-shorter
returns-clause-shorter c h =
    let list = c.args.f.now.list.items in
    let f : Passing polynomials = polynomial_of list c.args.f.now.ended in
    subst (λ (m : Meaning). length (items m) < length (items f.0))
    (sym (c.in_ok-out.ensures.gives.1
    ∙ ap (λ (m : Meaning). polynomials.ops.sum m (polynomials.ops.neg f.0)) c.in_ok-next.ensures.gives.1)) (shorter f h)
