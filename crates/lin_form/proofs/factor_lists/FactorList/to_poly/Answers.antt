use Rattle.std.proofs.Common.{subst, sym, ◌∙◌}
use Rattle.hypergeometric.proofs.ListValues.{list_at}
use Rattle.lin_form.specs.ListOf.{list_of}
use Rattle.lin_form.proofs.ListProducts.{ListReached, list_start, list_step, list_fault, list_end, fault_list}
use Rattle.lin_form.proofs.factor_lists.FactorList.to_poly.Goals as goal

-- the scale times all forms is the whole
pub loop-form-init : goal.loop-form-init
loop-form-init c =
    subst (ListReached (list_of c.args.self.now) _) (sym (c.into_iter-form-iterator.ensures.into_iter_gives ∙ c.iter-form-items.ensures.items))
    (list_start (list_of c.args.self.now) _ c.in_ok-product.ensures.gives)

-- where a step is refused, the whole is out of bounds
pub returns-in_err-product-2-clause-too_large : goal.returns-in_err-product-2-clause-too_large
returns-in_err-product-2-clause-too_large c =
    fault_list _ c.from_residual-in_err-product-2.result c.in_err-product-2.field-0.0 c.from_residual-in_err-product-2.ensures.1
    (list_fault (list_of c.args.self.now) _ _ _ _ c.in-Some.ensures.steps c.loop-form.invariant c.in_err-product-2.field-0.0
    c.in_err-product-2.ensures.gives)

-- one more form
pub loop-form-preserved : goal.loop-form-preserved
loop-form-preserved c =
    list_step (list_of c.args.self.now) _ _ _ _ c.in-Some.ensures.steps c.loop-form.invariant _ c.in_ok-product-2.ensures.gives

pub returns-clause-polynomial : goal.returns-clause-polynomial
returns-clause-polynomial c = list_end (list_of c.args.self.now) _ _ c.in-None.ensures.steps.0 c.loop-form.invariant

-- the value of the polynomial is that of the list
pub returns-clause-value : goal.returns-clause-value
returns-clause-value c = list_at (list_of c.args.self.now) _ (list_end (list_of c.args.self.now) _ _ c.in-None.ensures.steps.0 c.loop-form.invariant)
