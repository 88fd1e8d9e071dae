use Rattle.lin_form.specs.ListOf.{list_of}
use Rattle.gosper_form.proofs.ProductSteps.{ProductReached}
use Rattle.gosper_form.proofs.form_products.product_of.Given as goal

-- the number and the list so far, with the forms that are left, are the whole product
abbrev pub invariant-loop-raised : goal.invariant-loop-raised
invariant-loop-raised l = ProductReached l.fn.number.value l.number.value (list_of l.list) l.forms l.raised-index
