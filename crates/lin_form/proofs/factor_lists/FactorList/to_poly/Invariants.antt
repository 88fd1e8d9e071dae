use Rattle.ring_laws.specs.Meaning.{number, listed}
use Rattle.lin_form.specs.ListOf.{list_of}
use Rattle.lin_form.proofs.Items.{each_of}
use Rattle.lin_form.proofs.ListProducts.{ListReached}
use Rattle.lin_form.proofs.factor_lists.FactorList.to_poly.Given as goal

-- the product of the forms so far times those that are left is the whole
abbrev pub invariant-loop-form : goal.invariant-loop-form
invariant-loop-form l =
    ListReached (list_of l.self)
    (listed (each_of l.product.list.items (λ coefficient. listed (each_of coefficient.list.items (λ whole. number whole.value))))) l.form-iterator
