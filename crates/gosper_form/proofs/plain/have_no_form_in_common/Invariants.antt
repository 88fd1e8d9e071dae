use Rattle.std.proofs.Common.{◌↔◌}
use Rattle.std.specs.List.{AllByRecursion}
use Rattle.hypergeometric.proofs.SharedForms.{IsAbsent}
use Rattle.lin_form.specs.ListOf.{list_of}
use Rattle.gosper_form.proofs.plain.have_no_form_in_common.Given as goal

-- no form of the list stands in the other, where none of those that are left does
abbrev pub invariant-loop-form : goal.invariant-loop-form
invariant-loop-form l = AllByRecursion (λ x. IsAbsent x.form (list_of l.other).factors) l.form-iterator
    ↔ AllByRecursion (λ x. IsAbsent x.form (list_of l.other).factors) (list_of l.list).factors
