use Rattle.std.proofs.Common.{◌↔◌}
use Rattle.std.specs.List.{AllByRecursion}
use Rattle.hypergeometric.specs.FormOrder.{IsPrimitive}
use Rattle.hypergeometric.specs.TermFacts.{IsNotConstant}
use Rattle.lin_form.specs.ListOf.{list_of}
use Rattle.proper_term.proofs.facts.are_divisors.Given as goal

-- the whole list is right, where what is left is
abbrev pub invariant-loop-form : goal.invariant-loop-form
invariant-loop-form l =
    AllByRecursion (λ x. IsPrimitive x.form × IsNotConstant x.form) l.form-iterator
    ↔ AllByRecursion (λ x. IsPrimitive x.form × IsNotConstant x.form) (list_of l.list).factors
