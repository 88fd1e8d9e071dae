use Rattle.std.specs.List.{AllByRecursion}
use Rattle.std.specs.Option.{MatchOption}
use Rattle.std.proofs.Common.{◌≡◌, sym, subst, true≢false}
use Rattle.hypergeometric.specs.FormOrder.{IsPrimitive, IsSorted}
use Rattle.lin_form.specs.ListOf.{list_of}
use Rattle.form_lines.proofs.PrimitiveSteps.{primitive_has}
use Rattle.form_lines.proofs.primitive_factors.PrimitiveFactorsSpelling.read.Goals as goal

-- no list
pub returns-in_default-clause-read : goal.returns-in_default-clause-read
returns-in_default-clause-read c = λ v has e.
    subst (λ found. MatchOption found ⊥ (λ x. list_of x ≡ v)) c.in_default.is
    (c.in_ok-list.ensures.read v (has.0, primitive_has v.factors has.1) e)

-- the forms are primitive
pub returns-then-not-are_primitive-clause-read : goal.returns-then-not-are_primitive-clause-read
returns-then-not-are_primitive-clause-read c = λ v has e.
    let told : list_of c.in-Some.list ≡ v = subst (λ found. MatchOption found ⊥ (λ x. list_of x ≡ v)) c.in-Some.is
    (c.in_ok-list.ensures.read v (has.0, primitive_has v.factors has.1) e) in
    true≢false (sym (c.if-not-are_primitive.ensures.test.1
    (subst (λ l. AllByRecursion (λ x. IsPrimitive x.form) l.factors) (sym told) has.1.primitive)))

-- and in order
pub returns-then-not-are_sorted-clause-read : goal.returns-then-not-are_sorted-clause-read
returns-then-not-are_sorted-clause-read c = λ v has e.
    let told : list_of c.in-Some.list ≡ v = subst (λ found. MatchOption found ⊥ (λ x. list_of x ≡ v)) c.in-Some.is
    (c.in_ok-list.ensures.read v (has.0, primitive_has v.factors has.1) e) in
    true≢false (sym (c.if-not-are_sorted.ensures.test.1 (subst (λ l. IsSorted l.factors) (sym told) has.1.sorted)))

-- the list
pub returns-clause-read : goal.returns-clause-read
returns-clause-read c = λ v has e.
    subst (λ found. MatchOption found ⊥ (λ x. list_of x ≡ v)) c.in-Some.is (c.in_ok-list.ensures.read v (has.0, primitive_has v.factors has.1) e)
