use Rattle.std.proofs.Common.{subst, w64, to_z, of_z}
use Rattle.std.proofs.lemmas.Int.{to_z-of_z}
use Rattle.std.specs.Prelude.{ℤ, IfErr}
use Rattle.ring_laws.specs.Answer.{OnFault}
use Rattle.hypergeometric.specs.Point.{point}
use Rattle.lin_form.proofs.ListProducts.{fault_list}
use Rattle.proper_term.specs.TermOf.{term_of}
use Rattle.proper_term.specs.ValueBounds.{ValueInBounds}
use Rattle.proper_term.proofs.values.value.Goals as goal

-- the point is (n, k)
pub returns-in_err-value-clause-too_large : goal.returns-in_err-value-clause-too_large
returns-in_err-value-clause-too_large c =
    subst (λ (n : ℤ). IfErr c.from_residual.result (OnFault (¬ ValueInBounds (term_of c.args.term.now) (point n c.args.k))))
    (to_z-of_z w64 c.args.n c.ranges.n)
    (subst (λ (k : ℤ). IfErr c.from_residual.result (OnFault (¬ ValueInBounds (term_of c.args.term.now) (point (to_z w64 (of_z w64 c.args.n)) k))))
    (to_z-of_z w64 c.args.k c.ranges.k)
    (fault_list _ c.from_residual.result c.in_err-value.field-0.0 c.from_residual.ensures.1 c.in_err-value.ensures.too_large))
