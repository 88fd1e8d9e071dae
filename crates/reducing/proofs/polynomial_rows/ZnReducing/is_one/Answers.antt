use Rattle.std.proofs.Common.{length}
use Rattle.std.proofs.lemmas.Bool.{eqb-true}
use Rattle.reducing.proofs.Leads.{one_number}
use Rattle.reducing.proofs.polynomial_rows.ZnReducing.is_one.Goals as goal

-- the one has one number
pub returns-else-list-eq1 : goal.returns-else-list-eq1
returns-else-list-eq1 c = record {
  test = (
    λ t. absurd (c.if-list-eq1.false (eqb-true (length c.coefficients-list.result.now) 1 t)),
    λ e. absurd (c.if-list-eq1.false (one_number c.coefficients-list.result.now _ c.coefficients-list.ensures.coefficients e)),
  );
}
