use Rattle.cert_text.proofs.TrimmedCoefficients.{list_bounded}
use Rattle.cert_text.proofs.fields.polynomial_of_field.Goals as goal

-- a polynomial that is there is within bounds
pub returns-in-Some-clause-bounded : goal.returns-in-Some-clause-bounded
returns-in-Some-clause-bounded c = list_bounded c.in-Some.poly.list.items c.in-Some.poly.ended c.in-Some.poly.short
