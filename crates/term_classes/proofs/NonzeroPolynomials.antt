-- The polynomial that a walk over a tree gathers belongs to the polynomials, and isn't 0.
use Rattle.std.proofs.Common.{◌≢◌}
use Rattle.poly_laws.specs.TwoVariables.{in_n_and_k, poly_power}
use Rattle.hypergeometric.specs.ProperTerm.{ProperTerm}
use Rattle.term_classes.proofs.PassingPolynomials.{Belongs, power_belongs, product_belongs, product_not_nought, power_not_nought}
use Rattle.term_classes.proofs.VaryingForms.{varying_not_nought}
use Rattle.term_classes.proofs.RowFacts.{RowsKeep}

pub record HasPolynomial (s : ProperTerm) : Type 0 where
  pub belongs : Belongs s.poly
  pub not_zero : s.poly ≢ in_n_and_k.nought

pub polynomials_keep : RowsKeep HasPolynomial
polynomials_keep = record {
  scale = λ s g w h n. record { belongs = h.belongs; not_zero = h.not_zero };
  n_base = λ s g w h n. record { belongs = h.belongs; not_zero = h.not_zero };
  k_base = λ s g w h n. record { belongs = h.belongs; not_zero = h.not_zero };
  poly = λ s q w h v. record {
    belongs = product_belongs s.poly (poly_power q w) h.belongs (power_belongs q w v.belongs);
    not_zero = product_not_nought s.poly (poly_power q w) h.belongs (power_belongs q w v.belongs) h.not_zero
        (power_not_nought q w v.belongs (varying_not_nought q v));
  };
  up = λ s l w h limits some few. record { belongs = h.belongs; not_zero = h.not_zero };
  down = λ s l w h limits some few. record { belongs = h.belongs; not_zero = h.not_zero };
  over = λ s q l w h v form limits some few. record { belongs = h.belongs; not_zero = h.not_zero };
}
