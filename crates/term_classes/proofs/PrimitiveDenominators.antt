-- The denominators that a walk over a tree gathers are primitive forms, and none is constant.
use Rattle.std.specs.List.{AllByRecursion}
use Rattle.hypergeometric.specs.FormOrder.{IsPrimitive}
use Rattle.hypergeometric.specs.ProperTerm.{ProperTerm}
use Rattle.hypergeometric.specs.TermFacts.{IsNotConstant}
use Rattle.hypergeometric.specs.PrimitiveForm.{primitive_form}
use Rattle.hypergeometric.proofs.PrimitiveParts.{primitive_is, primitive_not_constant}
use Rattle.term_classes.proofs.VaryingForms.{varying_not_constant, varying_not_zero}
use Rattle.term_classes.proofs.GatheredLists.{all_with}
use Rattle.term_classes.proofs.RowFacts.{RowsKeep}

pub record HasPrimitive (s : ProperTerm) : Type 0 where
  pub over : AllByRecursion (λ x. IsPrimitive x.form × IsNotConstant x.form) s.over

pub denominators_keep : RowsKeep HasPrimitive
denominators_keep = record {
  scale = λ s g w h n. record { over = h.over };
  n_base = λ s g w h n. record { over = h.over };
  k_base = λ s g w h n. record { over = h.over };
  poly = λ s q w h v. record { over = h.over };
  up = λ s l w h limits some few. record { over = h.over };
  down = λ s l w h limits some few. record { over = h.over };
  over = λ s q l w h v form limits some few. record {
    over = all_with (λ f. IsPrimitive f × IsNotConstant f) (primitive_form l) w s.over
        (primitive_is l (varying_not_zero q l v form), primitive_not_constant l (varying_not_constant q l v form)) h.over;
  };
}
