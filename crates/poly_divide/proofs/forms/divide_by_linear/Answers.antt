use Rattle.std.specs.Prelude.{⊤}
use Rattle.std.proofs.Common.{◌≡◌, pos, map, arith}
use Rattle.std.proofs.lemmas.Int.{ints, to_z-of_z}
use Rattle.ring_laws.specs.Meaning.{Meaning, number, listed}
use Rattle.ring_laws.specs.Wholes.{whole_algebra}
use Rattle.poly_laws.specs.LongDivision.{DivisionInBounds}
use Rattle.poly_laws.specs.PolyAlgebra.{poly_algebra}
use Rattle.poly_generic.specs.declared.polys.Poly.{Poly}
use Rattle.poly_divide.proofs.FormMeanings.{linear_is, fault_by}
use Rattle.poly_divide.proofs.forms.divide_by_linear.Goals as goal

-- the division by the form is that by u*n + v
pub returns-in_err-quotient : goal.returns-in_err-quotient
returns-in_err-quotient c =
    let constant : c.in-Some.constant.value ≡ c.args.v = grind (arith, ints, to_z-of_z, c.in-Some.ensures.given) in
    let slope : c.in-Some-new.slope.value ≡ pos c.args.u = grind (arith, ints, to_z-of_z, c.in-Some-new.ensures.given, c.from.ensures) in
    record {
      divides =
          fault_by (λ (p : Poly _ _). listed (map (λ w. number w.value) p.list.items)) (poly_algebra whole_algebra)
          (DivisionInBounds whole_algebra (λ (x y : Meaning). ⊤)) (listed (map (λ w. number w.value) c.args.f.now.list.items))
          (listed (map (λ w. number w.value) c.in_ok-form.form.list.items)) _ c.from_residual-in_err-quotient.result c.in_err-quotient.field-0.0
          c.from_residual-in_err-quotient.ensures.1
          (linear_is _ c.in-Some.constant.value c.in-Some-new.slope.value
          (pos c.args.u) c.args.v c.in_ok-form.ensures constant slope) c.in_err-quotient.ensures.divides;
    }
