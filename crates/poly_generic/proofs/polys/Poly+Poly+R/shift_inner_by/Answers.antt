use Rattle.std.proofs.Common.{◌≡◌, map, ap, arith, ◌∙◌, subst}
use Rattle.std.proofs.lemmas.Int.{ints, to_z-of_z}
use Rattle.std.proofs.lemmas.List.{length-map}
use Rattle.ring_laws.specs.Answer.{OnFault}
use Rattle.ring_laws.specs.Meaning.{Meaning, listed}
use Rattle.poly_laws.specs.Shift.{poly_shift, InnerShiftInBounds}
use Rattle.poly_generic.specs.declared.polys.Poly.{Poly}
use Rattle.poly_generic.proofs.InnerShiftAnswers.{inner_given, inner_fault}
use Rattle.poly_generic.proofs.polys.Poly+Poly+R.shift_inner_by.Goals as goal

-- a coefficient is out of bounds
pub returns-in_err-list : goal.returns-in_err-list
returns-in_err-list g c =
    let a = g.R.Ring.algebra in
    let mean : Poly g.row.R.Denot g.R.Ring → Meaning = λ v. listed (map g.R.Ring.meaning v.list.items) in
    let number : c.from.result.value ≡ c.args.by = grind (arith, ints, to_z-of_z, c.from.ensures) in
    record {
      gives = inner_fault a _ (a.ops.whole c.args.by) _ (map mean c.args.self.now.list.items) c.from_residual.result c.in_err-list.field-0.0
          c.from_residual.ensures.1
          (subst (λ w. OnFault (¬ (InnerShiftInBounds a (a.ops.whole w) (map mean c.args.self.now.list.items))) c.in_err-list.field-0.0) number
          (subst (λ t. OnFault (¬ (InnerShiftInBounds a (a.ops.whole c.from.result.value) (map mean t))) c.in_err-list.field-0.0)
          c.deref.ensures.value c.in_err-list.ensures));
    }

pub returns : goal.returns
returns g c =
    let a = g.R.Ring.algebra in
    let mean : Poly g.row.R.Denot g.R.Ring → Meaning = λ v. listed (map g.R.Ring.meaning v.list.items) in
    let number : c.from.result.value ≡ c.args.by = grind (arith, ints, to_z-of_z, c.from.ensures) in
    record {
      gives =
          inner_given a _ (a.ops.whole c.args.by) c.args.by (map mean c.args.self.now.list.items) (map mean c.in_ok-list.list.items)
          c.from_coefficients.result (omega (arith, length-map c.args.self.now.list.items mean, c.args.self.now.short))
          (c.in_ok-list.ensures.1 ∙ ap (λ t. map (poly_shift a.ops c.from.result.value) (map mean t)) c.deref.ensures.value
          ∙ ap (λ w. map (poly_shift a.ops w) (map mean c.args.self.now.list.items)) number)
          (subst (λ w. InnerShiftInBounds a (a.ops.whole w) (map mean c.args.self.now.list.items)) number
          (subst (λ t. InnerShiftInBounds a (a.ops.whole c.from.result.value) (map mean t)) c.deref.ensures.value c.in_ok-list.ensures.0))
          c.from_coefficients.ensures.gives;
    }
