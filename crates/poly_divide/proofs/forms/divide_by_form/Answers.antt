use Rattle.std.specs.Prelude.{⊤}
use Rattle.std.specs.Int.{w64}
use Rattle.std.proofs.Common.{ℤ, pos, map, ap, ◌∙◌}
use Rattle.std.proofs.lemmas.Int.{to_z-of_z}
use mathlib.Core.Path.{ap₂}
use Rattle.ring_laws.specs.Meaning.{Meaning, number, listed}
use Rattle.ring_laws.specs.Wholes.{whole_algebra}
use Rattle.poly_laws.specs.LongDivision.{DivisionInBounds}
use Rattle.poly_laws.specs.PolyAlgebra.{poly_algebra}
use Rattle.poly_generic.specs.declared.polys.Poly.{Poly}
use Rattle.poly_divide.specs.Forms.{form_in_n}
use Rattle.poly_divide.proofs.FormMeanings.{form_is, fault_by}
use Rattle.poly_divide.proofs.forms.divide_by_form.Goals as goal

-- the division by the form that was made is that by the form of the three numbers
pub returns-in_err-quotient : goal.returns-in_err-quotient
returns-in_err-quotient c = record {
  divides =
      fault_by (λ (p : Poly _ _). listed (map (λ (q : Poly _ _). listed (map (λ w. number w.value) q.list.items)) p.list.items))
      (poly_algebra (poly_algebra whole_algebra))
      (DivisionInBounds (poly_algebra whole_algebra) (DivisionInBounds whole_algebra (λ (x y : Meaning). ⊤)))
      (listed (map (λ (q : Poly _ _). listed (map (λ w. number w.value) q.list.items)) c.args.f.now.list.items))
      (listed (map (λ (q : Poly _ _). listed (map (λ w. number w.value) q.list.items)) c.in_ok-form.form.list.items)) _
      c.from_residual-in_err-quotient.result c.in_err-quotient.field-0.0 c.from_residual-in_err-quotient.ensures.1
      (form_is _ _ _ c.args.k_slope c.args.n_slope c.args.offset c.requires.slope c.in_ok-form.ensures
      (c.in_ok-constant.ensures
      ∙ ap₂ (λ (s t : ℤ). form_in_n s t) (to_z-of_z w64 c.args.n_slope c.ranges.n_slope) (to_z-of_z w64 c.args.offset c.ranges.offset))
      (c.in_ok-slope.ensures ∙ ap (λ (t : ℤ). form_in_n (pos 0) t) (to_z-of_z w64 c.args.k_slope c.ranges.k_slope)))
      c.in_err-quotient.ensures.divides;
}
