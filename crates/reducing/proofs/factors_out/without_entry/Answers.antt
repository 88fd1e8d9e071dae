use Rattle.std.specs.Prelude.{◌≡◌, ℕ, ◌<◌, ◌^◌, ℤ, pos, unsigned_abs, IsFalse}
use Rattle.std.specs.Int.{w128}
use Rattle.std.proofs.Common.{ap, subst, sym, refl, ◌∙◌, arith, to_z, of_z}
use Rattle.std.proofs.lemmas.Int.{ints, to_z-of_z, fits_signed_from_abs}
use Rattle.poly_divide.specs.Forms.{linear}
use Rattle.whole_roots.specs.Differences.{polynomials}
use Rattle.whole_roots.specs.LinearFactors.{Entry}
use Rattle.reducing.specs.RowAnswer.{GivesRow}
use Rattle.reducing.specs.TakenOut.{TakenOut}
use Rattle.reducing.specs.PolynomialRows.{OfRows}
use Rattle.reducing.specs.PolynomialAnswers.{IsMost, FactorInBounds}
use Rattle.reducing.proofs.Polynomials.{Zn, sense, senses}
use Rattle.reducing.proofs.WithoutFactor.{same_some}
use Rattle.reducing.proofs.factors_out.without_entry.Goals as goal

pub form_of-requires-clause-offset : goal.form_of-requires-clause-offset
form_of-requires-clause-offset c =
    let x : Entry = (c.in-Some.form.now, c.in-Some.power.now) in
    let small = c.requires.offset x (sym c.in-Some.ensures.entry) in
    λ e. omega (arith, ints, small, sym (to_z-of_z w128 c.in-Some.form.now.1 (fits_signed_from_abs w128 c.in-Some.form.now.1 small)) ∙ e)

-- the form is that of the entry
form_is : (u : ℕ) (v : ℤ) (form : Zn) → unsigned_abs v < 2 ^ 127 → sense form ≡ linear (pos u) (to_z w128 (of_z w128 v))
    → sense form ≡ linear (pos u) v
form_is u v form small e = e ∙ ap (linear (pos u)) (to_z-of_z w128 v (fits_signed_from_abs w128 v small))

pub without_factor-requires-clause-not_zero : goal.without_factor-requires-clause-not_zero
without_factor-requires-clause-not_zero c =
    subst (λ m. IsFalse (polynomials.ops.is_nought m)) (sym c.in_ok-form-in-Some.ensures.form) refl

pub without_factor-requires-clause-most : goal.without_factor-requires-clause-most
without_factor-requires-clause-most c =
    let x : Entry = (c.in-Some.form.now, c.in-Some.power.now) in
    let small = c.requires.offset x (sym c.in-Some.ensures.entry) in
    subst (λ f. IsMost f c.in-Some.power.now (senses c.args.row.items))
    (sym (form_is c.in-Some.form.now.0 c.in-Some.form.now.1 c.in_ok-form-in-Some.form small c.in_ok-form-in-Some.ensures.form))
    (c.requires.most x (sym c.in-Some.ensures.entry))

pub returns-in_ok-form-in-Some : goal.returns-in_ok-form-in-Some
returns-in_ok-form-in-Some c =
    let x : Entry = (c.in-Some.form.now, c.in-Some.power.now) in
    let small = c.requires.offset x (sym c.in-Some.ensures.entry) in
    record {
      takes_out = λ y e.
          subst (λ (z : Entry). GivesRow sense (OfRows (TakenOut polynomials (linear (pos z.0.0) z.0.1)) (senses c.args.row.items))
          (FactorInBounds (linear (pos z.0.0) z.0.1) (senses c.args.row.items)) c.without_factor.result)
          (same_some x y (c.in-Some.ensures.entry ∙ e))
          (subst (λ f. GivesRow sense (OfRows (TakenOut polynomials f) (senses c.args.row.items))
          (FactorInBounds f (senses c.args.row.items)) c.without_factor.result)
          (form_is c.in-Some.form.now.0 c.in-Some.form.now.1 c.in_ok-form-in-Some.form small c.in_ok-form-in-Some.ensures.form)
          c.without_factor.ensures.takes_out);
    }
