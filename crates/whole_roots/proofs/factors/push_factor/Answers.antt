use Rattle.std.proofs.Common.{◌++◌, ◌∷◌, [], ℤ, inl, inr, refl, sym, ◌∙◌, ap, subst, map, unsigned_abs, arith, to_z, of_z}
use Rattle.std.specs.Int.{w128}
use Rattle.std.specs.List.{AllByRecursion}
use Rattle.std.proofs.lemmas.Int.{to_z-of_z}
use Rattle.ring_laws.specs.Meaning.{number, listed}
use Rattle.ring_laws.specs.declared.wholes.Whole.{Whole}
use Rattle.whole_roots.specs.FactorBounds.{DivisionsInBounds}
use Rattle.whole_roots.specs.LinearFactors.{Entry, IsBefore, IsGreatestPower}
use Rattle.whole_roots.proofs.FactorLists.{profile_form, no_profile_form, inserted_last}
use Rattle.whole_roots.proofs.Faults.{fault_with}
use Rattle.whole_roots.proofs.factors.push_factor.Goals as goal

-- a common divisor above 1
pub returns-then-gcd_whole-ne1-clause-adds : goal.returns-then-gcd_whole-ne1-clause-adds
returns-then-gcd_whole-ne1-clause-adds c =
    let sizes = c.unsigned_abs.ensures.value ∙ ap unsigned_abs (to_z-of_z w128 c.args.constant c.ranges.constant) in
    inl (
      refl,
      λ form. absurd (no_profile_form c.args.slope c.args.constant c.from.result c.unsigned_abs.result c.gcd_whole.result
          c.gcd_whole.ensures.greatest c.from.ensures sizes c.if-gcd_whole-ne1.true form),
    )

-- a division
pub returns-in_err-power-clause-too_large : goal.returns-in_err-power-clause-too_large
returns-in_err-power-clause-too_large c =
    let m = listed (map (λ (w : Whole). number w.value) c.args.f.now.list.items) in
    let at = to_z-of_z w128 c.args.constant c.ranges.constant in
    let sizes = c.unsigned_abs.ensures.value ∙ ap unsigned_abs at in
    let form = profile_form c.args.slope c.args.constant c.from.result c.unsigned_abs.result c.gcd_whole.result c.gcd_whole.ensures.greatest
    c.from.ensures sizes c.requires.from_one c.requires.to_four c.if-gcd_whole-ne1.false in
    fault_with c.from_residual.result c.in_err-power.field-0.0 c.from_residual.ensures.1
    (λ h. (form, subst (λ (z : ℤ). ¬ (DivisionsInBounds c.args.slope z m)) at h)) c.in_err-power.ensures.too_large

-- the form comes last
pub returns-in_ok-insert-clause-adds : goal.returns-in_ok-insert-clause-adds
returns-in_ok-insert-clause-adds c =
    let m = listed (map (λ (w : Whole). number w.value) c.args.f.now.list.items) in
    let at = to_z-of_z w128 c.args.constant c.ranges.constant in
    let sizes = c.unsigned_abs.ensures.value ∙ ap unsigned_abs at in
    let form = profile_form c.args.slope c.args.constant c.from.result c.unsigned_abs.result c.gcd_whole.result c.gcd_whole.ensures.greatest
    c.from.ensures sizes c.requires.from_one c.requires.to_four c.if-gcd_whole-ne1.false in
    inr (
      c.in_ok-power.power,
      c.in_ok-insert.ensures.entries
          ∙ inserted_last _ (λ x y. refl) (c.args.slope, to_z w128 (of_z w128 c.args.constant)) c.in_ok-power.power c.args.factors.now.entries
          (subst (λ (z : ℤ). AllByRecursion (λ (x : Entry). IsBefore x.0 (c.args.slope, z)) c.args.factors.now.entries) (sym at) c.requires.last)
          ∙ ap (λ (z : ℤ). c.args.factors.now.entries ++ ((c.args.slope, z), c.in_ok-power.power) ∷ []) at,
      record {
        form = form;
        some = omega (arith, c.if-power-gt0.true);
        power = subst (λ (z : ℤ). IsGreatestPower c.args.slope z c.in_ok-power.power m) at c.in_ok-power.ensures.power;
      },
    )
