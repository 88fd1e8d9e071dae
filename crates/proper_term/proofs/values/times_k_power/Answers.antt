use Rattle.std.proofs.Common.{[], ◌∷◌, subst, rules, FitsSigned}
use Rattle.std.proofs.lemmas.Int.{to_z-of_z}
use Rattle.std.specs.Int.{w64}
use Rattle.hypergeometric.specs.Fraction.{Fraction}
use Rattle.poly_fraction.specs.FractionOf.{fraction_of}
use Rattle.proper_term.specs.Fields.{number_fraction_of}
use Rattle.proper_term.specs.Runs.{GivesRun}
use Rattle.proper_term.specs.ValueBounds.{base_power}
use Rattle.proper_term.proofs.values.times_k_power.Goals as goal

-- the base is that of the term
pub returns : goal.returns
returns c =
    let fits : FitsSigned w64 c.args.point.k = search rules in record {
      run = subst (λ (x : Fraction). GivesRun fraction_of (number_fraction_of (fraction_of c.args.running.now)) (x ∷ []) c.times_power.result)
          (λ i. base_power (c.k_base.ensures.k_base i) (to_z-of_z w64 c.args.point.k fits i)) c.times_power.ensures.run;
    }
