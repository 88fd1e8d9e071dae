use Rattle.std.proofs.Common.{refl}
use Rattle.lin_form.specs.Forms.{form_of}
use Rattle.lin_form.proofs.Lookups.{found_power, no_power}
use Rattle.lin_form.proofs.factor_lists.FactorList.power.Goals as goal

-- what the map finds is the power of the list
pub returns-in-Some : goal.returns-in-Some
returns-in-Some c = record { power = found_power (form_of c.args.form.now) _ _ _ c.in-Some.ensures.value (λ y. refl) }

pub returns-in-None : goal.returns-in-None
returns-in-None c = record { power = no_power (form_of c.args.form.now) _ _ c.in-None.ensures.value (λ y. refl) }
