use Rattle.std.proofs.Common.{◌*◌, ap, sym, ◌∙◌, subst, Ok}
use Rattle.std.specs.Prelude.{◌*ℤ◌}
use Rattle.std.proofs.Math.IntN.{pow}
use Rattle.ring_laws.specs.Wholes.{number_of}
use Rattle.steps.specs.Answers.{HasCause}
use Rattle.steps.specs.Operations.{of_number}
use Rattle.steps.specs.Steps.{makes}
use Rattle.steps.specs.TermFaults.{term_cause}
use Rattle.hypergeometric.specs.Divisors.{nonzero_size}
use Rattle.tree_polynomials.proofs.NumberPowers.{power_number, power_fault}
use Rattle.tree_polynomials.proofs.powers.number_times_power.Goals as goal

-- the power of the ring is that of the definition
pub returns-in-Ok : goal.returns-in-Ok
returns-in-Ok c = record {
  answers = ap Ok (ap (λ m. c.args.product.value *ℤ number_of m) (sym (power_number c.args.base.value c.args.power))
      ∙ sym (ap number_of c.in-Ok.ensures.gives));
}

-- the bound that is too large is the counterpart
pub returns-in-Err : goal.returns-in-Err
returns-in-Err c = record {
  answers = subst (λ fault. HasCause (makes c.args.at (of_number (nonzero_size c.args.product.value * nonzero_size
      (pow c.args.base.value c.args.power)))
      (c.args.product.value *ℤ pow c.args.base.value c.args.power)) (term_cause fault)) (sym c.fault_at.ensures.fault)
      (power_fault c.args.at c.args.product.value c.args.base.value c.args.power c.in-Err.fault c.in-Err.ensures.gives);
}
