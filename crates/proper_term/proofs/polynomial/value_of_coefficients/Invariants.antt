use Rattle.std.proofs.Common.{◌≡◌, ◌≤◌, drop, length}
use Rattle.ring_laws.specs.Meaning.{number, listed}
use Rattle.lin_form.proofs.Items.{each_of}
use Rattle.poly_laws.specs.Values.{horner}
use Rattle.hypergeometric.specs.Point.{point}
use Rattle.hypergeometric.specs.ProperTerm.{value_in_n}
use Rattle.proper_term.proofs.polynomial.value_of_coefficients.Given as goal

-- the value of the coefficients from here on
abbrev pub invariant-loop-power : goal.invariant-loop-power
invariant-loop-power l = record {
  value : l.value.value ≡ horner (λ c. value_in_n c (point l.n.value l.k.value)) l.k.value
      (drop l.power (each_of l.coefficients (λ c. listed (each_of c.list.items (λ whole. number whole.value)))));
  within : l.power ≤ length l.coefficients;
}

abbrev pub decreases-loop-power : goal.decreases-loop-power
decreases-loop-power l = l.power
