use Rattle.std.specs.Prelude.{◌≤◌}
use Rattle.reducing.proofs.Polynomials.{sense}
use Rattle.reducing.proofs.WithoutFactor.{IsLeft}
use Rattle.reducing.proofs.factors_out.without_factor.Given as goal

-- the row is what is left times a power of the form
abbrev pub invariant-loop-time : goal.invariant-loop-time
invariant-loop-time l = record { within : l._time ≤ l.most; left : IsLeft (sense l.form) l._time l.fn.row.items l.rest.items }
