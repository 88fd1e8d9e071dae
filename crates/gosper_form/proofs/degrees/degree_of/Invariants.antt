use Rattle.std.proofs.Common.{◌≡◌, ◌+◌, drop}
use Rattle.gosper_form.specs.RaisedForms.{factors_of}
use Rattle.gosper_form.specs.PieceSteps.{degree_in_k}
use Rattle.gosper_form.proofs.degrees.degree_of.Given as goal

-- the degree so far and that of the forms that are left
abbrev pub invariant-loop-raised : goal.invariant-loop-raised
invariant-loop-raised l = l.degree + degree_in_k (factors_of (drop l.raised-index l.forms)) ≡ degree_in_k (factors_of l.forms)
