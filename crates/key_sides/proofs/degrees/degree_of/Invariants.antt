use Rattle.std.proofs.Common.{◌≡◌, ◌+◌, ◌<◌, ◌^◌}
use Rattle.lin_form.specs.ListOf.{list_of}
use Rattle.steps.specs.Limits.{capped}
use Rattle.gosper_form.specs.PieceSteps.{degree_in_k}
use Rattle.key_sides.proofs.degrees.degree_of.Given as goal

-- the degree so far and that of the forms that are left
abbrev pub invariant-loop-form : goal.invariant-loop-form
invariant-loop-form l = record {
  counted : capped (l.degree + degree_in_k l.form-iterator) ≡ capped (degree_in_k (list_of l.list).factors);
  fits : l.degree < 2 ^ 64;
}
