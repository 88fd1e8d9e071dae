use Rattle.std.proofs.Common.{ℕ, drop}
use Rattle.hypergeometric.specs.LinearForm.{LinearForm}
use Rattle.lin_form.specs.Forms.{form_of}
use Rattle.lin_form.specs.ListOf.{list_of}
use Rattle.gosper_form.specs.NormalCandidates.{StandsIn, AreCandidates}
use Rattle.gosper_form.proofs.NormalCandidates.{Looked}
use Rattle.gosper_form.proofs.normal_candidates.with_candidates.Given as goal

-- the candidates from before stand there, and those of the form as far as r0 was looked at
abbrev pub invariant-loop-index : goal.invariant-loop-index
invariant-loop-index l = record {
  candidates : AreCandidates l.found.items;
  kept : (s : LinearForm) (h : ℕ) → StandsIn l.fn.found.items s h → StandsIn l.found.items s h;
  looked : Looked (form_of l.form) (list_of l.r0).factors (drop l.index (list_of l.r0).factors) l.found.items;
}
