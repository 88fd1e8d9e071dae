use Rattle.std.proofs.Common.{ap, sym, ◌∙◌, None, Some}
use Rattle.term_text.specs.declared.fault.TextFault.{TextFault}
use Rattle.term_text.specs.declared.fault.TextFault.TheVariants.{Unexpected, UnclosedParen}
use Rattle.term_text.specs.Code.Progress.{last_of, end_fault}
use Rattle.term_text.proofs.Turns.{last_of-snoc}
use Rattle.term_text.proofs.read.end_fault.Goals as goal

pub returns : goal.returns
returns c = record {
  fault = sym (ap (λ b. end_fault c.args.places b c.args.len) c.if-empty.false
      ∙ ap (λ o. elim o as (λ _. TextFault) [ None ↦ Unexpected c.args.len | Some at ↦ UnclosedParen at ])
      (ap last_of c.in-Some.ensures.popped ∙ last_of-snoc c.pop.new.self c.in-Some.at));
}
