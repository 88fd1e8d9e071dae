use Rattle.std.proofs.Common.{sym, ◌∙◌, subst}
use Rattle.hypergeometric.specs.TermFacts.{IsPlain, IsProper}
use Rattle.term_walk.proofs.CancelledTerms.{gathered_in_bounds, lists_cancelled}
use Rattle.term_walk.proofs.classes.cancelled_term.Goals as goal

-- the facts of every proper term hold
pub unreachable-requires : goal.unreachable-requires
unreachable-requires c = c.in-None.ensures.given (
  subst IsProper (sym (lists_cancelled c.args.gathered c.in-Ok-other_forms.up c.in-Ok-other_forms-2.down c.in-Ok.guard c.in-Ok.ensures.factors
      c.in-Ok-other_forms.ensures.factors c.in-Ok-other_forms-2.ensures.factors)) (c.requires.plain (gathered_in_bounds c.args.gathered)).proper,
  record {
    up = c.in-Ok-other_forms.ensures.scale;
    down = c.in-Ok-other_forms-2.ensures.scale;
    over = c.args.gathered.factors.over_scale;
    guard = c.in-Ok.ensures.scale;
  },
)

pub returns-clause-plain : goal.returns-clause-plain
returns-clause-plain c =
    subst IsPlain (sym (c.in-Some.ensures.given ∙ lists_cancelled c.args.gathered c.in-Ok-other_forms.up c.in-Ok-other_forms-2.down c.in-Ok.guard
    c.in-Ok.ensures.factors c.in-Ok-other_forms.ensures.factors c.in-Ok-other_forms-2.ensures.factors))
    (c.requires.plain (gathered_in_bounds c.args.gathered))
