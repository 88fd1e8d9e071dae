use Rattle.lin_form.specs.ListOf.{list_of}
use Rattle.proper_term.specs.TermOf.{term_of}
use Rattle.gosper_form.proofs.PlainTests.{plain_test}
use Rattle.gosper_form.proofs.plain.is_plain.Goals as goal

pub returns : goal.returns
returns c = record {
  test = plain_test (term_of c.args.term.now) (list_of c.up.result.now).factors (list_of c.down.result.now).factors (list_of c.over.result.now).factors
      (list_of c.guard.result.now).factors c.are_plain_lists.result c.up.ensures.up c.down.ensures.down c.over.ensures.over c.guard.ensures.guard
      c.up.ensures.proper c.are_plain_lists.ensures.test;
}
