use Rattle.std.proofs.Common.{◌≡◌, List, sym, subst}
use Rattle.std.specs.List.{AllByRecursion}
use Rattle.std.specs.Prelude.{pos}
use Rattle.ring_laws.specs.declared.faults.RingFault.{RingFault}
use Rattle.ring_laws.specs.declared.faults.RingFault.TheVariants.{Memory}
use Rattle.term_pieces.specs.Products.{IsProductOf}
use Rattle.lin_form.specs.ListOf.{list_of}
use Rattle.gosper_form.specs.NormalLists.{HasChain, forms_further}
use Rattle.gosper_form.specs.NormalView.{matches_of}
use Rattle.gosper_form.specs.declared.normal.Match.{Match as MatchOfCode}
use Rattle.gosper_form.proofs.NormalAnswers.{fault_passed}
use Rattle.gosper_form.proofs.NormalForms.{have_chains, no_more_above, no_more_below, made_normal}
use Rattle.gosper_form.proofs.normal.with_lists.Goals as goal

pub without-requires : goal.without-requires
without-requires c = record {
  no_more = no_more_above (list_of c.args.q0.now) (list_of c.args.r0.now) (matches_of c.args.taken.matches.items) c.requires.matches
      (list_of c.args.taken.above).factors (list_of c.args.taken.below).factors c.requires.taken;
}

pub without-requires-2 : goal.without-requires-2
without-requires-2 c = record {
  no_more = no_more_below (list_of c.args.q0.now) (list_of c.args.r0.now) (matches_of c.args.taken.matches.items) c.requires.matches
      (list_of c.args.taken.above).factors (list_of c.args.taken.below).factors c.requires.taken;
}

pub chains-requires-clause-chains : goal.chains-requires-clause-chains
chains-requires-clause-chains c =
    subst (λ (ms : List MatchOfCode). AllByRecursion HasChain (matches_of ms)) (sym c.deref.ensures.value)
    (have_chains (list_of c.args.q0.now) (list_of c.args.r0.now) (matches_of c.args.taken.matches.items) c.requires.matches c.requires.forms
    c.args.q0.now.factors.each c.args.r0.now.factors.each)

pub chains-requires-2-clause-chains : goal.chains-requires-2-clause-chains
chains-requires-2-clause-chains c =
    subst (λ (ms : List MatchOfCode). AllByRecursion HasChain (matches_of ms)) (sym c.deref-2.ensures.value)
    (have_chains (list_of c.args.q0.now) (list_of c.args.r0.now) (matches_of c.args.taken.matches.items) c.requires.matches c.requires.forms
    c.args.q0.now.factors.each c.args.r0.now.factors.each)

pub returns-clause-normal : goal.returns-clause-normal
returns-clause-normal c =
    made_normal (list_of c.args.q0.now) (list_of c.args.r0.now) (matches_of c.args.taken.matches.items) c.requires.matches
    (list_of c.args.taken.above).factors (list_of c.args.taken.below).factors c.requires.taken (list_of c.in_ok-q.q) (list_of c.in_ok-r.r)
    (list_of c.in_ok-g.g) (list_of c.in_ok-poles.poles) c.in_ok-q.ensures.left c.in_ok-r.ensures.left
    (subst (λ (ms : List MatchOfCode). IsProductOf (list_of c.in_ok-g.g) (pos 1) (forms_further 0 (matches_of ms))) c.deref.ensures.value
    c.in_ok-g.ensures.product)
    (subst (λ (ms : List MatchOfCode). IsProductOf (list_of c.in_ok-poles.poles) (pos 1) (forms_further 1 (matches_of ms))) c.deref-2.ensures.value
    c.in_ok-poles.ensures.product)

pub returns-in_err-poles-clause-memory : goal.returns-in_err-poles-clause-memory
returns-in_err-poles-clause-memory c =
    fault_passed (λ (fault : RingFault). fault ≡ Memory) c.from_residual-in_err-poles.result c.in_err-poles.field-0.0
    c.from_residual-in_err-poles.ensures.1 c.in_err-poles.ensures.memory
