use Rattle.std.proofs.Common.{◌≡◌, List, take, ap, ◌∙◌, arith}
use Rattle.std.proofs.lemmas.List.{take_all}
use Rattle.hypergeometric.specs.FactorLists.{power_of}
use Rattle.term_pieces.specs.NormalForm.{power_within}
use Rattle.lin_form.specs.ListOf.{list_of}
use Rattle.gosper_form.specs.NormalLists.{forms_further}
use Rattle.gosper_form.specs.NormalView.{matches_of}
use Rattle.gosper_form.specs.declared.normal.Match.{Match as MatchOfCode}
use Rattle.gosper_form.proofs.NormalChains.{chain_here, chain_short, chain_fits, further_more, product_sorted}
use Rattle.gosper_form.proofs.normal_lists.chains.Goals as goal

pub loop-entry-init : goal.loop-entry-init
loop-entry-init c = record { scale = c.in_ok-product.ensures.scale; powers = λ f. ap (power_of f) c.in_ok-product.ensures.factors }

pub overflow_add-further : goal.overflow_add-further
overflow_add-further c =
    let short = chain_short c.args.matches.now c.loop-entry.entry-index c.entry-item.result c.loop-entry-test.true c.entry-item.is c.requires.chains
    c.requires.few_shifts c.args.further c.requires.one_further in
    omega (arith, short)

pub with_chain-requires-clause-some : goal.with_chain-requires-clause-some
with_chain-requires-clause-some c =
    let chain = chain_here c.args.matches.now c.loop-entry.entry-index c.entry-item.result c.loop-entry-test.true c.entry-item.is c.requires.chains in
    omega (arith, chain.some)

pub with_chain-requires-clause-short : goal.with_chain-requires-clause-short
with_chain-requires-clause-short c =
    let short = chain_short c.args.matches.now c.loop-entry.entry-index c.entry-item.result c.loop-entry-test.true c.entry-item.is c.requires.chains
    c.requires.few_shifts c.args.further c.requires.one_further in
    omega (arith, short)

pub with_chain-requires-clause-within : goal.with_chain-requires-clause-within
with_chain-requires-clause-within c =
    let chain = chain_here c.args.matches.now c.loop-entry.entry-index c.entry-item.result c.loop-entry-test.true c.entry-item.is c.requires.chains in
    λ j l. chain.within j (omega (arith, l, c.requires.one_further))

pub with_chain-requires-clause-fits : goal.with_chain-requires-clause-fits
with_chain-requires-clause-fits c = λ f.
    chain_fits c.args.matches.now c.loop-entry.entry-index c.entry-item.result c.loop-entry-test.true c.entry-item.is c.requires.chains
    c.requires.few_shifts c.args.further c.requires.one_further f (list_of c.loop-entry.product).factors (c.loop-entry.invariant.powers f)

-- one chain more
pub loop-entry-preserved : goal.loop-entry-preserved
loop-entry-preserved c = record {
  scale = c.in_ok-product-2.ensures.scale ∙ c.loop-entry.invariant.scale;
  powers = λ f.
      let more = further_more f c.args.further c.args.matches.now c.loop-entry.entry-index c.entry-item.result c.loop-entry-test.true c.entry-item.is in
      omega (arith, more, c.in_ok-product-2.ensures.powers f, c.loop-entry.invariant.powers f);
}

pub returns-clause-product : goal.returns-clause-product
returns-clause-product c =
    let ms = c.args.matches.now in
    let whole : take c.loop-entry.entry-index ms ≡ ms = take_all c.loop-entry.entry-index ms c.loop-entry-test.false in
    product_sorted c.args.further (matches_of ms) c.loop-entry.product c.sorted.result c.requires.chains c.loop-entry.invariant.scale
    (λ f. c.loop-entry.invariant.powers f
    ∙ ap (λ (ns : List MatchOfCode). power_within f (forms_further c.args.further (matches_of ns))) whole)
    c.sorted.ensures.scale c.sorted.ensures.sorted c.sorted.ensures.same
