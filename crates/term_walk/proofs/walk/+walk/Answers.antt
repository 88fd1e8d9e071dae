use Rattle.std.proofs.Common.{◌≡◌, refl, ap, sym, ◌∙◌, subst, arith, true, false}
use Rattle.std.proofs.lemmas.Result.{err_from_is_err_and}
use Rattle.std.specs.Prelude.{Ok}
use Rattle.steps.specs.Answers.{Answers}
use Rattle.steps.specs.Found.{found}
use Rattle.steps.specs.TermFaults.{term_cause}
use Rattle.steps.proofs.Leading.{leads_on}
use Rattle.grammar.specs.Tree as d
use Rattle.term_classes.specs.Walk.{walk}
use Rattle.term_text.specs.View.{tree_of, parts_of}
use Rattle.term_text.specs.declared.ast.Part.{Part}
use Rattle.term_text.specs.declared.ast.Node.TheVariants.{Literal, N, K, Sum}
use Rattle.term_text.proofs.Views.{node_of-literal, node_of-n, node_of-k, node_of-sum}
use Rattle.term_walk.specs.Views.{gathered_of, wide_form_of}
use Rattle.term_walk.specs.WalkRows.{zero_exponent, constant, varying, is_one_turned}
use Rattle.term_walk.proofs.HeldNumbers.{held}
use Rattle.term_walk.proofs.ArgumentNodes.{pow_refused, pow_answer, same_trees, factorial_answer, binomial_answer}
use Rattle.term_walk.proofs.NodeRows.{at_node, leaf_answer, product_answer, some_part, one_turned, plain_sum}
use Rattle.term_walk.proofs.TreeSizes.{tree_size, parts_size, product_smaller, sum_smaller, base_smaller, part_smaller}
use Rattle.term_walk.proofs.WalkedParts.{part_refused, part_leads, parts_walked}
use Rattle.term_walk.proofs.walk.+walk.Goals as goal

-- the next part
pub walk_factors-walk_node-requires : goal.walk_factors-walk_node-requires
walk_factors-walk_node-requires t c =
    let smaller = part_smaller c.args.parts.now c.loop-part.part-index c.part-item.result c.loop-part-test.true c.part-item.is in
    (omega (arith, c.decreases, smaller), tt)

pub walk_factors-returns-in_err-gathered : goal.walk_factors-returns-in_err-gathered
walk_factors-returns-in_err-gathered t c =
    let p = err_from_is_err_and c.from_residual.result c.from_residual.ensures.1 in
    let known = rw c.power_of_part.ensures.power at c.in_err-gathered.ensures.answers in
    rw (p.1, p.2) (record {
      answers = c.loop-part.invariant.cause (term_cause c.in_err-gathered.field-0.0)
          (part_refused c.args.parts.now c.loop-part.part-index c.part-item.result
          c.args.power.value (gathered_of c.loop-part.gathered) c.in_err-gathered.field-0.0 c.loop-part-test.true c.part-item.is known);
    })

-- past the next part
pub walk_factors-loop-part-preserved : goal.walk_factors-loop-part-preserved
walk_factors-loop-part-preserved t c =
    let known = rw c.power_of_part.ensures.power at c.in_ok-gathered.ensures.answers in
    leads_on c.loop-part.invariant (part_leads c.args.parts.now c.loop-part.part-index c.part-item.result c.args.power.value
    (gathered_of c.loop-part.gathered) (gathered_of c.in_ok-gathered.gathered) c.loop-part-test.true c.part-item.is known)

-- past all parts
pub walk_factors-returns : goal.walk_factors-returns
walk_factors-returns t c = record {
  answers = c.loop-part.invariant.outcome
      ∙ parts_walked c.args.parts.now c.loop-part.part-index c.args.power.value (gathered_of c.loop-part.gathered) c.loop-part-test.false;
}

-- a product
pub walk_node-returns-in-Product : goal.walk_node-returns-in-Product
walk_node-returns-in-Product t c = record {
  answers = product_answer c.args.tree.now c.in-Product.parts c.as_slice.result.now c.args.power.value (gathered_of c.args.gathered)
      c.walk_factors.result c.in-Product.is c.as_slice.ensures c.walk_factors.ensures.answers;
}

pub walk_node-walk_factors-requires : goal.walk_node-walk_factors-requires
walk_node-walk_factors-requires t c =
    let smaller = product_smaller c.args.tree.now c.in-Product.parts c.in-Product.is in
    let parts = ap (λ ps. parts_size (parts_of ps)) c.as_slice.ensures in
    (omega (arith, c.decreases, smaller, parts), tt)

-- a sum of one turned part
pub walk_node-bounds-parts-0 : goal.walk_node-bounds-parts-0
walk_node-bounds-parts-0 t c = some_part c.as_slice-parts.result.now (sym c.if-not-has_one_turned.ensures.test)

pub walk_node-walk_node-requires : goal.walk_node-walk_node-requires
walk_node-walk_node-requires t c =
    let smaller = sum_smaller c.args.tree.now c.in-Sum.parts c.in-Sum.is in
    let parts = ap (λ ps. parts_size (parts_of ps)) c.as_slice-parts.ensures in
    let some = some_part c.as_slice-parts.result.now (sym c.if-not-has_one_turned.ensures.test) in
    let item = part_smaller c.as_slice-parts.result.now 0 c.index-parts-0.result some c.index-parts-0.is in
    let same = ap (λ (p : Part). tree_size (tree_of p.ast)) c.index-parts-0.is in
    (omega (arith, c.decreases, smaller, parts, item, same), tt)

pub walk_node-returns-else-not-has_one_turned : goal.walk_node-returns-else-not-has_one_turned
walk_node-returns-else-not-has_one_turned t c =
    let sign = rw (held c.args.power.value c.args.power.small) at c.with_sign.ensures.sign in
    let known = rw (sign, ← c.index-parts-0.is) at c.walk_node.ensures.answers in
    let parts = ap parts_of (sym c.as_slice-parts.ensures) ∙ one_turned c.as_slice-parts.result.now c.index-parts-0.result
    (sym c.if-not-has_one_turned.ensures.test) c.index-parts-0.is in
    record {
      answers = at_node c.args.tree.now (Sum c.in-Sum.parts) (d.sum_of (d.part true (tree_of c.index-parts-0.result.ast) d.no_parts))
          c.args.power.value (gathered_of c.args.gathered) c.walk_node.result c.in-Sum.is (node_of-sum c.in-Sum.parts ∙ ap d.sum_of parts) known;
    }

-- any other sum
pub walk_node-returns-then-not-has_one_turned : goal.walk_node-returns-then-not-has_one_turned
walk_node-returns-then-not-has_one_turned t c =
    let known = rw (held c.args.power.value c.args.power.small) at c.times_polynomial_of.ensures.answers in
    record {
      answers = plain_sum c.args.tree.now c.in-Sum.parts c.args.power.value (gathered_of c.args.gathered) c.times_polynomial_of.result c.in-Sum.is
          (subst (λ ps. is_one_turned (parts_of ps) ≡ false) c.as_slice-parts.ensures (sym c.if-not-has_one_turned.ensures.test)) known;
    }

-- a power
pub walk_node-walk_node-requires-in-Constant : goal.walk_node-walk_node-requires-in-Constant
walk_node-walk_node-requires-in-Constant t c =
    let smaller = base_smaller c.args.tree.now c.in-Pow.base c.in-Pow.exponent c.in-Pow.is in
    let base = ap (λ a. tree_size (tree_of a)) c.get-in-Constant.ensures in
    (omega (arith, c.decreases, smaller, base), tt)

pub walk_node-returns-in_err-kind-in-Pow : goal.walk_node-returns-in_err-kind-in-Pow
walk_node-returns-in_err-kind-in-Pow t c =
    let p = err_from_is_err_and c.from_residual.result c.from_residual.ensures.1 in
    rw (p.1, p.2) (record {
      answers = pow_refused c.args.tree.now c.in-Pow.base c.in-Pow.exponent c.get.result.now c.args.power.value (gathered_of c.args.gathered)
          c.in_err-kind-in-Pow.field-0.0 c.in-Pow.is c.get.ensures c.in_err-kind-in-Pow.ensures.answers;
    })

pub walk_node-returns-in-Zero : goal.walk_node-returns-in-Zero
walk_node-returns-in-Zero t c =
    let told = rw c.in-Zero.is at c.in_ok-kind-in-Pow.ensures.answers in
    record {
      answers = pow_answer c.args.tree.now c.in-Pow.base c.in-Pow.exponent c.get.result.now c.args.power.value (gathered_of c.args.gathered)
          zero_exponent (Ok c.args.gathered) c.in-Pow.is c.get.ensures told refl;
    }

pub walk_node-returns-in-Constant : goal.walk_node-returns-in-Constant
walk_node-returns-in-Constant t c =
    let told = rw c.in-Constant.is at c.in_ok-kind-in-Pow.ensures.answers in
    record {
      answers = pow_answer c.args.tree.now c.in-Pow.base c.in-Pow.exponent c.get.result.now c.args.power.value (gathered_of c.args.gathered)
          (constant c.in-Constant.product.value) c.walk_node-in-Constant.result c.in-Pow.is c.get.ensures told
          (subst (λ a. Answers term_cause gathered_of (walk (tree_of a) c.in-Constant.product.value
          (gathered_of c.args.gathered)) c.walk_node-in-Constant.result)
          c.get-in-Constant.ensures c.walk_node-in-Constant.ensures.answers);
    }

pub walk_node-returns-in-Varying : goal.walk_node-returns-in-Varying
walk_node-returns-in-Varying t c =
    let known = rw (held c.args.power.value c.args.power.small) at c.times_exponential_of.ensures.answers in
    let told = rw c.in-Varying.is at c.in_ok-kind-in-Pow.ensures.answers in
    record {
      answers = pow_answer c.args.tree.now c.in-Pow.base c.in-Pow.exponent c.get.result.now c.args.power.value (gathered_of c.args.gathered)
          (varying (found wide_form_of c.in-Varying.form)) c.times_exponential_of.result c.in-Pow.is c.get.ensures told
          (same_trees c.args.tree.now.at c.get-in-Varying.result.now c.in-Pow.base c.get-in-Varying-2.result.now c.in-Pow.exponent
          (found wide_form_of c.in-Varying.form) c.args.power.value (gathered_of c.args.gathered) c.times_exponential_of.result
          c.get-in-Varying.ensures c.get-in-Varying-2.ensures known);
    }

-- a factorial
pub walk_node-returns-in-Factorial : goal.walk_node-returns-in-Factorial
walk_node-returns-in-Factorial t c =
    let known = rw (held c.args.power.value c.args.power.small) at c.times_factorial_of.ensures.answers c.args.tree.now.at in
    record {
      answers = factorial_answer c.args.tree.now c.in-Factorial.argument c.get-in-Factorial.result.now c.args.power.value
          (gathered_of c.args.gathered) c.times_factorial_of.result c.in-Factorial.is c.get-in-Factorial.ensures known;
    }

-- a binomial coefficient
pub walk_node-returns-in-Binomial : goal.walk_node-returns-in-Binomial
walk_node-returns-in-Binomial t c =
    let known = rw (held c.args.power.value c.args.power.small) at c.times_binomial_of.ensures.answers in
    record {
      answers = binomial_answer c.args.tree.now c.in-Binomial.upper c.get-in-Binomial.result.now c.in-Binomial.lower
          c.get-in-Binomial-2.result.now c.args.power.value (gathered_of c.args.gathered) c.times_binomial_of.result c.in-Binomial.is
          c.get-in-Binomial.ensures c.get-in-Binomial-2.ensures known;
    }

-- a literal, n or k
pub walk_node-returns-in-Literal : goal.walk_node-returns-in-Literal
walk_node-returns-in-Literal t c =
    let known = rw (held c.args.power.value c.args.power.small) at c.times_polynomial_of-in-Literal.ensures.answers in
    record {
      answers = leaf_answer c.args.tree.now (Literal c.in-Literal.field-0) (d.literal c.in-Literal.field-0.value)
          c.args.power.value (gathered_of c.args.gathered) c.times_polynomial_of-in-Literal.result c.in-Literal.is
          (node_of-literal c.in-Literal.field-0) refl known;
    }

pub walk_node-returns-in-N : goal.walk_node-returns-in-N
walk_node-returns-in-N t c =
    let known = rw (held c.args.power.value c.args.power.small) at c.times_polynomial_of-in-N.ensures.answers in
    record {
      answers = leaf_answer c.args.tree.now N d.variable_n c.args.power.value (gathered_of c.args.gathered) c.times_polynomial_of-in-N.result
          c.in-N.is node_of-n refl known;
    }

pub walk_node-returns-in-K : goal.walk_node-returns-in-K
walk_node-returns-in-K t c =
    let known = rw (held c.args.power.value c.args.power.small) at c.times_polynomial_of-in-K.ensures.answers in
    record {
      answers = leaf_answer c.args.tree.now K d.variable_k c.args.power.value (gathered_of c.args.gathered) c.times_polynomial_of-in-K.result
          c.in-K.is node_of-k refl known;
    }
