use Rattle.std.proofs.Common.{rules, suc, [], ◌∷◌, inl, inr, arith}
use Rattle.std.proofs.lemmas.List.{length-map}
use Rattle.ring_laws.specs.Answer.{fault_weaker}
use Rattle.lin_form.proofs.ListProducts.{fault_list}
use Rattle.lin_form.specs.ListOf.{list_of}
use Rattle.proper_term.specs.TermOf.{term_of}
use Rattle.term_pieces.specs.Products.{IsProductOf}
use Rattle.term_pieces.specs.Pieces.{q_forms, r_forms}
use Rattle.gosper_form.specs.PieceSteps.{top_sizes, each_from, all_of, carrier_size}
use Rattle.gosper_form.specs.PiecesOf.{top_of}
use Rattle.gosper_form.proofs.PieceOperations.{left_too_large, right_too_large}
use Rattle.gosper_form.proofs.PrimitiveQuotients.{quotient_of_products}
use Rattle.gosper_form.proofs.made_pieces.multiplied.Goals as goal

-- some p_j is too large
pub returns-in_err-tops-clause-too_large : goal.returns-in_err-tops-clause-too_large
returns-in_err-tops-clause-too_large c =
    fault_list _ c.from_residual-in_err-tops.result c.in_err-tops.field-0.0 c.from_residual-in_err-tops.ensures.1
    (fault_weaker c.in_err-tops.field-0.0
    (λ out. inr (inr (left_too_large (all_of (each_from (top_sizes (term_of c.args.term.now) c.args.order) 0 (suc c.args.order)))
    (carrier_size (term_of c.args.term.now) c.args.order ∷ []) out)))
    c.in_err-tops.ensures.too_large)

-- the number of the carrier is
pub returns-in_err-carrier-clause-too_large : goal.returns-in_err-carrier-clause-too_large
returns-in_err-carrier-clause-too_large c =
    fault_list _ c.from_residual-in_err-carrier.result c.in_err-carrier.field-0.0 c.from_residual-in_err-carrier.ensures.1
    (fault_weaker c.in_err-carrier.field-0.0
    (λ out. inr (inr (right_too_large (all_of (each_from (top_sizes (term_of c.args.term.now) c.args.order) 0 (suc c.args.order)))
    (carrier_size (term_of c.args.term.now) c.args.order ∷ []) (inl out))))
    c.in_err-carrier.ensures.too_large)

-- what the forms of the quotient keep
pub invariant_of-result : goal.invariant_of-result
invariant_of-result c =
    let f = term_of c.args.term.now in
    let above : IsProductOf (list_of c.in_ok-q0.q0) f.k_base.top (q_forms f c.args.order) = search rules in
    let below : IsProductOf (list_of c.in_ok-r0.r0) f.k_base.bottom (r_forms f c.args.order) = search rules in
    record {
      counted = omega (arith, length-map c.in_ok-tops.tops.items top_of, c.in_ok-tops.ensures.tops.count);
      quotient = quotient_of_products (list_of c.in_ok-q0.q0) (list_of c.in_ok-r0.r0) f c.args.order c.requires.plain c.requires.low above below;
    }
