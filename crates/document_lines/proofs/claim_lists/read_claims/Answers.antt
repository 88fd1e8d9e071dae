use Rattle.std.proofs.Common.{◌≡◌, suc, ◌+◌, ◌-◌, List, [], ◌∷◌, ◌++◌, map, ap, sym, subst, ◌∙◌, arith, append_assoc}
use Rattle.std.specs.Prelude.{nat_lt}
use Rattle.std.proofs.lemmas.Bool.{and_parts, ltb-true}
use Rattle.std.proofs.lemmas.List.{map-append}
use Rattle.exact_texts.specs.Lines.{Takes}
use Rattle.exact_texts.proofs.Sequences.{Leaves}
use Rattle.spelled.proofs.Exits.{handed_on}
use Rattle.documents.specs.Documents.{Claim as ClaimValue}
use Rattle.documents.specs.Views.{claim_said}
use Rattle.documents.specs.declared.claims.Claim.{Claim}
use Rattle.document_lines.specs.ClaimTexts.{claim_at, claims_from, says_empty}
use Rattle.document_lines.proofs.ClaimListSteps.{at_claim, behind_claim, one_more, last_one, none_more}
use Rattle.document_lines.proofs.claim_lists.read_claims.Goals as goal

-- the claim of this order isn't there
pub returns-in_err-claim : goal.returns-in_err-claim
returns-in_err-claim c =
    let version = c.args.version in
    let whole = claims_from version c.args.first (c.args.last - c.args.first) in
    handed_on (claim_at version c.loop-claims.order) whole (λ claims. map claim_said claims.items) _ _ _ _ c.in_err-claim.field-0.0
    c.from_residual.ensures.1
    (at_claim whole _ version c.loop-claims.order (c.args.last - c.loop-claims.order) _ (omega arith) c.loop-claims.invariant.stops _)
    c.in_err-claim.ensures

module _ (claims new : List Claim) (claim : Claim) (e : new ≡ claims ++ claim ∷ []) where
  all_items : map claim_said claims ++ claim_said claim ∷ [] ≡ map claim_said new
  all_items = sym (ap (map claim_said) e ∙ map-append claim_said claims (claim ∷ []))

  more_items : (cs : List ClaimValue) → map claim_said claims ++ claim_said claim ∷ cs ≡ map claim_said new ++ cs
  more_items cs = sym (append_assoc (map claim_said claims) (claim_said claim ∷ []) cs) ∙ ap (λ t. t ++ cs) all_items

-- the last claim
pub returns-then-not-more : goal.returns-then-not-more
returns-then-not-more c =
    let version = c.args.version in
    let claim = c.in_ok-claim.claim in
    let whole = claims_from version c.args.first (c.args.last - c.args.first) in
    subst (λ cs. Takes whole c.args.lines.now.rest.now cs c.read_claim.new.lines.rest.now)
    (all_items c.loop-claims.claims.items c.push.new.self.items claim c.in_ok-push.ensures.items)
    (c.loop-claims.invariant.takes (claim_said claim ∷ []) _
    (last_one version c.loop-claims.order (c.args.last - c.loop-claims.order) _ _ (claim_said claim)
    (none_more c.args.last c.loop-claims.order (claim_said claim) (sym c.if-not-more.ensures)) c.in_ok-claim.ensures))

-- one claim more
pub loop-claims-preserved : goal.loop-claims-preserved
loop-claims-preserved c =
    let version = c.args.version in
    let claim = c.in_ok-claim.claim in
    let order = c.loop-claims.order in
    let last = c.args.last in
    let whole = claims_from version c.args.first (last - c.args.first) in
    let test = and_parts (nat_lt order last) (says_empty (claim_said claim)) (sym c.if-not-more.ensures) in
    let less = ltb-true order last test.0 in
    let left : last - order ≡ suc (last - (order + 1)) = omega arith in
    let next : order + 1 ≡ suc order = omega arith in
    record {
      begun = omega arith;
      within = omega arith;
      stops = subst (λ o. Leaves whole c.args.lines.now.rest.now (claims_from version o (last - (order + 1))) c.read_claim.new.lines.rest.now)
          (sym next)
          (behind_claim whole _ version order (last - order) (last - (order + 1)) _ _ (claim_said claim) (omega arith) left test.1
          c.loop-claims.invariant.stops c.in_ok-claim.ensures);
      takes = λ cs new t.
          subst (λ ds. Takes whole c.args.lines.now.rest.now ds new)
          (more_items c.loop-claims.claims.items c.push.new.self.items claim c.in_ok-push.ensures.items cs)
          (c.loop-claims.invariant.takes (claim_said claim ∷ cs) new
          (one_more version order (last - order) (last - (order + 1)) _ _ new (claim_said claim) cs left test.1 c.in_ok-claim.ensures
          (subst (λ o. Takes (claims_from version o (last - (order + 1))) c.read_claim.new.lines.rest.now cs new) next t)));
    }
