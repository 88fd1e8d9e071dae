-- The steps of the loop that writes claims, and that the claims of a command can be written.
use Rattle.std.specs.Prelude.{◌≡◌, ℕ, zero, suc, ◌+◌, ◌<◌, List, [], ◌∷◌, ◌++◌, map, length, drop}
use Rattle.std.specs.List.{AllByRecursion}
use Rattle.std.proofs.Common.{ap, sym, subst, ◌∙◌, append_assoc, add-one, get_or, arith}
use Rattle.std.proofs.Math.Seq.{drop-cons}
use Rattle.documents.specs.Documents.{Claim as ClaimValue, Command, gosper, ct, zeil, wz, companion, hyper}
use Rattle.documents.specs.WellFormed.{AreOfOrders, ends, runs_out, goes_on, AreClaimsOf}
use Rattle.documents.specs.Views.{claim_said}
use Rattle.documents.specs.declared.claims.Claim.{Claim}
use Rattle.documents.specs.declared.documents.Version.{Version}
use Rattle.document_lines.specs.ClaimTexts.{claim_text, claims_text, HasLines}

module _ (version : Version) where
  pub has_at : (xs : List Claim) (i : ℕ) (x : Claim) → AllByRecursion (HasLines version) (map claim_said xs) → i < length xs → x ≡ get_or xs i x
      → HasLines version (claim_said x)
  has_at [] i x p h r = absurd (omega arith)
  has_at (y ∷ xs) zero x p h r = subst (HasLines version) (ap claim_said (sym r)) p.0
  has_at (y ∷ xs) (suc i) x p h r = has_at xs i x p.1 (omega arith) r

  pub written_more : (text new whole : List ℕ) (xs : List Claim) (i : ℕ) (x : Claim) → new ≡ text ++ claim_text version (claim_said x)
      → i < length xs → x ≡ get_or xs i x
      → text ++ claims_text version (map claim_said (drop i xs)) ≡ whole → new ++ claims_text version (map claim_said (drop (i + 1) xs)) ≡ whole
  written_more text new whole xs i x n h r e =
      ap (λ t. t ++ claims_text version (map claim_said (drop (i + 1) xs))) n
      ∙ append_assoc text (claim_text version (claim_said x)) (claims_text version (map claim_said (drop (i + 1) xs)))
      ∙ ap (λ j. text ++ claims_text version (map claim_said (x ∷ drop j xs))) (add-one i)
      ∙ ap (λ t. text ++ claims_text version (map claim_said t)) (sym (drop-cons xs i x h ∙ ap (λ y. y ∷ drop (suc i) xs) (sym r))) ∙ e

  -- claims of the orders from one on
  all_have : (order more : ℕ) (cs : List ClaimValue) → AreOfOrders version order more cs → AllByRecursion (HasLines version) cs
  all_have order _ _ (ends e h) = ((order, (e, h)), tt)
  all_have order _ _ (runs_out e h) = ((order, (e, h)), tt)
  all_have order (suc more) _ (goes_on {claims = cs} e h hs) = ((order, (e, h)), all_have (suc order) more cs hs)

  -- claims of a command
  pub claims_have : (command : Command) (cs : List ClaimValue) → AreClaimsOf version command cs → AllByRecursion (HasLines version) cs
  claims_have gosper cs h = all_have 0 0 cs h
  claims_have (ct order) cs h = all_have order 0 cs h.1
  claims_have (zeil most) cs h = all_have 0 most cs h.1
  claims_have wz cs h = absurd h
  claims_have (companion b) cs h = absurd h
  claims_have hyper cs h = absurd h
