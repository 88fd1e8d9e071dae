-- The lines of claims, one after another, tell the claims.
-- These are lemmas: they stand here, and not in proofs/, since the spelling of documents names what stands on them.
use Rattle.std.specs.Prelude.{◌≡◌, ℕ, zero, suc, ◌+◌, ◌≤◌, List, [], ◌∷◌, ◌++◌}
use Rattle.std.proofs.Common.{refl, ap, sym, subst, ◌∙◌, arith}
use Rattle.exact_texts.specs.Formats.{Format, in_turn}
use Rattle.exact_texts.specs.Lines.{AreLines, AreLineTexts}
use Rattle.exact_texts.proofs.Alike.{AreAlike, alike_texts}
use Rattle.exact_texts.proofs.Formats.{line_texts_in_turn}
use Rattle.documents.specs.Documents.{Claim, found, empty, pair, no_pair, sums, no_root, barren, solution, again}
use Rattle.documents.specs.WellFormed.{AreOfOrders, ends, runs_out, goes_on}
use Rattle.documents.specs.declared.documents.Version.{Version}
use Rattle.document_lines.specs.ClaimTexts.{claim_at, claims_text, claims_from}
use Rattle.document_lines.specs.ClaimLaws.{claim_texts}

module _ (version : Version) where
  -- no claims
  abbrev pub no_claims : Format (List Claim)
  no_claims = record { Has = λ cs. cs ≡ []; text = claims_text version }

  none_texts : AreLineTexts no_claims
  none_texts = record {
    some = ([], refl);
    whole = λ cs h. subst (λ t. AreLines (claims_text version t)) (sym h) ([], refl);
    exact = λ cs ds r s h k e. (h ∙ sym k, ap (λ t. claims_text version t ++ r) (sym h) ∙ e ∙ ap (λ t. claims_text version t ++ s) k);
  }

  -- the claims behind a claim of an order
  abbrev pub rest_of : ℕ → ℕ → Claim → Format (List Claim)
  rest_of order more (found f) = no_claims
  rest_of order more (pair f) = no_claims
  rest_of order more (no_pair e) = no_claims
  rest_of order more (sums s) = no_claims
  rest_of order more (no_root c) = no_claims
  rest_of order more (barren c) = no_claims
  rest_of order more (solution s) = no_claims
  rest_of order more (again s) = no_claims
  rest_of order zero (empty e) = no_claims
  rest_of order (suc more) (empty e) = claims_from version (suc order) more

  -- a claim and those behind it
  abbrev pub claims_sequence : ℕ → ℕ → Format (Claim × List Claim)
  claims_sequence order more = in_turn (claim_at version order) (rest_of order more)

  -- a claim and those that may follow it are claims of the orders from its own on, with this text
  pub claims_made : (order more : ℕ) (c : Claim) (cs : List Claim) → (claims_sequence order more).Has (c, cs)
      → AreOfOrders version order more (c ∷ cs) × (claims_text version (c ∷ cs) ≡ (claims_sequence order more).text (c, cs))
  claims_made order more (found f) cs h =
      (subst (λ t. AreOfOrders version order more (found f ∷ t)) (sym h.1) (ends h.0.0 h.0.1), refl)
  claims_made order more (pair f) cs h = absurd h.0
  claims_made order more (no_pair e) cs h = absurd h.0
  claims_made order more (sums s) cs h = absurd h.0
  claims_made order more (no_root c) cs h = absurd h.0
  claims_made order more (barren c) cs h = absurd h.0
  claims_made order more (solution s) cs h = absurd h.0
  claims_made order more (again s) cs h = absurd h.0
  claims_made order zero (empty e) cs h =
      (subst (λ t. AreOfOrders version order zero (empty e ∷ t)) (sym h.1) (runs_out h.0.0 h.0.1), refl)
  claims_made order (suc more) (empty e) cs h = (goes_on h.0.0 h.0.1 h.1, refl)

  -- claims of the orders from one on are a claim of it and those that may follow
  pub claims_back : (order more : ℕ) (cs : List Claim) → AreOfOrders version order more cs
      → (p : Claim × List Claim) × (claims_sequence order more).Has p × (p.0 ∷ p.1 ≡ cs)
  claims_back order more _ (ends {f = f} e h) = ((found f, []), ((e, h), refl), refl)
  claims_back order _ _ (runs_out {e = c} e h) = ((empty c, []), ((e, h), refl), refl)
  claims_back order (suc more) _ (goes_on {e = c} {claims = cs} e h hs) = ((empty c, cs), ((e, h), hs), refl)

  -- claims of the orders from one on are a claim and those behind it
  unfoldable pub claims_alike : (order more : ℕ) → AreAlike (claims_sequence order more) (claims_from version order more)
  claims_alike order more = record { make = λ p. p.0 ∷ p.1; made = λ p h. claims_made order more p.0 p.1 h; back = claims_back order more }

  -- those behind an empty claim tell themselves, where there are any
  abbrev NextTexts : ℕ → ℕ → Type 0
  NextTexts order zero = Unit {0}
  NextTexts order (suc more) = AreLineTexts (claims_from version (suc order) more)

  rest_texts : (order more : ℕ) → NextTexts order more → (c : Claim) → AreLineTexts (rest_of order more c)
  rest_texts order more next (found f) = none_texts
  rest_texts order more next (pair f) = none_texts
  rest_texts order more next (no_pair e) = none_texts
  rest_texts order more next (sums s) = none_texts
  rest_texts order more next (no_root c) = none_texts
  rest_texts order more next (barren c) = none_texts
  rest_texts order more next (solution s) = none_texts
  rest_texts order more next (again s) = none_texts
  rest_texts order zero next (empty e) = none_texts
  rest_texts order (suc more) next (empty e) = next

  these_texts : (order more : ℕ) → order ≤ 6 → NextTexts order more → AreLineTexts (claims_from version order more)
  these_texts order more small next = alike_texts (claims_alike order more)
      (line_texts_in_turn (claim_at version order) (rest_of order more) (claim_texts version order small) (λ c _. rest_texts order more next c))

  -- the lines of claims tell the claims
  pub claims_texts : (order more : ℕ) → order + more ≤ 6 → AreLineTexts (claims_from version order more)
  claims_texts order zero small = these_texts order zero (omega arith) tt
  claims_texts order (suc more) small = these_texts order (suc more) (omega arith) (claims_texts (suc order) more (omega arith))

  -- those that may follow a claim are told by their lines
  pub next_texts : (order more : ℕ) → order + more ≤ 6 → (c : Claim) → AreLineTexts (rest_of order more c)
  next_texts order zero small c = rest_texts order zero tt c
  next_texts order (suc more) small c = rest_texts order (suc more) (claims_texts (suc order) more (omega arith)) c
