-- Claims of the orders from one on: their orders, their number, and where an answer stands.
use Rattle.std.specs.Prelude.{◌≡◌, ◌≢◌, ℕ, suc, ◌≤◌, List, [], ◌∷◌, length, Some}
use Rattle.std.specs.List.{AllByRecursion}
use Rattle.std.proofs.Common.{refl, ap, subst, arith}
use Rattle.documents.specs.Documents.{Claim, Command, gosper, ct, zeil, Document}
use Rattle.documents.specs.WellFormed.{AreOfOrders, ends, runs_out, goes_on, AreClaimsOf, IsWellFormed}
use Rattle.documents.specs.Answers.{IsAnswer, HasNoAnswer, HaveOrdersFrom, AnswersLast}
use Rattle.documents.specs.declared.documents.Version.{Version}

module _ (version : Version) where
  orders_rise : (order more : ℕ) (cs : List Claim) → AreOfOrders version order more cs → HaveOrdersFrom order cs
  orders_rise order _ _ (ends e h) = (ap Some e, tt)
  orders_rise order _ _ (runs_out e h) = (ap Some e, tt)
  orders_rise order (suc more) _ (goes_on {claims = cs} e h hs) = (ap Some e, orders_rise (suc order) more cs hs)

  not_none : (order more : ℕ) (cs : List Claim) → AreOfOrders version order more cs → cs ≢ []
  not_none order _ _ (ends e h) = λ n. cc
  not_none order _ _ (runs_out e h) = λ n. cc
  not_none order _ _ (goes_on e h hs) = λ n. cc

  at_most : (order more : ℕ) (cs : List Claim) → AreOfOrders version order more cs → length cs ≤ suc more
  at_most order more _ (ends e h) = omega arith
  at_most order _ _ (runs_out e h) = omega arith
  at_most order (suc more) _ (goes_on {claims = cs} e h hs) = omega (arith, at_most (suc order) more cs hs)

  answers_last : (order more : ℕ) (cs : List Claim) → AreOfOrders version order more cs → AnswersLast cs
  answers_last order _ _ (ends e h) = (λ some. absurd (some refl), tt)
  answers_last order _ _ (runs_out e h) = (λ some. absurd (some refl), tt)
  answers_last order (suc more) _ (goes_on {claims = cs} e h hs) = (λ some never. never, answers_last (suc order) more cs hs)

  all_empty : (order more : ℕ) (cs : List Claim) → AreOfOrders version order more cs → AllByRecursion (λ c. ¬ (IsAnswer c)) cs
      → length cs ≡ suc more
  all_empty order _ _ (ends e h) all = absurd (all.0 tt)
  all_empty order _ _ (runs_out e h) all = refl
  all_empty order (suc more) _ (goes_on {claims = cs} e h hs) all = ap suc (all_empty (suc order) more cs hs all.1)

  one_claim : (cs : List Claim) → length cs ≤ 1 → cs ≢ [] → length cs ≡ 1
  one_claim [] few some = absurd (some refl)
  one_claim (c ∷ cs) few some = omega (arith, few)

  module _ (d : Document) (h : IsWellFormed version d) where
    claims_of : (command : Command) → d.command ≡ command → AreClaimsOf version command d.claims
    claims_of command e = subst (λ c. AreClaimsOf version c d.claims) e h.claims

    pub one_of_gosper : d.command ≡ gosper → (length d.claims ≡ 1) × HaveOrdersFrom 0 d.claims
    one_of_gosper e =
        let claims = claims_of gosper e in
        let few = at_most 0 0 d.claims claims in
        (one_claim d.claims few (not_none 0 0 d.claims claims), orders_rise 0 0 d.claims claims)

    pub one_of_ct : (order : ℕ) → d.command ≡ ct order → (length d.claims ≡ 1) × HaveOrdersFrom order d.claims × (order ≤ 6)
    one_of_ct order e =
        let claims = claims_of (ct order) e in
        (one_claim d.claims (at_most order 0 d.claims claims.1) (not_none order 0 d.claims claims.1), orders_rise order 0 d.claims claims.1, claims.0)

    module _ (most : ℕ) (e : d.command ≡ zeil most) where
      pub orders_of_zeil : HaveOrdersFrom 0 d.claims
      orders_of_zeil = orders_rise 0 most d.claims (claims_of (zeil most) e).1

      pub some_of_zeil : d.claims ≢ []
      some_of_zeil = not_none 0 most d.claims (claims_of (zeil most) e).1

      pub few_of_zeil : (length d.claims ≤ suc most) × (most ≤ 6)
      few_of_zeil = (at_most 0 most d.claims (claims_of (zeil most) e).1, (claims_of (zeil most) e).0)

      pub last_of_zeil : AnswersLast d.claims
      last_of_zeil = answers_last 0 most d.claims (claims_of (zeil most) e).1

      pub all_of_zeil : HasNoAnswer d → length d.claims ≡ suc most
      all_of_zeil none = all_empty 0 most d.claims (claims_of (zeil most) e).1 none
