-- Where reading claims one after another stops, and what it takes.
use Rattle.std.specs.Prelude.{◌≡◌, ℕ, zero, suc, ◌+◌, ◌-◌, ◌≤◌, ◌&&◌, nat_lt, Bool, true, false, List, [], ◌∷◌}
use Rattle.std.proofs.Common.{refl, sym, subst, arith}
use Rattle.std.proofs.lemmas.Bool.{ltb-false}
use Rattle.exact_texts.specs.Formats.{Format}
use Rattle.exact_texts.specs.Lines.{Takes}
use Rattle.exact_texts.proofs.Alike.{alike_stops, alike_takes}
use Rattle.exact_texts.proofs.Formats.{takes_in_turn}
use Rattle.exact_texts.proofs.Sequences.{Leaves, leaves_first, leaves_behind}
use Rattle.documents.specs.Documents.{Claim, found, empty, pair, no_pair, sums, no_root, barren, solution, again}
use Rattle.documents.specs.declared.documents.Version.{Version}
use Rattle.document_lines.specs.ClaimTexts.{claim_at, claims_from, says_empty}
use Rattle.document_lines.specs.ClaimLaws.{claim_texts}
use Rattle.document_lines.specs.ClaimListLaws.{rest_of, claims_sequence, claims_alike, next_texts}

module _ {A : Type 0} (F : Format A) (old : List ℕ) (version : Version) where
  sequence_left : (order more : ℕ) (mid : List ℕ) → Leaves F old (claims_from version order more) mid
      → Leaves F old (claims_sequence version order more) mid
  sequence_left order more mid l new s = l new (alike_stops (claims_alike version order more) mid new s)

  -- the claim of this order is left, and with it the others
  pub at_claim : (order more : ℕ) (mid : List ℕ) → order + more ≤ 6 → Leaves F old (claims_from version order more) mid
      → Leaves F old (claim_at version order) mid
  at_claim order more mid small l =
      leaves_first (claim_at version order) (rest_of version order more) mid (sequence_left order more mid l)
      (λ c _. next_texts version order more small c)

  -- an empty claim is read, and more orders are left
  pub behind_claim : (order more less : ℕ) (mid next : List ℕ) (c : Claim) → order ≤ 6 → more ≡ suc less → says_empty c ≡ true
      → Leaves F old (claims_from version order more) mid → Takes (claim_at version order) mid c next
      → Leaves F old (claims_from version (suc order) less) next
  behind_claim order more less mid next c small e says l t =
      rest c says (leaves_behind (claim_at version order) (rest_of version order (suc less)) mid next c
      (sequence_left order (suc less) mid (subst (λ n. Leaves F old (claims_from version order n) mid) e l)) (claim_texts version order small) t)
    where
      rest : (d : Claim) → says_empty d ≡ true → Leaves F old (rest_of version order (suc less) d) next
          → Leaves F old (claims_from version (suc order) less) next
      rest (empty e) h l = l
      rest (found f) h l = absurd cc
      rest (pair f) h l = absurd cc
      rest (no_pair e) h l = absurd cc
      rest (sums s) h l = absurd cc
      rest (no_root c) h l = absurd cc
      rest (barren c) h l = absurd cc
      rest (solution s) h l = absurd cc
      rest (again s) h l = absurd cc

module _ (version : Version) where
  -- a claim and those behind it are claims of the orders from its own on
  pub takes_both : (order more : ℕ) (mid next new : List ℕ) (c : Claim) (cs : List Claim) → Takes (claim_at version order) mid c next
      → Takes (rest_of version order more c) next cs new → Takes (claims_from version order more) mid (c ∷ cs) new
  unfolding claims_alike
  takes_both order more mid next new c cs t u = alike_takes (claims_alike version order more) mid new (c, cs)
      (takes_in_turn (claim_at version order) (rest_of version order more) mid next new c cs t u)

  -- an empty claim in front of those of the next orders
  pub one_more : (order more less : ℕ) (mid next new : List ℕ) (c : Claim) (cs : List Claim) → more ≡ suc less → says_empty c ≡ true
      → Takes (claim_at version order) mid c next → Takes (claims_from version (suc order) less) next cs new
      → Takes (claims_from version order more) mid (c ∷ cs) new
  one_more order more less mid next new c cs e says t u =
      subst (λ n. Takes (claims_from version order n) mid (c ∷ cs) new) (sym e)
      (takes_both order (suc less) mid next new c cs t (rest c says))
    where
      rest : (d : Claim) → says_empty d ≡ true → Takes (rest_of version order (suc less) d) next cs new
      rest (empty e) h = u
      rest (found f) h = absurd cc
      rest (pair f) h = absurd cc
      rest (no_pair e) h = absurd cc
      rest (sums s) h = absurd cc
      rest (no_root c) h = absurd cc
      rest (barren c) h = absurd cc
      rest (solution s) h = absurd cc
      rest (again s) h = absurd cc

  -- nothing behind the last claim
  pub last_one : (order more : ℕ) (mid new : List ℕ) (c : Claim) → (says_empty c ≡ true → more ≡ 0) → Takes (claim_at version order) mid c new
      → Takes (claims_from version order more) mid (c ∷ []) new
  last_one order more mid new c last t = takes_both order more mid new new c [] t (rest more c last)
    where
      rest : (n : ℕ) (d : Claim) → (says_empty d ≡ true → n ≡ 0) → Takes (rest_of version order n d) new [] new
      rest n (found f) h = record { has = refl; parted = refl }
      rest n (pair f) h = record { has = refl; parted = refl }
      rest n (no_pair e) h = record { has = refl; parted = refl }
      rest n (sums s) h = record { has = refl; parted = refl }
      rest n (no_root c) h = record { has = refl; parted = refl }
      rest n (barren c) h = record { has = refl; parted = refl }
      rest n (solution s) h = record { has = refl; parted = refl }
      rest n (again s) h = record { has = refl; parted = refl }
      rest zero (empty e) h = record { has = refl; parted = refl }
      rest (suc n) (empty e) h = let none_left = h refl in absurd (omega (arith, none_left))

-- the test for the last claim
both_false : (b e : Bool) → (b && e) ≡ false → e ≡ true → b ≡ false
both_false true true h k = cc
both_false true false h k = cc
both_false false e h k = refl

pub none_more : (last order : ℕ) (c : Claim) → (nat_lt order last && says_empty c) ≡ false → says_empty c ≡ true → last - order ≡ 0
none_more last order c e says =
    let reached = ltb-false order last (both_false (nat_lt order last) (says_empty c) e says) in
    omega arith
