-- Right claims are well chosen, whatever the pieces of the term and their normal form are called.
use Rattle.std.proofs.Common.{ℕ, suc, List, [], ◌∷◌, refl, sym, subst}
use Rattle.std.specs.List.{AllByRecursion}
use Rattle.hypergeometric.specs.ProperTerm.{ProperTerm}
use Rattle.hypergeometric.specs.Claim.{Claim}
use Rattle.term_pieces.specs.Pieces.{top_at}
use Rattle.term_pieces.specs.Tops.{top_polynomial}
use Rattle.pole_laws.specs.Orders.{tops_of, pair_top}
use Rattle.right_claims.specs.Choice.{IsBestClaim, IsWellChosen}
use Rattle.right_claims.specs.Claims.{PrintedForm, Range, TermClaim, found, empty, pair, no_pair}
use Rattle.right_claims.specs.Orders.{IsFoundOrder, IsPairOrder}
use Rattle.right_claims.specs.RightClaims.{IsRight, IsRightPair, AreOfOrders, ends, runs_out, goes_on, IsOne, Command, gosper, ct, zeil, wz, AreRightClaims}
use Rattle.right_claims.proofs.BestClaims.{best}
use Rattle.right_claims.proofs.Listings.{listing_length}
use Rattle.right_claims.proofs.OnePieces.{one_tops, one_normal, one_pair_top}

module _ (f : ProperTerm) where
  found_chosen : (order : ℕ) (form : PrintedForm) (c : Claim) (range : Range) → IsFoundOrder f order form c range → IsWellChosen f (found order form c range)
  found_chosen order form c range h pieces normal are is =
      subst (λ n. IsBestClaim n (tops_of pieces order) c)
      (one_normal f order h.pieces pieces h.setting.are_pieces are h.normal normal h.setting.is_normal is)
      (subst (λ ts. IsBestClaim h.normal ts c) (one_tops f order h.pieces pieces h.setting.are_pieces are)
      (best h.pieces h.normal (tops_of h.pieces order) (suc order) c (listing_length (suc order) (λ j. top_polynomial (top_at h.pieces j)))
      h.setting.is_normal.poles.sorted h.left_by))

  pair_chosen : (form : PrintedForm) (c : Claim) (range : Range) → IsPairOrder f form c range → IsWellChosen f (pair form c range)
  pair_chosen form c range h pieces normal are is =
      subst (λ n. IsBestClaim n (pair_top pieces) c) (one_normal f 1 h.pieces pieces h.setting.are_pieces are h.normal normal h.setting.is_normal is)
      (subst (λ ts. IsBestClaim h.normal ts c) (one_pair_top f h.pieces pieces h.setting.are_pieces are)
      (best h.pieces h.normal (pair_top h.pieces) 1 c refl h.setting.is_normal.poles.sorted h.left_by))

  right_chosen : (order : ℕ) (x : TermClaim) → IsRight f order x → IsWellChosen f x
  right_chosen order (found at form c range) h = found_chosen at form c range (subst (λ n. IsFoundOrder f n form c range) (sym h.0) h.1)
  right_chosen order (empty at form) h = tt
  right_chosen order (pair form c range) h = absurd h
  right_chosen order (no_pair form) h = absurd h

  right_pair_chosen : (x : TermClaim) → IsRightPair f x → IsWellChosen f x
  right_pair_chosen (found at form c range) h = absurd h
  right_pair_chosen (empty at form) h = absurd h
  right_pair_chosen (pair form c range) h = pair_chosen form c range h
  right_pair_chosen (no_pair form) h = tt

  of_orders_chosen : (order more : ℕ) (xs : List TermClaim) → AreOfOrders f order more xs → AllByRecursion (IsWellChosen f) xs
  of_orders_chosen order _ _ (ends {form} {c} {range} h) = (found_chosen order form c range h, tt)
  of_orders_chosen order _ _ (runs_out h) = (tt, tt)
  of_orders_chosen order (suc more) _ (goes_on {claims = xs} h hs) = (tt, of_orders_chosen (suc order) more xs hs)

  one_chosen : (P : TermClaim → Type 0) → ((x : TermClaim) → P x → IsWellChosen f x) → (xs : List TermClaim) → IsOne P xs
      → AllByRecursion (IsWellChosen f) xs
  one_chosen P each [] h = absurd h
  one_chosen P each (x ∷ []) h = (each x h, tt)
  one_chosen P each (x ∷ y ∷ more) h = absurd h

  pub answers_chosen : (command : Command) (xs : List TermClaim) → AreRightClaims command f xs → AllByRecursion (IsWellChosen f) xs
  answers_chosen gosper xs h = one_chosen (IsRight f 0) (right_chosen 0) xs h
  answers_chosen (ct order) xs h = one_chosen (IsRight f order) (right_chosen order) xs h
  answers_chosen (zeil most) xs h = of_orders_chosen 0 most xs h
  answers_chosen wz xs h = one_chosen (IsRightPair f) right_pair_chosen xs h
