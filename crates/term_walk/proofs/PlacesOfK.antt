-- The least place of a name k is the least of all places of one.
use Rattle.std.proofs.Common.{◌≡◌, ℕ, ◌≤◌, refl, ap, sym, subst, arith, List, [], ◌∷◌, ◌++◌, Option, Some, None, append-nil}
use Rattle.std.specs.List.{Contains}
use Rattle.std.proofs.lemmas.List.Elements.{All-contains, All-push, Contains-push}
use Rattle.grammar.specs.Tree.{Tree}
use Rattle.term_classes.specs.NamesOfK.{k_places, IsLeast, least_place, least_of, place_of_k}
use Rattle.tree_polynomials.proofs.LeastPlaces.{IsLeastOf, both_least}

joined_least : (a b : Option ℕ) (xs ys : List ℕ) → IsLeastOf a xs → IsLeastOf b ys → IsLeastOf (least_place a b) (xs ++ ys)
joined_least None b xs ys h k = subst (λ zs. IsLeastOf b (zs ++ ys)) (sym h) k
joined_least (Some a) None xs ys h k = subst (λ zs. IsLeast a (xs ++ zs)) (sym k) (subst (IsLeast a) (sym (append-nil xs)) h)
joined_least (Some a) (Some b) xs ys h k = both_least a b xs ys h k

alone : (at : ℕ) → IsLeast at (at ∷ [])
alone at = (Contains-push [] at, All-push (λ place. at ≤ place) [] at (λ i x h. absurd (omega (arith, h))) (omega arith))

least_is : (xs : List ℕ) → IsLeastOf (least_of xs) xs
least_is [] = refl
least_is (x ∷ xs) = joined_least (Some x) (least_of xs) (x ∷ []) xs (alone x) (least_is xs)

below : (a b : ℕ) (xs : List ℕ) → IsLeast a xs → IsLeast b xs → a ≤ b
below a b xs h k = All-contains (λ place. a ≤ place) xs b h.1 k.0

nothing_in : (a : ℕ) → Contains [] a → ⊥
nothing_in a h = All-contains (λ _. ⊥) [] a (λ i x k. absurd (omega (arith, k))) h

same_least : (a b : Option ℕ) (xs : List ℕ) → IsLeastOf a xs → IsLeastOf b xs → a ≡ b
same_least None None xs h k = refl
same_least None (Some b) xs h k = absurd (nothing_in b (subst (λ zs. Contains zs b) h k.0))
same_least (Some a) None xs h k = absurd (nothing_in a (subst (λ zs. Contains zs a) k h.0))
same_least (Some a) (Some b) xs h k = let same : a ≡ b = omega (arith, below a b xs h k, below b a xs k h) in ap Some same

-- what is the least of all places is the place that is sought
pub same_place : (found : Option ℕ) (t : Tree) → IsLeastOf found (k_places t) → found ≡ place_of_k t
same_place found t h = same_least found (place_of_k t) (k_places t) h (least_is (k_places t))
