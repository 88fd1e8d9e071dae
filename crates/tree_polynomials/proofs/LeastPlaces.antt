-- The least place of a name k, from those of the parts.
use Rattle.std.proofs.Common.{◌≡◌, ℕ, ◌+◌, ◌<◌, ◌≤◌, min, refl, ap, sym, ◌∙◌, subst, add-one, arith, List, [], ◌∷◌, ◌++◌, append_assoc, length, take, get_or, Option, MatchOption, ◌⊎◌, inl, inr, append-nil}
use Rattle.std.proofs.lemmas.List.Elements.{All-append, Contains-append_left, Contains-append_right}
use Rattle.std.proofs.lemmas.Bool.{cases_lt}
use Rattle.std.proofs.Math.Seq.{take-suc}
use Rattle.std.specs.Prelude.{All}
use Rattle.std.specs.List.{Contains}
use Rattle.term_classes.specs.NamesOfK.{k_places, parts_k_places, IsLeast}
use Rattle.term_text.specs.View.{tree_of, part_of, parts_of}
use Rattle.term_text.specs.declared.ast.Part.{Part}
use Rattle.term_text.proofs.Views.{part_of-at}

-- the least of a list, where it has an item
abbrev pub IsLeastOf : Option ℕ → List ℕ → Type 0
IsLeastOf found xs = MatchOption found (xs ≡ []) (λ at. IsLeast at xs)

all_weaker : (P Q : ℕ → Type 0) (xs : List ℕ) → ((x : ℕ) → P x → Q x) → All P xs → All Q xs
all_weaker P Q xs f h = λ k d below. f (get_or xs k d) (h k d below)

pub both_least : (a b : ℕ) (xs ys : List ℕ) → IsLeast a xs → IsLeast b ys → IsLeast (min a b) (xs ++ ys)
both_least a b xs ys h k = (
  there,
  All-append (λ place. min a b ≤ place) xs ys (all_weaker (λ place. a ≤ place) (λ place. min a b ≤ place) xs (λ x le. omega arith) h.1)
      (all_weaker (λ place. b ≤ place) (λ place. min a b ≤ place) ys (λ x le. omega arith) k.1),
)
  where
    chosen : (m : ℕ) → (m ≡ a) ⊎ (m ≡ b) → Contains (xs ++ ys) m
    chosen m (inl e) = Contains-append_left xs ys m (subst (Contains xs) (sym e) h.0)
    chosen m (inr e) = Contains-append_right xs ys m (subst (Contains ys) (sym e) k.0)

    there : Contains (xs ++ ys) (min a b)
    there = by (cases_lt a b)
      where
        by : (a < b) ⊎ (b ≤ a) → Contains (xs ++ ys) (min a b)
        by (inl h) = chosen (min a b) (inl (omega arith))
        by (inr h) = chosen (min a b) (inr (omega arith))

places_joined : (ps qs : List Part) → parts_k_places (parts_of (ps ++ qs)) ≡ parts_k_places (parts_of ps) ++ parts_k_places (parts_of qs)
places_joined [] qs = refl
places_joined (p ∷ ps) qs =
    ap (λ t. k_places (part_of p).1 ++ t) (places_joined ps qs)
    ∙ sym (append_assoc (k_places (part_of p).1) (parts_k_places (parts_of ps)) (parts_k_places (parts_of qs)))

-- one more part
pub more_places : (ps : List Part) (i : ℕ) (p : Part) → i < length ps → p ≡ get_or ps i p
    → parts_k_places (parts_of (take (i + 1) ps)) ≡ parts_k_places (parts_of (take i ps)) ++ k_places (tree_of p.ast)
more_places ps i p below is =
    ap (λ qs. parts_k_places (parts_of qs)) (ap (λ j. take j ps) (add-one i) ∙ take-suc ps i p below ∙ ap (λ q. take i ps ++ q ∷ []) (sym is))
    ∙ places_joined (take i ps) (p ∷ [])
    ∙ ap (λ t. parts_k_places (parts_of (take i ps)) ++ t) (append-nil (k_places (part_of p).1) ∙ ap (λ q. k_places q.1) (part_of-at p))
