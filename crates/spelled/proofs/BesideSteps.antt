-- What is found of two values beside each other.
use Rattle.std.specs.Prelude.{◌≡◌, ℕ, List, [], ◌∷◌, Option, Some, None}
use Rattle.std.specs.Option.{MatchOption}
use Rattle.std.proofs.Common.{sym, ap, subst, ◌∙◌, Bor}
use Rattle.exact_texts.specs.Texts.{Only, other_than}
use Rattle.exact_texts.specs.Formats.{Format}
use Rattle.exact_texts.specs.Beside.{beside, IsWithout}
use Rattle.exact_texts.proofs.Separated.{separated, IsFirst}

module _ {A B : Type 0} (F : Format A) (G : Format B) (stop found : ℕ) (tail bytes : List ℕ) (same_stop : found ≡ stop) (same : bytes ≡ tail)
    (without : IsWithout stop F)
    (text front : List ℕ) (more : Option (Bor (List ℕ)))
    (piece : (x : List ℕ) (xs : List (List ℕ)) → Only (other_than found) x → text ≡ separated found bytes (x ∷ xs)
    → IsFirst found bytes x xs front more)
    (p : A × B) (h : (beside F (stop ∷ tail) G).Has p) (e : text ≡ (beside F (stop ∷ tail) G).text p) where
  at_stop : (x : List ℕ) (xs : List (List ℕ)) → Only (other_than stop) x → text ≡ separated stop bytes (x ∷ xs) → IsFirst stop bytes x xs front more
  at_stop = subst (λ s. (x : List ℕ) (xs : List (List ℕ)) → Only (other_than s) x → text ≡ separated s bytes (x ∷ xs)
      → IsFirst s bytes x xs front more) same_stop piece

  first : IsFirst stop bytes (F.text p.0) (G.text p.1 ∷ []) front more
  first = at_stop (F.text p.0) (G.text p.1 ∷ []) (without p.0 h.0) (e ∙ ap (λ t. separated stop t (F.text p.0 ∷ G.text p.1 ∷ [])) (sym same))

  pub front_found : front ≡ F.text p.0
  front_found = first.0

  pub back_found : MatchOption more ⊥ (λ rest. rest.now ≡ G.text p.1)
  back_found = go more first.1
    where
      go : (m : Option (Bor (List ℕ)))
          → MatchOption m (G.text p.1 ∷ [] ≡ []) (λ rest. (G.text p.1 ∷ [] ≡ [] → ⊥) × (rest.now ≡ separated stop bytes (G.text p.1 ∷ [])))
          → MatchOption m ⊥ (λ rest. rest.now ≡ G.text p.1)
      go None x = cc
      go (Some rest) x = x.1
