-- The text of a list of items determines the list, where the text of each item determines the item and has no separator in it.
use Rattle.std.specs.Prelude.{◌≡◌, ◌≢◌, ℕ, Bool, false, codes, List, [], ◌∷◌, map}
use Rattle.std.specs.List.{AllByRecursion}
use Rattle.std.specs.Str.{byte}
use Rattle.std.proofs.Common.{refl, sym}
use Rattle.exact_texts.specs.Texts.{joined, items_text, Only}
use Rattle.exact_texts.proofs.Joined.{joined_determines, only_joined}
use Rattle.document_text.proofs.Spells.{Spells}

-- Items of which each has a text that determines it.
module _ {A : Type 0} {class : ℕ → Bool} {W : A → Type 0} {text : A → List ℕ} (s : Spells class W text) where
  -- the list of the texts has the bytes of the texts, and determines the items
  only_texts : (xs : List A) → AllByRecursion W xs → AllByRecursion (Only class) (map text xs)
  only_texts [] p = tt
  only_texts (x ∷ xs) p = (s.only x p.0, only_texts xs p.1)

  texts_determine : (xs ys : List A) → AllByRecursion W xs → AllByRecursion W ys → map text xs ≡ map text ys → xs ≡ ys
  texts_determine [] [] p q e = refl
  texts_determine [] (y ∷ ys) p q e = cc
  texts_determine (x ∷ xs) [] p q e = cc
  texts_determine (x ∷ xs) (y ∷ ys) p q e =
      let head : text x ≡ text y = cc in
      let tail : map text xs ≡ map text ys = cc in
      let first = s.determines x y p.0 q.0 head in
      let rest = texts_determine xs ys p.1 q.1 tail in
      λ i. first i ∷ rest i

  -- lists of which neither is empty, with any separator that begins outside the class
  pub joined_items_determine : (c : ℕ) (separator : List ℕ) → class c ≡ false → (xs ys : List A) → xs ≢ [] → ys ≢ []
      → AllByRecursion W xs → AllByRecursion W ys
      → joined (c ∷ separator) (map text xs) ≡ joined (c ∷ separator) (map text ys) → xs ≡ ys
  joined_items_determine c separator h [] ys some more p q e = absurd (some refl)
  joined_items_determine c separator h (x ∷ xs) [] some more p q e = absurd (more refl)
  joined_items_determine c separator h (x ∷ xs) (y ∷ ys) some more p q e =
      texts_determine (x ∷ xs) (y ∷ ys) p q
      (joined_determines class c separator h (text x) (text y) (map text xs) (map text ys)
      (only_texts (x ∷ xs) p) (only_texts (y ∷ ys) q) e)

  -- lists of items, with `-` for the empty one, where no item is spelled so
  module _ (comma : class (byte ",") ≡ false) (minus : Only class (byte "-" ∷ [])) (apart : (x : A) → W x → text x ≢ byte "-" ∷ []) where
    no_items : (y : A) (ys : List A) → AllByRecursion W (y ∷ ys) → codes "-" ≢ items_text (map text (y ∷ ys))
    no_items y ys q e =
        let same = joined_determines class (byte ",") (codes " ") comma (codes "-") (text y) [] (map text ys)
        (minus, tt) (only_texts (y ∷ ys) q) e in
        let head : codes "-" ≡ text y = cc in
        apart y q.0 (sym head)

    pub items_determine : (xs ys : List A) → AllByRecursion W xs → AllByRecursion W ys
        → items_text (map text xs) ≡ items_text (map text ys) → xs ≡ ys
    items_determine [] [] p q e = refl
    items_determine [] (y ∷ ys) p q e = absurd (no_items y ys q e)
    items_determine (x ∷ xs) [] p q e = absurd (no_items x xs p (sym e))
    items_determine (x ∷ xs) (y ∷ ys) p q e =
        joined_items_determine (byte ",") (codes " ") comma (x ∷ xs) (y ∷ ys) (λ n. cc) (λ n. cc) p q e

  -- of a class that has the separators too
  pub only_joined_items : (separator : List ℕ) (xs : List A) → Only class separator → AllByRecursion W xs
      → Only class (joined separator (map text xs))
  only_joined_items separator xs h p = only_joined class separator h (map text xs) (only_texts xs p)

  pub only_items : (xs : List A) → Only class (codes ", ") → Only class (codes "-") → AllByRecursion W xs → Only class (items_text (map text xs))
  only_items [] h k p = k
  only_items (x ∷ xs) h k p = only_joined class (codes ", ") h (text x ∷ map text xs) (only_texts (x ∷ xs) p)
