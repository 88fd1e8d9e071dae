-- How many terms and bounds a text of a kind has.
use Rattle.std.proofs.Common.{◌≡◌, ℕ, true, false, List, [], ◌∷◌, ◌+◌, length, map, refl, ap, sym, ◌∙◌, subst}
use Rattle.std.specs.Prelude.{ℤ}
use Rattle.std.proofs.lemmas.List.{length-map, length-append}
use Rattle.std.proofs.lemmas.Bool.{eqb-true}
use Rattle.grammar.specs.Bounds.{Bounds, bound_alone, bound_more, bound_value, bounds_values, count}
use Rattle.grammar.specs.Several.{term_alone, term_more, Derivation, only_terms, with_bounds, derivation_trees, derivation_bounds, Kind, a_term, a_pair, a_boxed, a_recurrence, is_whole}
use Rattle.grammar.specs.Reading.{HasContents, HasTrees}
use Rattle.term_text.specs.declared.ast.Ast.{Ast}
use Rattle.term_text.specs.View.{tree_of}

differ : {B : Type 0} → false ≡ true → B
differ e = absurd (no_path e)
  where
    no_path : false ≡ true → ⊥
    no_path d = cc

one_tree : (d : Derivation) → is_whole a_term d ≡ true → length (derivation_trees d) ≡ 1
one_tree (only_terms (term_alone s)) e = refl
one_tree (only_terms (term_more ts at s)) e = differ e
one_tree (with_bounds ts at bs) e = differ e

two_trees : (d : Derivation) → is_whole a_pair d ≡ true → length (derivation_trees d) ≡ 2
two_trees (only_terms (term_more (term_alone s) at t)) e = refl
two_trees (only_terms (term_alone s)) e = differ e
two_trees (only_terms (term_more (term_more ts at s) at_2 t)) e = differ e
two_trees (with_bounds ts at bs) e = differ e

two_boxed : (d : Derivation) → is_whole a_boxed d ≡ true → length (derivation_trees d) ≡ 2
two_boxed (with_bounds (term_more (term_alone s) at t) c bs) e = refl
two_boxed (with_bounds (term_alone s) c bs) e = differ e
two_boxed (with_bounds (term_more (term_more ts at s) at_2 t) c bs) e = differ e
two_boxed (only_terms ts) e = differ e

how_many : (bs : Bounds) → length (bounds_values bs) ≡ count bs
how_many (bound_alone b) = refl
how_many (bound_more bs at b) = length-append (bounds_values bs) (bound_value b ∷ []) ∙ ap (λ n. n + 1) (how_many bs)

four : (d : Derivation) → is_whole a_boxed d ≡ true → length (derivation_bounds d) ≡ 4
four (with_bounds (term_more (term_alone s) at t) c bs) e = how_many bs ∙ eqb-true (count bs) 4 e
four (with_bounds (term_alone s) c bs) e = differ e
four (with_bounds (term_more (term_more ts at s) at_2 t) c bs) e = differ e
four (only_terms ts) e = differ e

pub one_term : (text : List ℕ) (l : List Ast) (b : List ℤ) → HasContents a_term text (map tree_of l) b → length l ≡ 1
one_term text l b h = sym (length-map l tree_of) ∙ ap length h.6 ∙ one_tree h.4 h.5.whole

pub two_terms : (text : List ℕ) (l : List Ast) (b : List ℤ) → HasContents a_pair text (map tree_of l) b → length l ≡ 2
two_terms text l b h = sym (length-map l tree_of) ∙ ap length h.6 ∙ two_trees h.4 h.5.whole

pub two_of_box : (text : List ℕ) (l : List Ast) (b : List ℤ) → HasContents a_boxed text (map tree_of l) b → length l ≡ 2
two_of_box text l b h = sym (length-map l tree_of) ∙ ap length h.6 ∙ two_boxed h.4 h.5.whole

pub four_of_box : (text : List ℕ) (l : List Ast) (b : List ℤ) → HasContents a_boxed text (map tree_of l) b → length b ≡ 4
four_of_box text l b h = ap length h.7 ∙ four h.4 h.5.whole

-- a text of another kind has no bounds
abbrev HasNone : Kind → Type 0
HasNone kind = (d : Derivation) → is_whole kind d ≡ true → derivation_bounds d ≡ []

pub none_of_term : HasNone a_term
none_of_term (only_terms ts) e = refl
none_of_term (with_bounds ts at bs) e = differ e

pub none_of_pair : HasNone a_pair
none_of_pair (only_terms ts) e = refl
none_of_pair (with_bounds ts at bs) e = differ e

pub none_of_recurrence : HasNone a_recurrence
none_of_recurrence (only_terms ts) e = refl
none_of_recurrence (with_bounds ts at bs) e = differ e

pub has_trees : (kind : Kind) (text : List ℕ) (l : List Ast) (b : List ℤ) → HasNone kind → HasContents kind text (map tree_of l) b → HasTrees kind text (map tree_of l)
has_trees kind text l b none h = subst (HasContents kind text (map tree_of l)) (h.7 ∙ none h.4 h.5.whole) h

-- two trees and four bounds, in whatever words
pub box_of : (text : List ℕ) (l : List Ast) (b : List ℤ) (x y : Ast) (n0 n1 k0 k1 : ℤ) → HasContents a_boxed text (map tree_of l) b →
    l ≡ x ∷ y ∷ [] → b ≡ n0 ∷ n1 ∷ k0 ∷ k1 ∷ [] → HasContents a_boxed text (tree_of x ∷ tree_of y ∷ []) (n0 ∷ n1 ∷ k0 ∷ k1 ∷ [])
box_of text l b x y n0 n1 k0 k1 h two four =
    subst (HasContents a_boxed text (tree_of x ∷ tree_of y ∷ [])) four (subst (λ z. HasContents a_boxed text (map tree_of z) b) two h)
