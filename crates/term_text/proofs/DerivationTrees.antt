-- The code's terms and bounds of a derivation are the definition's.
use Rattle.std.proofs.Common.{◌≡◌, List, [], ◌∷◌, ◌++◌, refl, ap, ◌∙◌, map}
use Rattle.grammar.specs.Token.{semicolon, Placed}
use Rattle.grammar.specs.Grammar.{sum_text}
use Rattle.grammar.specs.Bounds.{bounds_text}
use Rattle.grammar.specs.Several.{Terms, term_alone, term_more, Derivation, only_terms, with_bounds, terms_text, derivation_text, terms_trees, derivation_trees, derivation_bounds}
use Rattle.grammar.proofs.SmallLiterals.{AreSmall, past_terms}
use Rattle.term_text.specs.declared.ast.Ast.{Ast}
use Rattle.term_text.specs.Code.Image.{sum_ast}
use Rattle.term_text.specs.Code.SeveralImage.{terms_asts, contents}
use Rattle.term_text.specs.View.{tree_of}
use Rattle.term_text.proofs.Trees.{tree_of_sum}
use Rattle.term_text.proofs.BoundImages.{numbers_are}

map_last : (l : List Ast) (a : Ast) → map tree_of (l ++ a ∷ []) ≡ map tree_of l ++ tree_of a ∷ []
map_last [] a = refl
map_last (b ∷ l) a = ap (λ z. tree_of b ∷ z) (map_last l a)

trees_of_terms : (ts : Terms) (rest : List Placed) → AreSmall (terms_text ts rest) → map tree_of (terms_asts ts) ≡ terms_trees ts
trees_of_terms (term_alone c) rest h = ap (λ z. z ∷ []) (tree_of_sum c rest h)
trees_of_terms (term_more ts at c) rest h =
    map_last (terms_asts ts) (sum_ast c)
    ∙ ap (λ z. z ++ tree_of (sum_ast c) ∷ []) (trees_of_terms ts ((at, semicolon) ∷ sum_text c rest) h)
    ∙ ap (λ z. terms_trees ts ++ z ∷ []) (tree_of_sum c rest (past_terms ts ((at, semicolon) ∷ sum_text c rest) h).1)

pub contents_are : (d : Derivation) → AreSmall (derivation_text d []) → (map tree_of (contents d).terms ≡ derivation_trees d) × ((contents d).bounds ≡ derivation_bounds d)
contents_are (only_terms ts) h = (trees_of_terms ts [] h, refl)
contents_are (with_bounds ts at bs) h =
    let behind : List Placed = (at, semicolon) ∷ bounds_text bs [] in
    (trees_of_terms ts behind h, numbers_are bs [] (past_terms ts behind h).1)
