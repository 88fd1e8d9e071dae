-- Some texts of boxes and what reading them gives.
use Rattle.std.proofs.Common.{List, [], ◌∷◌, refl, pos}
use Rattle.std.specs.Prelude.{codes, negsuc}
use Rattle.grammar.specs.Token.{digits, name_n, name_k, minus, comma, semicolon, Placed}
use Rattle.grammar.specs.Tree.{tree, variable_n, variable_k}
use Rattle.grammar.specs.Grammar.{product_alone, Product, power_alone, postfix_alone, Atom, atom_alone, the_n, the_k}
use Rattle.grammar.specs.Bounds.{plain_bound, minus_bound, bound_alone, bound_more}
use Rattle.grammar.specs.Reading.{HasContents}
use Rattle.grammar.specs.Several.{a_boxed, term_alone, term_more, with_bounds}
use Rattle.grammar.proofs.TermKinds.{continues_where}
use Rattle.grammar.proofs.KnownTexts.{nested_where}

abbrev alone : Atom → Product
alone a = power_alone (postfix_alone (atom_alone a))

abbrev pub box_tokens : List Placed
box_tokens = (0, name_k) ∷ (1, semicolon) ∷ (2, name_n) ∷ (3, semicolon) ∷ (4, digits 0) ∷ (5, comma) ∷ (6, digits 1) ∷ (7, comma)
    ∷ (8, minus) ∷ (10, digits 2) ∷ (11, comma) ∷ (12, digits 3) ∷ []

box : HasContents a_boxed (codes "k;n;0,1,- 2,3") (tree 0 variable_k ∷ tree 2 variable_n ∷ []) (pos 0 ∷ pos 1 ∷ negsuc 1 ∷ pos 3 ∷ [])
box = (
  box_tokens,
  13,
  record {
    are_next = (
      1,
      refl,
      refl,
      (
        1,
        refl,
        refl,
        (
          1,
          refl,
          refl,
          (
            1,
            refl,
            refl,
            (
              1,
              refl,
              refl,
              (
                1,
                refl,
                refl,
                (1, refl, refl, (1, refl, refl, (1, refl, refl, (1, refl, refl, (1, refl, refl, (1, refl, refl, refl)))))),
              ),
            ),
          ),
        ),
      ),
    );
    nested = nested_where [] box_tokens refl;
    continued = continues_where a_boxed box_tokens refl;
  },
  refl,
  with_bounds (term_more (term_alone (product_alone (alone (the_k 0)))) 1 (product_alone (alone (the_n 2)))) 3
      (bound_more (bound_more (bound_more (bound_alone (plain_bound 4 0)) 5 (plain_bound 6 1)) 7 (minus_bound 8 10 2)) 11 (plain_bound 12 3)),
  record { whole = refl; text = refl },
  refl,
  refl,
)
