-- Where a sum and a product stand, and which fault of a token comes first.
use Rattle.std.proofs.Common.{true, false, List, [], ◌∷◌, refl}
use Rattle.std.specs.Prelude.{codes}
use Rattle.grammar.specs.Token.{name_n, name_k, plus, minus, star, slash, bang, Placed}
use Rattle.grammar.specs.Tree.{Tree, tree, variable_n, variable_k, sum_of, product_of, no_parts, part}
use Rattle.grammar.specs.Grammar.{minus_product, product_more, Product, power_alone, power_more, Power, postfix_alone, Atom, atom_alone, the_n, the_k}
use Rattle.grammar.specs.Reading.{IsFirstFault, HasTrees, unknown_name_at}
use Rattle.grammar.specs.Several.{a_term, term_alone, only_terms}
use Rattle.grammar.proofs.TermKinds.{continues_where}
use Rattle.grammar.proofs.KnownTexts.{nested_where}

abbrev alone : Atom → Power
alone a = postfix_alone (atom_alone a)

abbrev sum_tokens : List Placed
sum_tokens = (0, minus) ∷ (1, name_n) ∷ (2, plus) ∷ (3, name_k) ∷ (4, star) ∷ (5, name_n) ∷ (6, slash) ∷ (7, name_k) ∷ (8, star) ∷ (9, name_n) ∷ (10, minus) ∷ (11, name_k) ∷ []

abbrev four_factors : Product
four_factors = power_more (power_more (power_more (power_alone (alone (the_k 3))) false 4 (alone (the_n 5))) true 6 (alone (the_k 7))) false 8 (alone (the_n 9))

abbrev four_factors_tree : Tree
four_factors_tree = tree 4 (product_of (part false (tree 3 variable_k) (part false (tree 5 variable_n) (part true (tree 7 variable_k) (part false (tree 9 variable_n) no_parts)))))

-- a sum stands at its first sign, a product at its first operator
first_places : HasTrees a_term (codes "-n+k*n/k*n-k")
    (tree 0 (sum_of (part true (tree 1 variable_n) (part false four_factors_tree (part true (tree 11 variable_k) no_parts)))) ∷ [])
first_places = (
  sum_tokens,
  12,
  record {
    are_next = (
      1,
      refl,
      refl,
      (
        1,
        refl,
        refl,
        (
          1,
          refl,
          refl,
          (
            1,
            refl,
            refl,
            (
              1,
              refl,
              refl,
              (
                1,
                refl,
                refl,
                (1, refl, refl, (1, refl, refl, (1, refl, refl, (1, refl, refl, (1, refl, refl, (1, refl, refl, refl)))))),
              ),
            ),
          ),
        ),
      ),
    );
    nested = nested_where [] sum_tokens refl;
    continued = continues_where a_term sum_tokens refl;
  },
  refl,
  only_terms (term_alone (product_more (product_more (minus_product 0 (power_alone (alone (the_n 1)))) false 2 four_factors) true 10 (power_alone (alone (the_k 11))))),
  record { whole = refl; text = refl },
  refl,
  refl,
)

abbrev bang_tokens : List Placed
bang_tokens = (0, name_k) ∷ (1, bang) ∷ []

-- a name that is none, where nothing of its sort could stand
unknown_behind : IsFirstFault a_term (codes "k!x") (unknown_name_at 2)
unknown_behind = (
  bang_tokens,
  2,
  record { are_next = (1, refl, refl, (1, refl, refl, refl)); nested = nested_where [] bang_tokens refl; continued = continues_where a_term bang_tokens refl },
  refl,
)
