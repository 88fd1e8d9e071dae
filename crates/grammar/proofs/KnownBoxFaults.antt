-- The first faults of some texts of boxes.
use Rattle.std.proofs.Common.{◌≡◌, ℕ, List, [], ◌∷◌, ◌++◌, refl, inr}
use Rattle.std.specs.Prelude.{codes}
use Rattle.grammar.specs.Token.{digits, name_n, name_k, minus, opening, comma, semicolon, Placed}
use Rattle.grammar.specs.Grammar.{Product, power_alone, postfix_alone, Atom, atom_alone}
use Rattle.grammar.specs.Reading.{IsFirstFault, unexpected_at}
use Rattle.grammar.specs.Several.{a_boxed}
use Rattle.grammar.proofs.TermKinds.{continues_where, not_continues, not_derived_where}
use Rattle.grammar.proofs.KnownTexts.{nested_where}
use Rattle.grammar.proofs.KnownBoxes.{box_tokens}

abbrev alone : Atom → Product
alone a = power_alone (postfix_alone (atom_alone a))

-- a second minus, a parenthesis, a bound that is missing, a fifth
abbrev minus_tokens : List Placed
minus_tokens = (0, name_k) ∷ (1, semicolon) ∷ (2, name_n) ∷ (3, semicolon) ∷ (4, minus) ∷ []

two_minuses : IsFirstFault a_boxed (codes "k;n;--2") (unexpected_at 5)
two_minuses = (
  minus_tokens,
  5,
  record {
    are_next = (1, refl, refl, (1, refl, refl, (1, refl, refl, (1, refl, refl, (1, refl, refl, refl)))));
    nested = nested_where [] minus_tokens refl;
    continued = continues_where a_boxed minus_tokens refl;
  },
  inr (λ over. not_opening over.0, not_continues a_boxed (minus_tokens ++ (5, minus) ∷ []) refl, refl),
)
  where
    not_opening : minus ≡ opening → ⊥
    not_opening e = cc

abbrev pair_tokens : List Placed
pair_tokens = (0, name_k) ∷ (1, semicolon) ∷ (2, name_n) ∷ (3, semicolon) ∷ []

bracketed_bound : IsFirstFault a_boxed (codes "k;n;(2)") (unexpected_at 4)
bracketed_bound = (
  pair_tokens,
  4,
  record {
    are_next = (1, refl, refl, (1, refl, refl, (1, refl, refl, (1, refl, refl, refl))));
    nested = nested_where [] pair_tokens refl;
    continued = continues_where a_boxed pair_tokens refl;
  },
  inr (λ over. few over.1, not_continues a_boxed (pair_tokens ++ (4, opening) ∷ []) refl, refl),
)
  where
    few : ◌≡◌ {A = ℕ} 0 64 → ⊥
    few e = cc

abbrev three_tokens : List Placed
three_tokens = (0, name_k) ∷ (1, semicolon) ∷ (2, name_n) ∷ (3, semicolon) ∷ (4, digits 0) ∷ (5, comma) ∷ (6, digits 1) ∷ (7, comma) ∷ (8, digits 2) ∷ []

three_bounds : IsFirstFault a_boxed (codes "k;n;0,1,2") (unexpected_at 9)
three_bounds = (
  three_tokens,
  9,
  record {
    are_next = (
      1,
      refl,
      refl,
      (
        1,
        refl,
        refl,
        (
          1,
          refl,
          refl,
          (
            1,
            refl,
            refl,
            (
              1,
              refl,
              refl,
              (
                1,
                refl,
                refl,
                (
                  1,
                  refl,
                  refl,
                  (
                    1,
                    refl,
                    refl,
                    (1, refl, refl, refl),
                  ),
                ),
              ),
            ),
          ),
        ),
      ),
    );
    nested = nested_where [] three_tokens refl;
    continued = continues_where a_boxed three_tokens refl;
  },
  (not_derived_where a_boxed three_tokens refl, refl),
)

five_bounds : IsFirstFault a_boxed (codes "k;n;0,1,- 2,3,") (unexpected_at 13)
five_bounds = (
  box_tokens,
  13,
  record {
    are_next = (
      1,
      refl,
      refl,
      (
        1,
        refl,
        refl,
        (
          1,
          refl,
          refl,
          (
            1,
            refl,
            refl,
            (
              1,
              refl,
              refl,
              (
                1,
                refl,
                refl,
                (1, refl, refl, (1, refl, refl, (1, refl, refl, (1, refl, refl, (1, refl, refl, (1, refl, refl, refl)))))),
              ),
            ),
          ),
        ),
      ),
    );
    nested = nested_where [] box_tokens refl;
    continued = continues_where a_boxed box_tokens refl;
  },
  inr (λ over. not_opening over.0, not_continues a_boxed (box_tokens ++ (13, comma) ∷ []) refl, refl),
)
  where
    not_opening : comma ≡ opening → ⊥
    not_opening e = cc
