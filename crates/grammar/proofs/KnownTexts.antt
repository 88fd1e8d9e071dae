-- Some texts and what reading them gives.
use Rattle.std.proofs.Common.{◌≡◌, ℕ, Bool, true, false, List, [], ◌∷◌, ◌++◌, refl, ap, sym, ◌∙◌, inr, length}
use Rattle.std.specs.Prelude.{codes, nat_lt, pos, if◌then◌else◌}
use Rattle.grammar.specs.Token.{digits, name_n, name_k, name_binomial, minus, star, slash, caret, bang, opening, closing, comma, semicolon, Placed, with_token, IsNested64}
use Rattle.grammar.specs.Tree.{tree, literal, variable_n, variable_k, sum_of, product_of, power_of, binomial_of, no_parts, part}
use Rattle.grammar.specs.Grammar.{product_alone, minus_product, power_alone, power_more, postfix_alone, raised, atom_alone, number, the_n, the_k, choose}
use Rattle.grammar.specs.Reading.{IsFirstFault, HasTrees, unexpected_at, unclosed_at, empty_input}
use Rattle.grammar.specs.Several.{a_term, a_pair, a_recurrence, term_alone, term_more, only_terms}
use Rattle.grammar.proofs.TermKinds.{continues_where, not_continues, not_derived_where}

-- texts of few parentheses
abbrev pub stays_below : List ℕ → List Placed → Bool
stays_below places [] = true
stays_below places (t ∷ ts) = if nat_lt (length places) 64 then stays_below (with_token places t) ts else false

pub nested_where : (places : List ℕ) (ts : List Placed) → stays_below places ts ≡ true → IsNested64 places ts
nested_where places [] e = tt
nested_where places (t ∷ ts) e = go (nat_lt (length places) 64) refl e (nested_where (with_token places t) ts)
  where
    differ : false ≡ true → ⊥
    differ d = cc

    go : (b : Bool) → nat_lt (length places) 64 ≡ b → (if b then stays_below (with_token places t) ts else false) ≡ true →
        (stays_below (with_token places t) ts ≡ true → IsNested64 (with_token places t) ts) → IsNested64 places (t ∷ ts)
    go true f e ih = (λ over. differ (sym (ap (λ n. nat_lt n 64) over.1) ∙ f), ih e)
    go false f e ih = absurd (differ e)

abbrev square_tokens : List Placed
square_tokens = (0, name_k) ∷ (1, caret) ∷ (2, digits 2) ∷ []

square : HasTrees a_term (codes "k^2") ((tree 1 (power_of (tree 0 variable_k) (tree 2 (literal (pos 2))))) ∷ [])
square = (
  square_tokens,
  3,
  record {
    are_next = (1, refl, refl, (1, refl, refl, (1, refl, refl, refl)));
    nested = nested_where [] square_tokens refl;
    continued = continues_where a_term square_tokens refl;
  },
  refl,
  only_terms (term_alone (product_alone (power_alone (raised (atom_alone (the_k 0)) 1 (number 2 2))))),
  record { whole = refl; text = refl },
  refl,
  refl,
)

abbrev halved_tokens : List Placed
halved_tokens = (0, minus) ∷ (1, name_k) ∷ (2, star) ∷ (3, name_n) ∷ (4, slash) ∷ (5, digits 2) ∷ []

halved : HasTrees a_term (codes "-k*n/2") ((tree 0 (sum_of (part true (tree 2 (product_of (part false (tree 1 variable_k) (part false (tree 3 variable_n) (part true (tree 5 (literal (pos 2))) no_parts))))) no_parts))) ∷ [])
halved = (
  halved_tokens,
  6,
  record {
    are_next = (1, refl, refl, (1, refl, refl, (1, refl, refl, (1, refl, refl, (1, refl, refl, (1, refl, refl, refl))))));
    nested = nested_where [] halved_tokens refl;
    continued = continues_where a_term halved_tokens refl;
  },
  refl,
  only_terms (term_alone (minus_product 0 (power_more (power_more (power_alone (postfix_alone (atom_alone (the_k 1)))) false 2 (postfix_alone (atom_alone (the_n 3)))) true 4 (postfix_alone (atom_alone (number 5 2)))))),
  record { whole = refl; text = refl },
  refl,
  refl,
)

abbrev chosen_tokens : List Placed
chosen_tokens = (0, name_binomial) ∷ (8, opening) ∷ (9, name_n) ∷ (10, comma) ∷ (12, name_k) ∷ (13, closing) ∷ []

chosen : HasTrees a_term (codes "binomial(n, k)") ((tree 0 (binomial_of (tree 9 variable_n) (tree 12 variable_k))) ∷ [])
chosen = (
  chosen_tokens,
  14,
  record {
    are_next = (8, refl, refl, (1, refl, refl, (1, refl, refl, (1, refl, refl, (1, refl, refl, (1, refl, refl, refl))))));
    nested = nested_where [] chosen_tokens refl;
    continued = continues_where a_term chosen_tokens refl;
  },
  refl,
  only_terms (term_alone (product_alone (power_alone (postfix_alone (atom_alone (choose 0 8 (product_alone (power_alone (postfix_alone (atom_alone (the_n 9))))) 10 (product_alone (power_alone (postfix_alone (atom_alone (the_k 12))))) 13)))))),
  record { whole = refl; text = refl },
  refl,
  refl,
)

abbrev two_bangs_tokens : List Placed
two_bangs_tokens = (0, name_k) ∷ (1, bang) ∷ []

two_bangs : IsFirstFault a_term (codes "k!!") (unexpected_at 2)
two_bangs = (
  two_bangs_tokens,
  2,
  record { are_next = (1, refl, refl, (1, refl, refl, refl)); nested = nested_where [] two_bangs_tokens refl; continued = continues_where a_term two_bangs_tokens refl },
  inr (λ over. not_opening over.0, not_continues a_term (two_bangs_tokens ++ (2, bang) ∷ []) refl, refl),
)
  where
    not_opening : bang ≡ opening → ⊥
    not_opening e = cc

abbrev left_open_tokens : List Placed
left_open_tokens = (0, opening) ∷ []

left_open : IsFirstFault a_term (codes "(") (unclosed_at 0)
left_open = (
  left_open_tokens,
  1,
  record { are_next = (1, refl, refl, refl); nested = nested_where [] left_open_tokens refl; continued = continues_where a_term left_open_tokens refl },
  (not_derived_where a_term left_open_tokens refl, refl),
)

abbrev nothing_tokens : List Placed
nothing_tokens = []

nothing : IsFirstFault a_term (codes " ") empty_input
nothing = (
  nothing_tokens,
  0,
  record { are_next = refl; nested = nested_where [] nothing_tokens refl; continued = continues_where a_term nothing_tokens refl },
  (not_derived_where a_term nothing_tokens refl, refl),
)

-- a pair, and a recurrence that has ended too early
abbrev pair_tokens : List Placed
pair_tokens = (0, name_k) ∷ (1, semicolon) ∷ (2, name_n) ∷ []

pair : HasTrees a_pair (codes "k;n") (tree 0 variable_k ∷ tree 2 variable_n ∷ [])
pair = (
  pair_tokens,
  3,
  record {
    are_next = (1, refl, refl, (1, refl, refl, (1, refl, refl, refl)));
    nested = nested_where [] pair_tokens refl;
    continued = continues_where a_pair pair_tokens refl;
  },
  refl,
  only_terms (term_more (term_alone (product_alone (power_alone (postfix_alone (atom_alone (the_k 0)))))) 1 (product_alone (power_alone (postfix_alone (atom_alone (the_n 2)))))),
  record { whole = refl; text = refl },
  refl,
  refl,
)

abbrev lone_tokens : List Placed
lone_tokens = (0, name_k) ∷ []

lone : IsFirstFault a_recurrence (codes "k") (unexpected_at 1)
lone = (
  lone_tokens,
  1,
  record { are_next = (1, refl, refl, refl); nested = nested_where [] lone_tokens refl; continued = continues_where a_recurrence lone_tokens refl },
  (not_derived_where a_recurrence lone_tokens refl, refl),
)
