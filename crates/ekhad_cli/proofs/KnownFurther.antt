-- Terms that aren't answered today, so that the causes of their refusals speak of some: `k!`, which passes no limit at the order 0, and
-- `(8*k)!^12`, whose q0 has the degree 96.
use Rattle.std.proofs.Common.{◌≡◌, ◌≤◌, ℕ, zero, suc, [], ◌∷◌, refl, arith}
use Rattle.std.specs.Prelude.{pos, codes, false, List, Ok}
use Rattle.poly_laws.specs.Values.{level}
use Rattle.hypergeometric.specs.LinearForm.{Factor, FactorList}
use Rattle.hypergeometric.specs.Forms.{form_with}
use Rattle.hypergeometric.specs.FactorLists.{factor_with}
use Rattle.hypergeometric.specs.Fraction.{of_whole}
use Rattle.hypergeometric.specs.ProperTerm.{ProperTerm}
use Rattle.grammar.specs.Token.{Placed, name_k, bang, opening, closing, star, caret, digits}
use Rattle.grammar.specs.Tokens.{HasTokens}
use Rattle.grammar.specs.Tree.{Tree, tree, variable_k, literal, product_of, power_of, factorial_of, part, no_parts}
use Rattle.grammar.specs.Grammar.{product_alone, power_alone, power_more, postfix_alone, raised, atom_alone, factorial_at, number, the_k, bracket}
use Rattle.grammar.specs.Several.{a_term, term_alone, only_terms}
use Rattle.grammar.specs.Reading.{HasTrees}
use Rattle.grammar.proofs.KnownTexts.{nested_where}
use Rattle.grammar.proofs.TermKinds.{continues_where}
use Rattle.steps.specs.declared.limits.LimitName.TheVariants.{Degree}
use Rattle.steps.specs.declared.faults.StepFault.TheVariants.{Limit}
use Rattle.term_pieces.specs.Products.{IsProductOf}
use Rattle.term_pieces.specs.Pieces.{Pieces, ArePiecesOf, top_at, top_number, top_forms, q_forms, r_forms, poly_at_later_n}
use Rattle.term_pieces.specs.NormalForm.{Normal}
use Rattle.term_pieces.proofs.SomePieces.{is_product}
use Rattle.term_pieces.proofs.SomeNormalForm.{is_normal_form}
use Rattle.term_classes.specs.Walk.{class_of}
use Rattle.ekhad_cli.specs.FirstRun.{IsFirstRunTerm}
use Rattle.ekhad_cli.specs.OrderSteps.{IsNormalAt}
use Rattle.ekhad_cli.specs.Gosper.{HasFurtherTerm}
use Rattle.ekhad_cli.specs.Commands.{IsCause}
use Rattle.ekhad_cli.specs.declared.words.Command.TheVariants.{Gosper}
use Rattle.ekhad_cli.specs.declared.refusal.Refusal.TheVariants.{OrderLimit, Unbuilt}
use Rattle.ekhad_cli.proofs.OrderAnswers.{order_cause}

-- a product of factorials of forms
abbrev factorials : List Factor → ProperTerm
factorials up = record {
  poly = (level 2).ops.unit;
  scale = of_whole (pos 1);
  n_base = of_whole (pos 1);
  k_base = of_whole (pos 1);
  up = up;
  down = [];
  over = [];
  guard = [];
}

abbrev factorial_of_k : ProperTerm
factorial_of_k = factorials (factor_with (form_with (pos 0) (pos 1) (pos 0)) 1 ∷ [])

abbrev factorial_tree : Tree
factorial_tree = tree 1 (factorial_of (tree 0 variable_k))

abbrev factorial_tokens : List Placed
factorial_tokens = (0, name_k) ∷ (1, bang) ∷ []

read_factorial : HasTrees a_term (codes "k!") (factorial_tree ∷ [])
read_factorial = (
  factorial_tokens,
  2,
  record {
    are_next = (1, refl, refl, (1, refl, refl, refl));
    nested = nested_where [] factorial_tokens refl;
    continued = continues_where a_term factorial_tokens refl;
  },
  refl,
  only_terms (term_alone (product_alone (power_alone (postfix_alone (factorial_at (the_k 0) 1))))),
  record { whole = refl; text = refl },
  refl,
  refl,
)

class_of_factorial : (class_of factorial_tree).outcome ≡ Ok factorial_of_k
class_of_factorial = refl

no_first_run : ¬ IsFirstRunTerm factorial_of_k
no_first_run answered = let none = answered.scaled_polynomial.up in cc

-- a list of scale 1
abbrev forms : List Factor → FactorList
forms xs = record { scale = pos 1; factors = xs }

-- q0 is k + 1, r0 and p_0 are 1, and the carrier is k!
abbrev factorial_pieces : Pieces
factorial_pieces = record {
  tops = record { poly = (level 2).ops.unit; factors = forms [] } ∷ [];
  q0 = forms (factor_with (form_with (pos 0) (pos 1) (pos 1)) 1 ∷ []);
  r0 = forms [];
  carrier = factorial_of_k;
}

are_pieces : ArePiecesOf factorial_pieces factorial_of_k 0
unfolding lib.IntN.pow lib.IntN.one
are_pieces = record {
  count = refl;
  poly = poly;
  factors = factors;
  q0 = is_product (pos 1) (q_forms factorial_of_k 0);
  r0 = is_product (pos 1) (r_forms factorial_of_k 0);
  carrier = refl;
}
  where
    poly : (j : ℕ) → j ≤ 0 → (top_at factorial_pieces j).poly ≡ poly_at_later_n factorial_of_k.poly j
    poly zero l = refl
    poly (suc j) l = absurd (omega (arith, l))

    factors : (j : ℕ) → j ≤ 0 → IsProductOf (top_at factorial_pieces j).factors (top_number factorial_of_k 0 j) (top_forms factorial_of_k 0 j)
    factors zero l = is_product (pos 1) []
    factors (suc j) l = absurd (omega (arith, l))

-- nothing matches
abbrev factorial_normal : Normal
factorial_normal = record { matches = []; q = factorial_pieces.q0; r = forms []; g = forms []; poles = forms [] }

is_normal : IsNormalAt factorial_normal factorial_of_k 0
unfolding lib.IntN.pow lib.IntN.one
is_normal = record {
  pieces = factorial_pieces;
  are_pieces = are_pieces;
  is_normal = is_normal_form factorial_pieces.q0 factorial_pieces.r0;
}

factorial_is_further : HasFurtherTerm (codes "k!")
factorial_is_further = record {
  tree = factorial_tree;
  read = read_factorial;
  term = factorial_of_k;
  class = class_of_factorial;
  further = no_first_run;
  normal = factorial_normal;
  is_normal = is_normal;
}

factorial_is_unbuilt : IsCause Gosper (codes "k!") Unbuilt
unfolding factorial_is_further
factorial_is_unbuilt = (omega arith, (factorial_is_further, refl))

abbrev steep : ProperTerm
steep = factorials (factor_with (form_with (pos 0) (pos 8) (pos 0)) 12 ∷ [])

abbrev steep_tree : Tree
steep_tree =
    let argument = tree 2 (product_of (part false (tree 1 (literal (pos 8))) (part false (tree 3 variable_k) no_parts))) in
    tree 6 (power_of (tree 5 (factorial_of argument)) (tree 7 (literal (pos 12))))

abbrev steep_tokens : List Placed
steep_tokens = (0, opening) ∷ (1, digits 8) ∷ (2, star) ∷ (3, name_k) ∷ (4, closing) ∷ (5, bang) ∷ (6, caret) ∷ (7, digits 12) ∷ []

steep_next : HasTokens (codes "(8*k)!^12") 0 steep_tokens 9
steep_next =
    (1, refl, refl, (1, refl, refl, (1, refl, refl, (1, refl, refl, (1, refl, refl, (1, refl, refl, (1, refl, refl, (2, refl, refl, refl))))))))

read_steep : HasTrees a_term (codes "(8*k)!^12") (steep_tree ∷ [])
read_steep = (
  steep_tokens,
  9,
  record {
    are_next = steep_next;
    nested = nested_where [] steep_tokens refl;
    continued = continues_where a_term steep_tokens refl;
  },
  refl,
  only_terms (term_alone (product_alone (power_alone (raised
      (factorial_at (bracket 0 (product_alone (power_more (power_alone (postfix_alone (atom_alone (number 1 8)))) false 2
      (postfix_alone (atom_alone (the_k 3))))) 4) 5) 6 (number 7 12))))),
  record { whole = refl; text = refl },
  refl,
  refl,
)

class_of_steep : (class_of steep_tree).outcome ≡ Ok steep
class_of_steep = refl

steep_is_refused : IsCause Gosper (codes "(8*k)!^12") (OrderLimit Degree 96)
steep_is_refused =
    order_cause (codes "(8*k)!^12") steep_tree steep (omega arith) read_steep class_of_steep
    (λ answered. let none = answered.scaled_polynomial.up in cc) (Limit Degree 96) (λ normal at. refl)
