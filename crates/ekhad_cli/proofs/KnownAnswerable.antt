-- A text that `gosper` answers, so that the law of answerable texts speaks of some: `k`.
use Rattle.std.proofs.Common.{◌≡◌, ℕ, zero, suc, [], ◌∷◌, refl, subst, arith}
use Rattle.std.specs.Prelude.{pos, codes, Ok}
use Rattle.ring_laws.specs.Meaning.{Meaning, number, listed}
use Rattle.poly_laws.specs.Lists.{coefficient_at}
use Rattle.poly_laws.specs.Values.{level}
use Rattle.hypergeometric.specs.PlainTerm.{plain_term}
use Rattle.grammar.specs.Token.{name_k}
use Rattle.grammar.specs.Tree.{Tree, tree, variable_k}
use Rattle.grammar.specs.Grammar.{product_alone, power_alone, postfix_alone, atom_alone, the_k}
use Rattle.grammar.specs.Several.{a_term, term_alone, only_terms}
use Rattle.grammar.specs.Reading.{HasTrees}
use Rattle.grammar.proofs.KnownTexts.{nested_where}
use Rattle.grammar.proofs.TermKinds.{continues_where}
use Rattle.steps.specs.Operations.{IsInBounds}
use Rattle.steps.specs.Steps.{IsTooLargeAt}
use Rattle.term_classes.specs.Walk.{class_of}
use Rattle.ekhad_cli.specs.FirstRun.{IsSmallConstant, IsFirstRunTerm}
use Rattle.ekhad_cli.specs.Answerable.{IsAnswerable}
use Rattle.ekhad_cli.specs.declared.words.Command.TheVariants.{Gosper}

abbrev form_k : Meaning
form_k = listed (listed [] ∷ listed (number (pos 1) ∷ []) ∷ [])

abbrev tree_of_k : Tree
tree_of_k = tree 0 variable_k

read_k : HasTrees a_term (codes "k") (tree_of_k ∷ [])
read_k = (
  (0, name_k) ∷ [],
  1,
  record { are_next = (1, refl, refl, refl); nested = nested_where [] ((0, name_k) ∷ []) refl; continued = continues_where a_term ((0, name_k) ∷ []) refl },
  refl,
  only_terms (term_alone (product_alone (power_alone (postfix_alone (atom_alone (the_k 0)))))),
  record { whole = refl; text = refl },
  refl,
  refl,
)

class_of_k : (class_of tree_of_k).outcome ≡ Ok (plain_term (pos 1) form_k)
class_of_k = refl

fits : (level 2).ops.Fits form_k
fits = (omega arith, by_power)
  where
    one : (j : ℕ) → (level 0).ops.Fits (coefficient_at (level 0).ops (number (pos 1) ∷ []) j)
    one zero = omega arith
    one (suc j) = omega arith

    by_power : (k : ℕ) → (level 1).ops.Fits (coefficient_at (level 1).ops (listed [] ∷ listed (number (pos 1) ∷ []) ∷ []) k)
    by_power zero = (omega arith, λ j. omega arith)
    by_power (suc zero) = (omega arith, one)
    by_power (suc (suc k)) = (omega arith, λ j. omega arith)

in_bounds : (at : ℕ) → ¬ IsTooLargeAt (class_of tree_of_k) at
in_bounds at (zero, o, small, is, out) = out.1 (subst (λ q. IsInBounds q.counterpart) is fits)
in_bounds at (suc index, o, small, is, out) = omega (arith, small)

small_constants : (power : ℕ) → IsSmallConstant (coefficient_at (level 1).ops (listed [] ∷ listed (number (pos 1) ∷ []) ∷ []) power)
small_constants zero = (pos 0, omega arith, refl)
small_constants (suc zero) = (pos 1, omega arith, refl)
small_constants (suc (suc power)) = (pos 0, omega arith, refl)

answered : IsFirstRunTerm (plain_term (pos 1) form_k)
answered = record {
  scaled_polynomial = record { n_base = refl; k_base = refl; up = refl; down = refl; over = refl; guard = refl };
  whole_scale = refl;
  small_scale = omega arith;
  poly = record { degree = omega arith; constants = small_constants };
}

k_is_answerable : IsAnswerable Gosper (codes "k")
k_is_answerable = (
  omega arith,
  record {
    tree = tree_of_k;
    read = read_k;
    term = plain_term (pos 1) form_k;
    class = class_of_k;
    answered = answered;
    in_bounds = in_bounds;
  },
)
