-- The coefficients of the trees of a recurrence, one after another.
use Rattle.std.proofs.Common.{◌≡◌, ℕ, zero, suc, ◌+◌, ◌<◌, ◌≤◌, List, [], ◌∷◌, ◌++◌, drop, length, map, get_or, Option, Some, None, refl, ap, sym, ◌∙◌, arith, subst, append-nil}
use Rattle.std.specs.Prelude.{Ok, Err}
use Rattle.ring_laws.specs.Meaning.{Meaning, number, listed}
use Rattle.ring_laws.specs.declared.wholes.Whole.{Whole}
use Rattle.ring_laws.specs.contracts.wholes.WholeRing.TheImpl.{ghosts}
use Rattle.steps.specs.Answers.{HasCause}
use Rattle.steps.specs.Steps.{gives, refuses, ◌then◌}
use Rattle.steps.specs.TermFaults.{improper, TermSteps, term_cause}
use Rattle.steps.specs.declared.faults.TermFault.{TermFault}
use Rattle.steps.proofs.AnswerLaws.{first_cause, later_cause, later_outcome}
use Rattle.poly_generic.specs.declared.polys.Poly.{Poly}
use Rattle.grammar.specs.Tree.{Tree}
use Rattle.term_classes.specs.Recurrence.{polynomial_or_refused, find_coefficient, find_coefficients}
use Rattle.term_classes.specs.Finding.{find_polynomial}
use Rattle.term_classes.specs.NamesOfK.{place_of_k}
use Rattle.term_text.specs.View.{tree_of}
use Rattle.term_text.specs.declared.ast.Ast.{Ast}

-- what is done by the place of a k
abbrev by_place : Tree → Option ℕ → TermSteps Meaning
by_place t place = elim place as (λ _. TermSteps Meaning) [
  | Some at ↦ refuses (improper 8 at)
  | None ↦ find_polynomial t then (polynomial_or_refused t)
]

pub k_refused : (t : Tree) (at : ℕ) → Some at ≡ place_of_k t → (find_coefficient t).outcome ≡ Err (improper 8 at)
k_refused t at e = ap (λ place. (by_place t place).outcome) (sym e)

pub without_k : (t : Tree) → None ≡ place_of_k t → find_coefficient t ≡ (find_polynomial t then (polynomial_or_refused t))
without_k t e = ap (by_place t) (sym e)

abbrev pub polynomial_in_n : Poly Whole ghosts → Meaning
polynomial_in_n p = listed (map (λ (w : Whole). number w.value) p.list.items)

-- what the trees from a place on give decides what all give
pub record LeadsOn (trees : List Ast) (i : ℕ) (found : List (Poly Whole ghosts)) : Type 0 where
  pub as_many : length found ≡ i
  pub gives : (more : List Meaning) → (find_coefficients (map tree_of (drop i trees))).outcome ≡ Ok more
      → (find_coefficients (map tree_of trees)).outcome ≡ Ok (map polynomial_in_n found ++ more)
  pub faults : (fault : TermFault) → HasCause (find_coefficients (map tree_of (drop i trees))) (term_cause fault)
      → HasCause (find_coefficients (map tree_of trees)) (term_cause fault)

-- the trees from a place on are the tree there and those after it
from_place : (trees : List Ast) (i : ℕ) (t : Ast) → i < length trees → t ≡ get_or trees i t → drop i trees ≡ t ∷ drop (i + 1) trees
from_place [] i t h e = absurd (omega (arith, h))
from_place (y ∷ trees) zero t h e = ap (λ z. z ∷ trees) (sym e)
from_place (y ∷ trees) (suc i) t h e = from_place trees i t (omega (arith, h)) e
    ∙ ap (λ j. t ∷ drop j (y ∷ trees)) (one_later i)
  where
    one_later : (j : ℕ) → suc (j + 1) ≡ suc j + 1
    one_later j = omega arith

moved : (found : List (Poly Whole ghosts)) (p : Poly Whole ghosts) (more : List Meaning)
    → map polynomial_in_n found ++ (polynomial_in_n p ∷ more) ≡ map polynomial_in_n (found ++ p ∷ []) ++ more
moved [] p more = refl
moved (q ∷ found) p more = ap (λ ms. polynomial_in_n q ∷ ms) (moved found p more)

as_many_more : (found : List (Poly Whole ghosts)) (p : Poly Whole ghosts) → length (found ++ p ∷ []) ≡ length found + 1
as_many_more [] p = refl
as_many_more (q ∷ found) p = omega (arith, as_many_more found p)

-- the next tree
module _ (trees : List Ast) (i : ℕ) (t : Ast) (below : i < length trees) (is : t ≡ get_or trees i t)
    (found : List (Poly Whole ghosts)) (leads : LeadsOn trees i found) where
  abbrev rest : List Tree
  rest = map tree_of (drop (i + 1) trees)

  here : find_coefficients (map tree_of (drop i trees)) ≡ find_coefficients (tree_of t ∷ rest)
  here = ap (λ ts. find_coefficients (map tree_of ts)) (from_place trees i t below is)

  pub coefficient_fault : (fault : TermFault) → HasCause (find_coefficient (tree_of t)) (term_cause fault)
      → HasCause (find_coefficients (map tree_of trees)) (term_cause fault)
  coefficient_fault fault h = leads.faults fault (subst (λ s. HasCause s (term_cause fault)) (sym here)
      (first_cause (find_coefficient (tree_of t)) (λ p. find_coefficients rest then (λ ps. gives (p ∷ ps))) (term_cause fault) h))

  pub leads_more : (p : Poly Whole ghosts) → (find_coefficient (tree_of t)).outcome ≡ Ok (polynomial_in_n p)
      → LeadsOn trees (i + 1) (found ++ p ∷ [])
  leads_more p e = record {
    as_many = omega (arith, as_many_more found p, leads.as_many);
    gives = λ more h. leads.gives (polynomial_in_n p ∷ more) (ap (λ s. s.outcome) here
        ∙ later_outcome (find_coefficient (tree_of t)) (λ p. find_coefficients rest then (λ ps. gives (p ∷ ps))) (polynomial_in_n p)
        (Ok (polynomial_in_n p ∷ more)) e
        (later_outcome (find_coefficients rest) (λ ps. gives (polynomial_in_n p ∷ ps)) more (Ok (polynomial_in_n p ∷ more)) h refl))
        ∙ ap Ok (moved found p more);
    faults = λ fault h. leads.faults fault (subst (λ s. HasCause s (term_cause fault)) (sym here)
        (later_cause (find_coefficient (tree_of t)) (λ p. find_coefficients rest then (λ ps. gives (p ∷ ps))) (polynomial_in_n p)
        (term_cause fault) e
        (first_cause (find_coefficients rest) (λ ps. gives (polynomial_in_n p ∷ ps)) (term_cause fault) h)));
  }

all_dropped : (trees : List Ast) (i : ℕ) → length trees ≤ i → drop i trees ≡ []
all_dropped [] zero h = refl
all_dropped [] (suc i) h = refl
all_dropped (t ∷ trees) zero h = absurd (omega (arith, h))
all_dropped (t ∷ trees) (suc i) h = all_dropped trees i (omega (arith, h))

-- all trees
pub leads_last : (trees : List Ast) (i : ℕ) (found : List (Poly Whole ghosts)) → length trees ≤ i → LeadsOn trees i found
    → (find_coefficients (map tree_of trees)).outcome ≡ Ok (map polynomial_in_n found)
leads_last trees i found h leads =
    leads.gives [] (ap (λ ts. (find_coefficients (map tree_of ts)).outcome) (all_dropped trees i h))
    ∙ ap Ok (append-nil (map polynomial_in_n found))
