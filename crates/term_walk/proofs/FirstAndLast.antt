-- The tests of the first and of the last polynomial of a recurrence, as the code makes them.
use Rattle.std.proofs.Common.{◌≡◌, ℕ, zero, suc, ◌-◌, ◌<◌, ◌≤◌, List, [], ◌∷◌, length, map, get_or, refl, ap, arith, subst}
use Rattle.std.specs.Prelude.{Ok}
use Rattle.std.proofs.lemmas.List.{length-map}
use Rattle.ring_laws.specs.Meaning.{Meaning}
use Rattle.ring_laws.specs.declared.wholes.Whole.{Whole}
use Rattle.ring_laws.specs.contracts.wholes.WholeRing.TheImpl.{ghosts}
use Rattle.steps.specs.Answers.{HasCause}
use Rattle.steps.specs.Steps.{gives, within_limit, ◌then◌}
use Rattle.steps.specs.TermFaults.{TermSteps, term_cause}
use Rattle.steps.specs.declared.faults.TermFault.{TermFault}
use Rattle.steps.specs.declared.limits.LimitName.TheVariants.{Order}
use Rattle.steps.proofs.AnswerLaws.{first_cause, later_cause, later_outcome}
use Rattle.steps.proofs.StepLaws.{limit_kept}
use Rattle.poly_generic.specs.declared.polys.Poly.{Poly}
use Rattle.grammar.specs.Tree.{Tree}
use Rattle.term_classes.specs.Recurrence.{find_coefficients, not_zero_at, first_not_zero, last_not_zero, find_recurrence}
use Rattle.term_text.specs.View.{tree_of}
use Rattle.term_text.specs.declared.ast.Ast.{Ast}
use Rattle.term_walk.proofs.RecurrenceLaws.{polynomial_in_n}

-- the tests of the first and of the last
module _ (ts : List Tree) (few : length ts - 1 ≤ 6) where
  abbrev from_coefficients : List Meaning → TermSteps (List Meaning)
  from_coefficients ps = first_not_zero ts ps then (λ _. last_not_zero ts ps)

  pub coefficients_fault : (fault : TermFault) → HasCause (find_coefficients ts) (term_cause fault)
      → HasCause (find_recurrence ts) (term_cause fault)
  coefficients_fault fault h =
      later_cause (within_limit Order (length ts - 1) ts) (λ _. find_coefficients ts then from_coefficients) ts (term_cause fault)
      (limit_kept Order (length ts - 1) ts few) (first_cause (find_coefficients ts) from_coefficients (term_cause fault) h)

  module _ (ps : List Meaning) (found : (find_coefficients ts).outcome ≡ Ok ps) where
    tested : (fault : TermFault) → HasCause (from_coefficients ps) (term_cause fault) → HasCause (find_recurrence ts) (term_cause fault)
    tested fault h =
        later_cause (within_limit Order (length ts - 1) ts) (λ _. find_coefficients ts then from_coefficients) ts (term_cause fault)
        (limit_kept Order (length ts - 1) ts few) (later_cause (find_coefficients ts) from_coefficients ps (term_cause fault) found h)

    pub last_fault : (fault : TermFault) → (first_not_zero ts ps).outcome ≡ Ok ps → HasCause (last_not_zero ts ps) (term_cause fault)
        → HasCause (find_recurrence ts) (term_cause fault)
    last_fault fault first h = tested fault (later_cause (first_not_zero ts ps) (λ _. last_not_zero ts ps) ps (term_cause fault) first h)

    pub recurrence_found : (first_not_zero ts ps).outcome ≡ Ok ps → (last_not_zero ts ps).outcome ≡ Ok ps
        → (find_recurrence ts).outcome ≡ Ok ps
    recurrence_found first last =
        later_outcome (within_limit Order (length ts - 1) ts) (λ _. find_coefficients ts then from_coefficients) ts (Ok ps)
        (limit_kept Order (length ts - 1) ts few)
        (later_outcome (find_coefficients ts) from_coefficients ps (Ok ps) found
        (later_outcome (first_not_zero ts ps) (λ _. last_not_zero ts ps) ps (Ok ps) first last))

-- the first tree and its polynomial
pub first_kept_at : (ts : List Tree) (ps : List Meaning) (t : Tree) (p : Meaning) → 0 < length ts → 0 < length ps
    → t ≡ get_or ts 0 t → p ≡ get_or ps 0 p → (not_zero_at t p).outcome ≡ Ok p → (first_not_zero ts ps).outcome ≡ Ok ps
first_kept_at [] ps t p h k e g o = absurd (omega (arith, h))
first_kept_at (s ∷ ts) [] t p h k e g o = absurd (omega (arith, k))
first_kept_at (s ∷ ts) (q ∷ ps) t p h k e g o =
    later_outcome (not_zero_at s q) (λ _. gives (q ∷ ps)) q (Ok (q ∷ ps))
    (subst (λ x. (not_zero_at x q).outcome ≡ Ok q) e (subst (λ x. (not_zero_at t x).outcome ≡ Ok x) g o)) refl

-- the last tree and its polynomial
pub last_cause_at : (ts : List Tree) (ps : List Meaning) (i : ℕ) (t : Tree) (p : Meaning) → length ts ≡ suc i → length ps ≡ suc i
    → t ≡ get_or ts i t → p ≡ get_or ps i p → (fault : TermFault) → HasCause (not_zero_at t p) (term_cause fault)
    → HasCause (last_not_zero ts ps) (term_cause fault)
last_cause_at [] ps i t p h k e g fault c = absurd (omega (arith, h))
last_cause_at (s ∷ ts) [] i t p h k e g fault c = absurd (omega (arith, k))
last_cause_at (s ∷ []) (q ∷ []) zero t p h k e g fault c =
    first_cause (not_zero_at s q) (λ _. gives (q ∷ [])) (term_cause fault)
    (subst (λ x. HasCause (not_zero_at x q) (term_cause fault)) e (subst (λ x. HasCause (not_zero_at t x) (term_cause fault)) g c))
last_cause_at (s ∷ []) (q ∷ []) (suc i) t p h k e g fault c = absurd (omega (arith, h))
last_cause_at (s ∷ []) (q ∷ r ∷ ps) i t p h k e g fault c = absurd (omega (arith, h, k))
last_cause_at (s ∷ u ∷ ts) (q ∷ ps) zero t p h k e g fault c = absurd (omega (arith, h))
last_cause_at (s ∷ u ∷ ts) (q ∷ ps) (suc i) t p h k e g fault c =
    first_cause (last_not_zero (u ∷ ts) ps) (λ qs. gives (q ∷ qs)) (term_cause fault)
    (last_cause_at (u ∷ ts) ps i t p (omega (arith, h)) (omega (arith, k)) e g fault c)

pub last_kept_at : (ts : List Tree) (ps : List Meaning) (i : ℕ) (t : Tree) (p : Meaning) → length ts ≡ suc i → length ps ≡ suc i
    → t ≡ get_or ts i t → p ≡ get_or ps i p → (not_zero_at t p).outcome ≡ Ok p → (last_not_zero ts ps).outcome ≡ Ok ps
last_kept_at [] ps i t p h k e g o = absurd (omega (arith, h))
last_kept_at (s ∷ ts) [] i t p h k e g o = absurd (omega (arith, k))
last_kept_at (s ∷ []) (q ∷ []) zero t p h k e g o =
    later_outcome (not_zero_at s q) (λ _. gives (q ∷ [])) q (Ok (q ∷ []))
    (subst (λ x. (not_zero_at x q).outcome ≡ Ok q) e (subst (λ x. (not_zero_at t x).outcome ≡ Ok x) g o)) refl
last_kept_at (s ∷ []) (q ∷ []) (suc i) t p h k e g o = absurd (omega (arith, h))
last_kept_at (s ∷ []) (q ∷ r ∷ ps) i t p h k e g o = absurd (omega (arith, h, k))
last_kept_at (s ∷ u ∷ ts) (q ∷ ps) zero t p h k e g o = absurd (omega (arith, h))
last_kept_at (s ∷ u ∷ ts) (q ∷ ps) (suc i) t p h k e g o =
    later_outcome (last_not_zero (u ∷ ts) ps) (λ qs. gives (q ∷ qs)) ps (Ok (q ∷ ps))
    (last_kept_at (u ∷ ts) ps i t p (omega (arith, h)) (omega (arith, k)) e g o) refl

-- an item of a list of values is that of the list
pub mapped_at : {T A : Type 0} (f : T → A) (xs : List T) (i : ℕ) (x : T) → i < length xs → x ≡ get_or xs i x
    → f x ≡ get_or (map f xs) i (f x)
mapped_at f [] i x h e = absurd (omega (arith, h))
mapped_at f (y ∷ xs) zero x h e = ap f e
mapped_at f (y ∷ xs) (suc i) x h e = mapped_at f xs i x (omega (arith, h)) e

-- the two tests of the code
module _ (trees : List Ast) (coefficients : List (Poly Whole ghosts)) (two : 2 ≤ length trees) (few : length trees - 1 ≤ 6)
    (as_many : length coefficients ≡ length trees)
    (found : (find_coefficients (map tree_of trees)).outcome ≡ Ok (map polynomial_in_n coefficients))
    (t : Ast) (p : Poly Whole ghosts) (tree_there : t ≡ get_or trees 0 t) (coefficient_there : p ≡ get_or coefficients 0 p)
    (kept : (not_zero_at (tree_of t) (polynomial_in_n p)).outcome ≡ Ok (polynomial_in_n p))
    (last_t : Ast) (last_p : Poly Whole ghosts) (last_tree_there : last_t ≡ get_or trees (length trees - 1) last_t)
    (last_coefficient_there : last_p ≡ get_or coefficients (length trees - 1) last_p) where
  abbrev ts : List Tree
  ts = map tree_of trees

  abbrev ps : List Meaning
  ps = map polynomial_in_n coefficients

  few_trees : length ts - 1 ≤ 6
  few_trees = omega (arith, few, length-map trees tree_of)

  as_many_trees : length ts ≡ suc (length trees - 1)
  as_many_trees = omega (arith, two, length-map trees tree_of)

  as_many_polynomials : length ps ≡ suc (length trees - 1)
  as_many_polynomials = omega (arith, two, as_many, length-map coefficients polynomial_in_n)

  first_kept : (first_not_zero ts ps).outcome ≡ Ok ps
  first_kept = first_kept_at ts ps (tree_of t) (polynomial_in_n p) (omega (arith, as_many_trees)) (omega (arith, as_many_polynomials))
      (mapped_at tree_of trees 0 t (omega (arith, two)) tree_there)
      (mapped_at polynomial_in_n coefficients 0 p (omega (arith, two, as_many)) coefficient_there) kept

  last_tree : tree_of last_t ≡ get_or ts (length trees - 1) (tree_of last_t)
  last_tree = mapped_at tree_of trees (length trees - 1) last_t (omega (arith, two)) last_tree_there

  last_polynomial : polynomial_in_n last_p ≡ get_or ps (length trees - 1) (polynomial_in_n last_p)
  last_polynomial = mapped_at polynomial_in_n coefficients (length trees - 1) last_p (omega (arith, two, as_many)) last_coefficient_there

  -- the last is 0
  pub last_refused : (fault : TermFault) → HasCause (not_zero_at (tree_of last_t) (polynomial_in_n last_p)) (term_cause fault)
      → HasCause (find_recurrence ts) (term_cause fault)
  last_refused fault h = last_fault ts few_trees ps found fault first_kept
      (last_cause_at ts ps (length trees - 1) (tree_of last_t) (polynomial_in_n last_p) as_many_trees as_many_polynomials
      last_tree last_polynomial fault h)

  -- neither is
  pub both_kept : (not_zero_at (tree_of last_t) (polynomial_in_n last_p)).outcome ≡ Ok (polynomial_in_n last_p)
      → (find_recurrence ts).outcome ≡ Ok ps
  both_kept h = recurrence_found ts few_trees ps found first_kept
      (last_kept_at ts ps (length trees - 1) (tree_of last_t) (polynomial_in_n last_p) as_many_trees as_many_polynomials
      last_tree last_polynomial h)
