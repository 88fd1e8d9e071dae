-- Constants of trees of the code: by the node that stands there, and by the parts of a sum and of a product.
use Rattle.std.proofs.Common.{◌≡◌, ℕ, ◌+◌, ◌<◌, ◌≤◌, refl, ap, sym, ◌∙◌, subst, List, [], ◌∷◌, ◌++◌, Bool, true, false, arith, length, get_or, drop, append-nil}
use Rattle.std.proofs.lemmas.List.{drop_all}
use Rattle.std.specs.Prelude.{Option, Some, None, Result, Ok}
use Rattle.ring_laws.specs.Meaning.{items}
use Rattle.poly_laws.specs.TwoVariables.{constant_in_k}
use Rattle.steps.specs.Answers.{HasCause, Answers}
use Rattle.steps.specs.Steps.{gives, ◌then◌}
use Rattle.steps.specs.TermFaults.{TermSteps, term_cause}
use Rattle.steps.specs.declared.faults.TermFault.{TermFault}
use Rattle.steps.proofs.AnswerLaws.{later_answer}
use Rattle.steps.proofs.FindingParts.{Continues, part_first, part_done, part_none, part_fault}
use Rattle.hypergeometric.specs.Fraction.{Fraction}
use Rattle.grammar.specs.Tree as d
use Rattle.term_classes.specs.Finding.{FractionFactor, fraction_of_whole, negative_of, find_polynomial, find_node_polynomial, find_constant, find_node_constant, find_constants}
use Rattle.term_text.specs.View.{tree_of, node_of, part_of, parts_of}
use Rattle.term_text.specs.declared.ast.Ast.{Ast}
use Rattle.term_text.specs.declared.ast.Part.{Part}
use Rattle.term_text.proofs.Views.{tree_of-at, part_of-at}
use Rattle.tree_polynomials.specs.ConstantCases.{find_negative}
use Rattle.tree_polynomials.proofs.NextParts.{next_part}

-- where a tree has no polynomial, its node decides
pub other_answer : {T : Type 0} (view : T → Option Fraction) (a : Ast) (node : d.Node) (s : TermSteps (Option Fraction)) (result : Result T TermFault)
    → node_of a.node ≡ node → find_node_constant a.at node ≡ s → (find_polynomial (tree_of a)).outcome ≡ Ok None
    → Answers term_cause view s result
    → Answers term_cause view (find_constant (tree_of a)) result
other_answer view a node s result e same none h =
    let here : tree_of a ≡ d.tree a.at node = tree_of-at a ∙ ap (d.tree a.at) e in
    subst (λ t. Answers term_cause view (find_constant t) result) (sym here)
    (later_answer term_cause view (find_node_polynomial a.at node) (λ p. elim p as (λ _. TermSteps (Option Fraction)) [
      | Some q ↦ gives (fraction_of_whole (constant_in_k (items q)))
      | None ↦ find_node_constant a.at node
    ]) None result (subst (λ t. (find_polynomial t).outcome ≡ Ok None) here none) (subst (λ s. Answers term_cause view s result) (sym same) h))

-- the one part of a sum
pub only_part : (ps : List Part) (p : Part) (turned : Bool) → 1 ≤ length ps → length ps < 2 → p ≡ get_or ps 0 p → p.turned ≡ turned
    → parts_of ps ≡ d.part turned (tree_of p.ast) d.no_parts
only_part [] p turned some few is e = absurd (omega (arith, some))
only_part (q ∷ []) p turned some few is e =
    ap (λ x. d.part x.0 x.1 d.no_parts) (ap part_of (sym is) ∙ part_of-at p) ∙ ap (λ b. d.part b (tree_of p.ast) d.no_parts) e
only_part (q ∷ r ∷ ps) p turned some few is e = absurd (omega (arith, few))

-- behind a minus
pub negated_answer : {T : Type 0} (view : T → Option Fraction) (ps : List Part) (p : Part) (result : Result T TermFault)
    → parts_of ps ≡ d.part true (tree_of p.ast) d.no_parts → Answers term_cause view
    (find_constant (tree_of p.ast) then (λ f. gives (negative_of f))) result
    → Answers term_cause view (find_negative (parts_of ps)) result
negated_answer view ps p result one h = subst (λ ps. Answers term_cause view (find_negative ps) result) (sym one) h

-- a sum of more parts has no constant of its own
pub several_parts : (ps : List Part) → 2 ≤ length ps → (find_negative (parts_of ps)).outcome ≡ Ok None
several_parts [] h = absurd (omega (arith, h))
several_parts (p ∷ []) h = absurd (omega (arith, h))
several_parts (p ∷ q ∷ ps) h = by (part_of p).0
  where
    by : (turned : Bool) → (find_negative (d.part turned (part_of p).1 (parts_of (q ∷ ps)))).outcome ≡ Ok None
    by true = refl
    by false = refl

-- the constants of the parts before an index are found
abbrev pub FoundBefore : List Part → ℕ → List FractionFactor → Type 0
FoundBefore ps i done = Continues (find_constants (parts_of ps)) (find_constants (parts_of (drop i ps))) done

module _ (ps : List Part) (i : ℕ) (p : Part) (done : List FractionFactor) (below : i < length ps) (is : p ≡ get_or ps i p)
    (h : FoundBefore ps i done) where
  abbrev whole : TermSteps (Option (List FractionFactor))
  whole = find_constants (parts_of ps)

  abbrev part_steps : TermSteps (Option Fraction)
  part_steps = find_constant (tree_of p.ast)

  abbrev rest : TermSteps (Option (List FractionFactor))
  rest = find_constants (parts_of (drop (i + 1) ps))

  abbrev factor_with : Fraction → FractionFactor
  factor_with f = (p.turned, f)

  here : Continues whole (part_first part_steps factor_with rest) done
  here = subst (λ (qs : d.Parts). Continues whole (find_constants qs) done) (next_part ps i p below is) h

  -- one more constant, none, or its fault
  pub constant_done : (f : Fraction) → (find_constant (tree_of p.ast)).outcome ≡ Ok (Some f) → FoundBefore ps (i + 1) (done ++ (p.turned, f) ∷ [])
  constant_done f e = part_done part_steps factor_with rest whole done f here e

  pub constant_none : (find_constant (tree_of p.ast)).outcome ≡ Ok None → (find_constants (parts_of ps)).outcome ≡ Ok None
  constant_none e = part_none part_steps factor_with rest whole done here e

  pub constant_fault : (x : TermFault) → HasCause (find_constant (tree_of p.ast)) (term_cause x)
      → HasCause (find_constants (parts_of ps)) (term_cause x)
  constant_fault x e = part_fault part_steps factor_with rest whole done (term_cause x) here e

-- past the last part the constants so far are all
pub all_found : (ps : List Part) (i : ℕ) (done : List FractionFactor) → length ps ≤ i → FoundBefore ps i done
    → (find_constants (parts_of ps)).outcome ≡ Ok (Some done)
all_found ps i done past h =
    h.gives_more [] (ap (λ qs. (find_constants (parts_of qs)).outcome) (drop_all i ps past)) ∙ ap (λ t. Ok (Some t)) (append-nil done)
