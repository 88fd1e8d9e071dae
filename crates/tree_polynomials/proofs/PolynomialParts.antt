-- The polynomials of the parts of a sum and of a product, part by part.
use Rattle.std.proofs.Common.{◌≡◌, ℕ, ◌+◌, ◌<◌, ◌≤◌, Bool, true, false, refl, ap, sym, ◌∙◌, subst, List, [], ◌∷◌, ◌++◌, map, length, drop, get_or, append-nil}
use Rattle.std.proofs.lemmas.List.{map-append}
use Rattle.std.specs.Prelude.{not, if◌then◌else◌, Option, Some, None, Ok}
use Rattle.ring_laws.specs.Meaning.{Meaning}
use Rattle.steps.specs.Answers.{HasCause}
use Rattle.steps.specs.TermFaults.{TermSteps, term_cause}
use Rattle.steps.specs.declared.faults.TermFault.{TermFault}
use Rattle.steps.proofs.FindingParts.{Continues, part_first, part_done, part_none, part_fault}
use Rattle.lin_form.proofs.ListProducts.{all_dropped}
use Rattle.grammar.specs.Tree.{Parts, part, no_parts}
use Rattle.term_classes.specs.Finding.{find_polynomial, find_summands, find_factors, signed_polynomial}
use Rattle.term_text.specs.declared.ast.Part.{Part}
use Rattle.term_text.specs.View.{tree_of, parts_of}
use Rattle.tree_polynomials.proofs.NextParts.{next_part}

-- the parts of a sum
module _ (ps : List Part) (i : ℕ) (p : Part) (done : List Meaning) (below : i < length ps) (is : p ≡ get_or ps i p)
    (h : Continues (find_summands (parts_of ps)) (find_summands (parts_of (drop i ps))) done) where
  abbrev sums_behind : TermSteps (Option (List Meaning))
  sums_behind = find_summands (parts_of (drop (i + 1) ps))

  there : Continues (find_summands (parts_of ps)) (part_first (find_polynomial (tree_of p.ast)) (signed_polynomial p.turned) sums_behind) done
  there = subst (λ t. Continues (find_summands (parts_of ps)) (find_summands t) done) (next_part ps i p below is) h

  pub summand_done : (q m : Meaning) → (find_polynomial (tree_of p.ast)).outcome ≡ Ok (Some q) → m ≡ signed_polynomial p.turned q
      → Continues (find_summands (parts_of ps)) sums_behind (done ++ m ∷ [])
  summand_done q m e same =
      subst (λ t. Continues (find_summands (parts_of ps)) sums_behind (done ++ t ∷ [])) (sym same)
      (part_done (find_polynomial (tree_of p.ast)) (signed_polynomial p.turned) sums_behind (find_summands (parts_of ps)) done q there e)

  pub summand_none : (find_polynomial (tree_of p.ast)).outcome ≡ Ok None → (find_summands (parts_of ps)).outcome ≡ Ok None
  summand_none e = part_none (find_polynomial (tree_of p.ast)) (signed_polynomial p.turned) sums_behind (find_summands (parts_of ps)) done there e

  pub summand_fault : (x : TermFault) → HasCause (find_polynomial (tree_of p.ast)) (term_cause x)
      → HasCause (find_summands (parts_of ps)) (term_cause x)
  summand_fault x k =
      part_fault (find_polynomial (tree_of p.ast)) (signed_polynomial p.turned) sums_behind (find_summands (parts_of ps)) done
      (term_cause x) there k

-- those of a product
module _ (ps : List Part) (i : ℕ) (p : Part) (done : List Meaning) (below : i < length ps) (is : p ≡ get_or ps i p)
    (h : Continues (find_factors (parts_of ps)) (find_factors (parts_of (drop i ps))) done) where
  abbrev products_behind : TermSteps (Option (List Meaning))
  products_behind = find_factors (parts_of (drop (i + 1) ps))

  turned_to : (b : Bool) → p.turned ≡ b
      → Continues (find_factors (parts_of ps)) (find_factors (part b (tree_of p.ast) (parts_of (drop (i + 1) ps)))) done
  turned_to b e =
      subst (λ t. Continues (find_factors (parts_of ps)) (find_factors t) done)
      (next_part ps i p below is ∙ ap (λ b. part b (tree_of p.ast) (parts_of (drop (i + 1) ps))) e) h

  pub factor_turned : p.turned ≡ true → (find_factors (parts_of ps)).outcome ≡ Ok None
  factor_turned e = (turned_to true e).none refl

  pub factor_done : (q : Meaning) → p.turned ≡ false → (find_polynomial (tree_of p.ast)).outcome ≡ Ok (Some q)
      → Continues (find_factors (parts_of ps)) products_behind (done ++ q ∷ [])
  factor_done q f e =
      part_done (find_polynomial (tree_of p.ast)) (λ m. m) products_behind (find_factors (parts_of ps)) done q (turned_to false f) e

  pub factor_none : p.turned ≡ false → (find_polynomial (tree_of p.ast)).outcome ≡ Ok None → (find_factors (parts_of ps)).outcome ≡ Ok None
  factor_none f e = part_none (find_polynomial (tree_of p.ast)) (λ m. m) products_behind (find_factors (parts_of ps)) done (turned_to false f) e

  pub factor_fault : (x : TermFault) → p.turned ≡ false → HasCause (find_polynomial (tree_of p.ast)) (term_cause x)
      → HasCause (find_factors (parts_of ps)) (term_cause x)
  factor_fault x f k =
      part_fault (find_polynomial (tree_of p.ast)) (λ m. m) products_behind (find_factors (parts_of ps)) done (term_cause x) (turned_to false f) k

-- past the last part
all_done : (ps : List Part) (i : ℕ) (f : Parts → TermSteps (Option (List Meaning))) (done : List Meaning) → length ps ≤ i
    → (f no_parts).outcome ≡ Ok (Some []) → Continues (f (parts_of ps)) (f (parts_of (drop i ps))) done → (f (parts_of ps)).outcome ≡ Ok (Some done)
all_done ps i f done past none h =
    h.gives_more [] (ap (λ t. (f (parts_of t)).outcome) (all_dropped ps i past) ∙ none) ∙ ap (λ t. Ok (Some t)) (append-nil done)

pub summands_done : (ps : List Part) (i : ℕ) (done : List Meaning) → length ps ≤ i
    → Continues (find_summands (parts_of ps)) (find_summands (parts_of (drop i ps))) done
    → (find_summands (parts_of ps)).outcome ≡ Ok (Some done)
summands_done ps i done past h = all_done ps i find_summands done past refl h

pub factors_done : (ps : List Part) (i : ℕ) (done : List Meaning) → length ps ≤ i
    → Continues (find_factors (parts_of ps)) (find_factors (parts_of (drop i ps))) done → (find_factors (parts_of ps)).outcome ≡ Ok (Some done)
factors_done ps i done past h = all_done ps i find_factors done past refl h

-- one more polynomial on the list
pub pushed : {T : Type 0} (new old : List T) (x : T) (ok err : Bool) (view : T → Meaning) → new ≡ (if ok then old ++ x ∷ [] else old) → ok ≡ not err
    → err ≡ false → map view new ≡ map view old ++ view x ∷ []
pushed new old x ok err view h negation e =
    ap (map view) (h ∙ ap (λ b. if b then old ++ x ∷ [] else old) (negation ∙ ap not e)) ∙ map-append view old (x ∷ [])
