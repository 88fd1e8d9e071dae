-- What is sought of a tree by the node that stands there.
use Rattle.std.proofs.Common.{◌≡◌, ap, sym, ◌∙◌, subst, List}
use Rattle.std.specs.Prelude.{Option, Some, None, Result, Ok}
use Rattle.ring_laws.specs.Meaning.{Meaning}
use Rattle.ring_laws.specs.declared.wholes.Whole.{Whole}
use Rattle.poly_laws.specs.TwoVariables.{in_n_and_k, poly_n, poly_k}
use Rattle.steps.specs.Answers.{Answers}
use Rattle.steps.specs.Found.{made_of, found}
use Rattle.steps.specs.Operations.{of_polynomial}
use Rattle.steps.specs.Steps.{gives, ◌then◌}
use Rattle.steps.specs.TermFaults.{TermSteps, term_cause}
use Rattle.steps.specs.declared.faults.TermFault.{TermFault}
use Rattle.steps.proofs.AnswerLaws.{later_answer}
use Rattle.grammar.specs.Tree as d
use Rattle.term_classes.specs.Finding.{sum_of_polynomials, product_of_polynomials, sizes_added, sizes_multiplied, raised_at, find_polynomial, find_node_polynomial, find_summands, find_factors}
use Rattle.term_text.specs.declared.ast.Ast.{Ast}
use Rattle.term_text.specs.declared.ast.Part.{Part}
use Rattle.term_text.specs.declared.ast.Node.TheVariants.{Literal, N, K, Sum, Product, Pow}
use Rattle.term_text.specs.View.{tree_of, node_of, parts_of}
use Rattle.term_text.proofs.Views.{node_of-literal, node_of-n, node_of-k, node_of-sum, node_of-product, node_of-pow, tree_of-at}
use Rattle.tree_polynomials.specs.Exponents.{raised_to}

-- an answer of the same steps
pub same_answer : {T A : Type 0} (result : Result T TermFault) (view : T → A) (s t : TermSteps A) → s ≡ t → Answers term_cause view t result
    → Answers term_cause view s result
same_answer result view s t e h = subst (λ u. Answers term_cause view u result) (sym e) h

find_node : (a : Ast) (node : d.Node) → node_of a.node ≡ node → find_polynomial (tree_of a) ≡ find_node_polynomial a.at node
find_node a node e = ap find_polynomial (tree_of-at a) ∙ ap (find_node_polynomial a.at) e

pub find_literal : (a : Ast) (w : Whole) → a.node ≡ Literal w
    → find_polynomial (tree_of a) ≡ gives (Some (in_n_and_k.whole w.value))
find_literal a w e = find_node a (d.literal w.value) (ap node_of e ∙ node_of-literal w)

pub find_n : (a : Ast) → a.node ≡ N → find_polynomial (tree_of a) ≡ gives (Some poly_n)
find_n a e = find_node a d.variable_n (ap node_of e ∙ node_of-n)

pub find_k : (a : Ast) → a.node ≡ K → find_polynomial (tree_of a) ≡ gives (Some poly_k)
find_k a e = find_node a d.variable_k (ap node_of e ∙ node_of-k)

pub find_sum : (a : Ast) (ps : List Part) → a.node ≡ Sum ps
    → find_polynomial (tree_of a)
    ≡ (find_summands (parts_of ps) then made_of a.at (λ ps. of_polynomial (sizes_added ps)) sum_of_polynomials)
find_sum a ps e = find_node a (d.sum_of (parts_of ps)) (ap node_of e ∙ node_of-sum ps)

pub find_product : (a : Ast) (ps : List Part) → a.node ≡ Product ps
    → find_polynomial (tree_of a)
    ≡ (find_factors (parts_of ps) then made_of a.at (λ ps. of_polynomial (sizes_multiplied ps)) product_of_polynomials)
find_product a ps e = find_node a (d.product_of (parts_of ps)) (ap node_of e ∙ node_of-product ps)

pub find_power : (a base exponent : Ast) → a.node ≡ Pow base exponent
    → find_polynomial (tree_of a)
    ≡ raised_to (find_polynomial (tree_of exponent)) (λ power. find_polynomial (tree_of base) then raised_at a.at power)
find_power a base exponent e = find_node a (d.power_of (tree_of base) (tree_of exponent)) (ap node_of e ∙ node_of-pow base exponent)

-- a sum, from what was found of its parts
pub sum_answer : {T U : Type 0} (result : Result (Option T) TermFault) (x : Option U) (a : Ast) (ps qs : List Part) (view : T → Meaning)
    (given : U → List Meaning) → a.node ≡ Sum ps → qs ≡ ps → (find_summands (parts_of qs)).outcome ≡ Ok (found given x)
    → Answers term_cause (found view) (made_of a.at (λ ps. of_polynomial (sizes_added ps)) sum_of_polynomials (found given x)) result
    → Answers term_cause (found view) (find_polynomial (tree_of a)) result
sum_answer result x a ps qs view given e h o k =
    same_answer result (found view) (find_polynomial (tree_of a))
    (find_summands (parts_of qs) then made_of a.at (λ ps. of_polynomial (sizes_added ps)) sum_of_polynomials)
    (find_sum a qs (e ∙ ap Sum (sym h)))
    (later_answer term_cause (found view) (find_summands (parts_of qs)) (made_of a.at (λ ps. of_polynomial (sizes_added ps)) sum_of_polynomials)
    (found given x) result o k)

-- and a product
pub product_answer : {T U : Type 0} (result : Result (Option T) TermFault) (x : Option U) (a : Ast) (ps qs : List Part) (view : T → Meaning)
    (given : U → List Meaning) → a.node ≡ Product ps → qs ≡ ps → (find_factors (parts_of qs)).outcome ≡ Ok (found given x)
    → Answers term_cause (found view) (made_of a.at (λ ps. of_polynomial (sizes_multiplied ps)) product_of_polynomials (found given x)) result
    → Answers term_cause (found view) (find_polynomial (tree_of a)) result
product_answer result x a ps qs view given e h o k =
    same_answer result (found view) (find_polynomial (tree_of a))
    (find_factors (parts_of qs) then made_of a.at (λ ps. of_polynomial (sizes_multiplied ps)) product_of_polynomials)
    (find_product a qs (e ∙ ap Product (sym h)))
    (later_answer term_cause (found view) (find_factors (parts_of qs))
    (made_of a.at (λ ps. of_polynomial (sizes_multiplied ps)) product_of_polynomials)
    (found given x) result o k)

-- what was found, or that nothing was
pub some_found : {T A : Type 0} (x : Option T) (y : T) (view : T → A) (s : TermSteps (Option A)) → s.outcome ≡ Ok (found view x) → x ≡ Some y
    → s.outcome ≡ Ok (Some (view y))
some_found x y view s e h = e ∙ ap (λ t. Ok (found view t)) h

pub none_found : {T A : Type 0} (x : Option T) (view : T → A) (s : TermSteps (Option A)) → s.outcome ≡ Ok (found view x) → x ≡ None → s.outcome
    ≡ Ok None
none_found x view s e h = e ∙ ap (λ t. Ok (found view t)) h
