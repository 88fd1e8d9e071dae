-- The walk over a tree of the code, from what stands at its node.
use Rattle.std.proofs.Common.{◌≡◌, ℕ, ◌≤◌, Bool, true, false, List, [], ◌∷◌, length, get_or, ap, sym, ◌∙◌, subst, refl, arith}
use Rattle.std.specs.Prelude.{ℤ, if◌then◌else◌, Result}
use Rattle.steps.specs.Answers.{Answers}
use Rattle.steps.specs.Steps.{◌then◌}
use Rattle.steps.specs.TermFaults.{TermSteps, term_cause}
use Rattle.steps.specs.declared.faults.TermFault.{TermFault}
use Rattle.hypergeometric.specs.ProperTerm.{ProperTerm}
use Rattle.grammar.specs.Tree as d
use Rattle.term_classes.specs.Finding.{find_polynomial}
use Rattle.term_classes.specs.Walk.{place_of, times_found, walk, walk_node, walk_parts}
use Rattle.term_text.specs.View.{tree_of, node_of, part_of, parts_of}
use Rattle.term_text.specs.declared.ast.Ast.{Ast}
use Rattle.term_text.specs.declared.ast.Node.{Node}
use Rattle.term_text.specs.declared.ast.Node.TheVariants.{Sum, Product}
use Rattle.term_text.specs.declared.ast.Part.{Part}
use Rattle.term_text.proofs.Views.{tree_of-at, part_of-at, node_of-sum, node_of-product}
use Rattle.term_walk.specs.declared.gathered.Gathered.{Gathered}
use Rattle.term_walk.specs.Views.{gathered_of}
use Rattle.term_walk.specs.WalkRows.{is_one_turned}

-- a tree with a node of the code, as one with a node of the definition
pub tree_with : (a : Ast) (node : Node) (n : d.Node) → a.node ≡ node → node_of node ≡ n → tree_of a ≡ d.tree a.at n
tree_with a node n e h = tree_of-at a ∙ ap (λ m. d.tree a.at (node_of m)) e ∙ ap (λ m. d.tree a.at m) h

pub at_node : (a : Ast) (node : Node) (n : d.Node) (w : ℤ) (f : ProperTerm) (result : Result Gathered TermFault) → a.node ≡ node → node_of node ≡ n
    → Answers term_cause gathered_of (walk_node a.at n w f) result → Answers term_cause gathered_of (walk (tree_of a) w f) result
at_node a node n w f result e h known = subst (λ t. Answers term_cause gathered_of (walk t w f) result) (sym (tree_with a node n e h)) known

-- the row of what is sought as a polynomial
abbrev pub finding : d.Tree → ℤ → ProperTerm → TermSteps ProperTerm
finding t w f = find_polynomial t then (times_found (place_of t) w f)

-- what is sought as a polynomial
pub leaf_answer : (a : Ast) (node : Node) (n : d.Node) (w : ℤ) (f : ProperTerm) (result : Result Gathered TermFault) → a.node ≡ node
    → node_of node ≡ n → finding (d.tree a.at n) w f ≡ walk_node a.at n w f → Answers term_cause gathered_of (finding (tree_of a) w f) result
    → Answers term_cause gathered_of (walk (tree_of a) w f) result
leaf_answer a node n w f result e h same known = at_node a node n w f result e h
    (subst (λ s. Answers term_cause gathered_of s result) same
    (subst (λ t. Answers term_cause gathered_of (finding t w f) result) (tree_with a node n e h) known))

-- the parts of a product
pub product_answer : (a : Ast) (ps ps' : List Part) (w : ℤ) (f : ProperTerm) (result : Result Gathered TermFault) → a.node ≡ Product ps → ps' ≡ ps
    → Answers term_cause gathered_of (walk_parts (parts_of ps') w f) result → Answers term_cause gathered_of (walk (tree_of a) w f) result
product_answer a ps ps' w f result e same known = at_node a (Product ps) (d.product_of (parts_of ps)) w f result e (node_of-product ps)
    (subst (λ qs. Answers term_cause gathered_of (walk_parts (parts_of qs) w f) result) same known)

-- exactly one part, which is turned
pub some_part : (ps : List Part) → is_one_turned (parts_of ps) ≡ true → 1 ≤ length ps
some_part [] h = cc
some_part (p ∷ ps) h = omega arith

pub one_turned : (ps : List Part) (p : Part) → is_one_turned (parts_of ps) ≡ true → p ≡ get_or ps 0 p
    → parts_of ps ≡ d.part true (tree_of p.ast) d.no_parts
one_turned [] p h is = cc
one_turned (q ∷ ps) p h is = alone (part_of q).0 (part_of q).1 (parts_of ps) h
    ∙ ap (λ x. d.part true x.1 d.no_parts) (part_of-at q ∙ ap (λ (r : Part). (r.turned, tree_of r.ast)) (sym is))
  where
    alone : (b : Bool) (t : d.Tree) (parts : d.Parts) → is_one_turned (d.part b t parts) ≡ true → d.part b t parts ≡ d.part true t d.no_parts
    alone true t d.no_parts h = refl
    alone true t (d.part turned u parts) h = cc
    alone false t parts h = cc

-- and two or more parts
pub many_parts : (ps : List Part) → 2 ≤ length ps → false ≡ is_one_turned (parts_of ps)
many_parts [] many = absurd (omega (arith, many))
many_parts (p ∷ []) many = absurd (omega (arith, many))
many_parts (p ∷ q ∷ ps) many = two (part_of p) (part_of q) (parts_of ps)
  where
    two : (x y : Bool × d.Tree) (parts : d.Parts) → false ≡ is_one_turned (d.part x.0 x.1 (d.part y.0 y.1 parts))
    two (true, t) y parts = refl
    two (false, t) y parts = refl

-- any other sum is sought as a polynomial
plain_row : (at : ℕ) (parts : d.Parts) (w : ℤ) (f : ProperTerm) → is_one_turned parts ≡ false → finding (d.tree at (d.sum_of parts)) w f
    ≡ walk_node at (d.sum_of parts) w f
plain_row at d.no_parts w f h = refl
plain_row at (d.part false t parts) w f h = refl
plain_row at (d.part true t (d.part turned u parts)) w f h = refl
plain_row at (d.part true t d.no_parts) w f h = cc

pub plain_sum : (a : Ast) (ps : List Part) (w : ℤ) (f : ProperTerm) (result : Result Gathered TermFault) → a.node ≡ Sum ps
    → is_one_turned (parts_of ps) ≡ false → Answers term_cause gathered_of (finding (tree_of a) w f) result
    → Answers term_cause gathered_of (walk (tree_of a) w f) result
plain_sum a ps w f result e plain known =
    leaf_answer a (Sum ps) (d.sum_of (parts_of ps)) w f result e (node_of-sum ps) (plain_row a.at (parts_of ps) w f plain) known
