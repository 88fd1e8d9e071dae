-- A tree of the code as a tree of the definition.
use Rattle.std.specs.Prelude.{Bool, List, [], ◌∷◌, map}
use Rattle.grammar.specs.Tree as d
use Rattle.term_text.specs.declared.ast.Ast.{Ast}
use Rattle.term_text.specs.declared.ast.Node.{Node, fold-Node}
use Rattle.term_text.specs.declared.ast.Node.TheOpen.{Node-F, Ast-F, Part-F}
use Rattle.term_text.specs.declared.ast.Node.TheFolds.{fold-Ast, fold-Part}
use Rattle.term_text.specs.declared.ast.Part.{Part}

-- a list of parts as the definition has it
abbrev pub parts : List (Bool × d.Tree) → d.Parts
parts [] = d.no_parts
parts (p ∷ ps) = d.part p.0 p.1 (parts ps)

-- a node of the definition, where the trees in it are given
abbrev pub node_step : Node-F d.Node d.Tree (Bool × d.Tree) → d.Node
node_step (Node-F.Literal w) = d.literal w.value
node_step Node-F.N = d.variable_n
node_step Node-F.K = d.variable_k
node_step (Node-F.Sum ps) = d.sum_of (parts ps)
node_step (Node-F.Product ps) = d.product_of (parts ps)
node_step (Node-F.Pow base exponent) = d.power_of base exponent
node_step (Node-F.Factorial t) = d.factorial_of t
node_step (Node-F.Binomial upper lower) = d.binomial_of upper lower

-- a tree of the definition, where its node is given
abbrev pub ast_step : Ast-F d.Node d.Tree (Bool × d.Tree) → d.Tree
ast_step a = d.tree a.at a.node

-- whether a part is subtracted or divides, and its tree, where that is given
abbrev pub part_step : Part-F d.Node d.Tree (Bool × d.Tree) → Bool × d.Tree
part_step p = (p.turned, p.ast)

-- the node that one of the code stands for
abbrev pub node_of : Node → d.Node
node_of = fold-Node d.Node d.Tree (Bool × d.Tree) node_step ast_step part_step

-- the tree that one of the code stands for
abbrev pub tree_of : Ast → d.Tree
tree_of = fold-Ast d.Node d.Tree (Bool × d.Tree) node_step ast_step part_step

-- the part that one of the code stands for
abbrev pub part_of : Part → Bool × d.Tree
part_of = fold-Part d.Node d.Tree (Bool × d.Tree) node_step ast_step part_step

-- the parts that those of the code stand for
abbrev pub parts_of : List Part → d.Parts
parts_of ps = parts (map part_of ps)
