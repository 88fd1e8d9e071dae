-- The view of each node.
use Rattle.std.proofs.Common.{◌≡◌, List}
use Rattle.ring_laws.specs.declared.wholes.Whole.{Whole}
use Rattle.grammar.specs.Tree as d
use Rattle.term_text.specs.declared.ast.Ast.{Ast}
use Rattle.term_text.specs.declared.ast.Part.{Part}
use Rattle.term_text.specs.declared.ast.Node.{the_lemmas}
use Rattle.term_text.specs.declared.ast.Node.TheVariants.{Literal, N, K, Sum, Product, Pow, Factorial, Binomial}
use Rattle.term_text.specs.View.{tree_of, node_of, parts_of, part_of}

pub node_of-literal : (w : Whole) → node_of (Literal w) ≡ d.literal w.value
node_of-literal w = search the_lemmas

pub node_of-n : node_of N ≡ d.variable_n
node_of-n = search the_lemmas

pub node_of-k : node_of K ≡ d.variable_k
node_of-k = search the_lemmas

pub node_of-sum : (ps : List Part) → node_of (Sum ps) ≡ d.sum_of (parts_of ps)
node_of-sum ps = search the_lemmas

pub node_of-product : (ps : List Part) → node_of (Product ps) ≡ d.product_of (parts_of ps)
node_of-product ps = search the_lemmas

pub node_of-pow : (a b : Ast) → node_of (Pow a b) ≡ d.power_of (tree_of a) (tree_of b)
node_of-pow a b = search the_lemmas

pub node_of-factorial : (a : Ast) → node_of (Factorial a) ≡ d.factorial_of (tree_of a)
node_of-factorial a = search the_lemmas

pub node_of-binomial : (a b : Ast) → node_of (Binomial a b) ≡ d.binomial_of (tree_of a) (tree_of b)
node_of-binomial a b = search the_lemmas

pub tree_of-at : (a : Ast) → tree_of a ≡ d.tree a.at (node_of a.node)
tree_of-at a = search the_lemmas

pub part_of-at : (p : Part) → part_of p ≡ (p.turned, tree_of p.ast)
part_of-at p = search the_lemmas
