-- The size of a tree, which falls from a tree to its parts.
use Rattle.std.proofs.Common.{◌≡◌, ℕ, zero, suc, ◌+◌, ◌<◌, List, [], ◌∷◌, length, get_or, ap, sym, ◌∙◌, subst, arith}
use Rattle.grammar.specs.Tree.{Tree, tree, Node, literal, variable_n, variable_k, sum_of, product_of, power_of, factorial_of, binomial_of, Parts, no_parts, part}
use Rattle.term_text.specs.View.{tree_of, part_of, parts_of}
use Rattle.term_text.specs.declared.ast.Ast.{Ast}
use Rattle.term_text.specs.declared.ast.Node.TheVariants.{Sum, Product, Pow}
use Rattle.term_text.specs.declared.ast.Part.{Part}
use Rattle.term_text.proofs.Views.{part_of-at, node_of-sum, node_of-product, node_of-pow}
use Rattle.term_walk.proofs.NodeRows.{tree_with}

abbrev mutual
  pub tree_size : Tree → ℕ
  tree_size (tree at node) = suc (node_size node)

  pub node_size : Node → ℕ
  node_size (literal c) = 0
  node_size variable_n = 0
  node_size variable_k = 0
  node_size (sum_of parts) = parts_size parts
  node_size (product_of parts) = parts_size parts
  node_size (power_of base e) = tree_size base + tree_size e
  node_size (factorial_of t) = tree_size t
  node_size (binomial_of l m) = tree_size l + tree_size m

  pub parts_size : Parts → ℕ
  parts_size no_parts = 0
  parts_size (part turned t parts) = suc (tree_size t + parts_size parts)

pub product_smaller : (a : Ast) (ps : List Part) → a.node ≡ Product ps → parts_size (parts_of ps) < tree_size (tree_of a)
product_smaller a ps e = subst (λ t. parts_size (parts_of ps) < tree_size t) (sym (tree_with a (Product ps) (product_of (parts_of ps)) e
    (node_of-product ps))) (omega arith)

pub sum_smaller : (a : Ast) (ps : List Part) → a.node ≡ Sum ps → parts_size (parts_of ps) < tree_size (tree_of a)
sum_smaller a ps e = subst (λ t. parts_size (parts_of ps) < tree_size t) (sym (tree_with a (Sum ps) (sum_of (parts_of ps)) e
    (node_of-sum ps))) (omega arith)

pub base_smaller : (a base e : Ast) → a.node ≡ Pow base e → tree_size (tree_of base) < tree_size (tree_of a)
base_smaller a base e is = subst (λ t. tree_size (tree_of base) < tree_size t) (sym (tree_with a (Pow base e) (power_of (tree_of base) (tree_of e)) is
    (node_of-pow base e))) (omega arith)

pub part_smaller : (ps : List Part) (i : ℕ) (p : Part) → i < length ps → p ≡ get_or ps i p → tree_size (tree_of p.ast) < parts_size (parts_of ps)
part_smaller [] i p below is = absurd (omega (arith, below))
part_smaller (q ∷ ps) zero p below is =
    let first : tree_size (part_of q).1 ≡ tree_size (tree_of p.ast) =
    ap (λ x. tree_size x.1) (part_of-at q) ∙ ap (λ (r : Part). tree_size (tree_of r.ast)) (sym is) in
    omega (arith, first)
part_smaller (q ∷ ps) (suc i) p below is = let rest = part_smaller ps i p (omega (arith, below)) is in omega (arith, rest)
