-- The code's tree of a derivation is the definition's.
use Rattle.std.proofs.Common.{◌≡◌, ℕ, Bool, true, false, List, [], ◌∷◌, ◌++◌, ap, ◌∙◌}
use Rattle.grammar.specs.Tree as d
use Rattle.grammar.specs.Token.{Placed, caret, bang, closing, comma, sum_sign, product_sign}
use Rattle.grammar.specs.Grammar.{Sum, product_alone, minus_product, product_more, sum_place, Product, power_alone, power_more, product_place, Power, postfix_alone, raised, Postfix, atom_alone, factorial_at, Atom, number, the_n, the_k, bracket, choose, with_last, sum_text, product_text, power_text, postfix_text, atom_text, sum_tree, sum_parts, product_tree, product_parts, power_tree, postfix_tree, atom_tree}
use Rattle.grammar.proofs.SmallLiterals.{AreSmall, past_sum, past_product, past_postfix}
use Rattle.term_text.specs.Code.Literals.{whole_of}
use Rattle.term_text.specs.declared.ast.Ast.{Ast}
use Rattle.term_text.specs.declared.ast.Part.{Part}
use Rattle.term_text.specs.declared.ast.Node.{Node}
use Rattle.term_text.specs.View.{tree_of, node_of, part_of, parts_of}
use Rattle.term_text.specs.Code.Steps.{part_at}
use Rattle.term_text.specs.Code.Image.{sum_ast, sum_part_asts, product_ast, product_part_asts, power_ast, postfix_ast, atom_ast}
use Rattle.term_text.proofs.Literals.{whole_value}
use Rattle.term_text.proofs.Views.{node_of-literal, node_of-n, node_of-k, node_of-sum, node_of-product, node_of-pow, node_of-factorial, node_of-binomial, tree_of-at, part_of-at}

one_part : (turned : Bool) (a : Ast) (rest : List Part) → parts_of (record { turned = turned; ast = a } ∷ rest) ≡ d.part turned (tree_of a) (parts_of rest)
one_part turned a rest = ap (λ p. d.part p.0 p.1 (parts_of rest)) (part_of-at (record { turned = turned; ast = a }))

last_part : (ps : List Part) (turned : Bool) (a : Ast) → parts_of (ps ++ part_at turned a) ≡ with_last (parts_of ps) turned (tree_of a)
last_part [] turned a = one_part turned a []
last_part (p ∷ ps) turned a = ap (d.part (part_of p).0 (part_of p).1) (last_part ps turned a)

at_node : (at : ℕ) (n : Node) (m : d.Node) → node_of n ≡ m → tree_of (record { at = at; node = n }) ≡ d.tree at m
at_node at n m e = tree_of-at (record { at = at; node = n }) ∙ ap (d.tree at) e

-- where the tokens of its text are small
mutual
  pub tree_of_sum : (s : Sum) (rest : List Placed) → AreSmall (sum_text s rest) → tree_of (sum_ast s) ≡ sum_tree s
  tree_of_sum (product_alone p) rest h = tree_of_product p rest h
  tree_of_sum (minus_product at p) rest h = at_node at _ _ (node_of-sum (part_at true (product_ast p))
      ∙ ap d.sum_of (one_part true (product_ast p) [] ∙ ap (λ z. d.part true z d.no_parts) (tree_of_product p rest h.1)))
  tree_of_sum (product_more s turned at p) rest h = at_node (sum_place s at) _ _ (node_of-sum (sum_part_asts s ++ part_at turned (product_ast p))
      ∙ ap d.sum_of (
      last_part (sum_part_asts s) turned (product_ast p)
      ∙ ap (λ z. with_last z turned (tree_of (product_ast p))) (parts_of_sum s ((at, sum_sign turned) ∷ product_text p rest) h)
      ∙ ap (with_last (sum_parts s) turned) (tree_of_product p rest (past_sum s ((at, sum_sign turned) ∷ product_text p rest) h).1)))

  parts_of_sum : (s : Sum) (rest : List Placed) → AreSmall (sum_text s rest) → parts_of (sum_part_asts s) ≡ sum_parts s
  parts_of_sum (product_alone p) rest h = one_part false (product_ast p) [] ∙ ap (λ z. d.part false z d.no_parts) (tree_of_product p rest h)
  parts_of_sum (minus_product at p) rest h = one_part true (product_ast p) [] ∙ ap (λ z. d.part true z d.no_parts) (tree_of_product p rest h.1)
  parts_of_sum (product_more s turned at p) rest h =
      last_part (sum_part_asts s) turned (product_ast p)
      ∙ ap (λ z. with_last z turned (tree_of (product_ast p))) (parts_of_sum s ((at, sum_sign turned) ∷ product_text p rest) h)
      ∙ ap (with_last (sum_parts s) turned) (tree_of_product p rest (past_sum s ((at, sum_sign turned) ∷ product_text p rest) h).1)

  tree_of_product : (p : Product) (rest : List Placed) → AreSmall (product_text p rest) → tree_of (product_ast p) ≡ product_tree p
  tree_of_product (power_alone w) rest h = tree_of_power w rest h
  tree_of_product (power_more p turned at w) rest h = at_node (product_place p at) _ _ (node_of-product (product_part_asts p ++ part_at turned (power_ast w))
      ∙ ap d.product_of (
      last_part (product_part_asts p) turned (power_ast w)
      ∙ ap (λ z. with_last z turned (tree_of (power_ast w))) (parts_of_product p ((at, product_sign turned) ∷ power_text w rest) h)
      ∙ ap (with_last (product_parts p) turned) (tree_of_power w rest (past_product p ((at, product_sign turned) ∷ power_text w rest) h).1)))

  parts_of_product : (p : Product) (rest : List Placed) → AreSmall (product_text p rest) → parts_of (product_part_asts p) ≡ product_parts p
  parts_of_product (power_alone w) rest h = one_part false (power_ast w) [] ∙ ap (λ z. d.part false z d.no_parts) (tree_of_power w rest h)
  parts_of_product (power_more p turned at w) rest h =
      last_part (product_part_asts p) turned (power_ast w)
      ∙ ap (λ z. with_last z turned (tree_of (power_ast w))) (parts_of_product p ((at, product_sign turned) ∷ power_text w rest) h)
      ∙ ap (with_last (product_parts p) turned) (tree_of_power w rest (past_product p ((at, product_sign turned) ∷ power_text w rest) h).1)

  tree_of_power : (w : Power) (rest : List Placed) → AreSmall (power_text w rest) → tree_of (power_ast w) ≡ power_tree w
  tree_of_power (postfix_alone q) rest h = tree_of_postfix q rest h
  tree_of_power (raised q at a) rest h =
      let behind : List Placed = (at, caret) ∷ atom_text a rest in
      at_node at _ _ (node_of-pow (postfix_ast q) (atom_ast a)
      ∙ ap (λ z. d.power_of z (tree_of (atom_ast a))) (tree_of_postfix q behind h)
      ∙ ap (d.power_of (postfix_tree q)) (tree_of_atom a rest (past_postfix q behind h).1))

  tree_of_postfix : (q : Postfix) (rest : List Placed) → AreSmall (postfix_text q rest) → tree_of (postfix_ast q) ≡ postfix_tree q
  tree_of_postfix (atom_alone a) rest h = tree_of_atom a rest h
  tree_of_postfix (factorial_at a at) rest h = at_node at _ _ (node_of-factorial (atom_ast a) ∙ ap d.factorial_of (tree_of_atom a ((at, bang) ∷ rest) h))

  tree_of_atom : (a : Atom) (rest : List Placed) → AreSmall (atom_text a rest) → tree_of (atom_ast a) ≡ atom_tree a
  tree_of_atom (number at value) rest h = at_node at _ _ (node_of-literal (whole_of value) ∙ ap d.literal (whole_value value h.0))
  tree_of_atom (the_n at) rest h = at_node at _ _ node_of-n
  tree_of_atom (the_k at) rest h = at_node at _ _ node_of-k
  tree_of_atom (bracket at s close) rest h = tree_of_sum s ((close, closing) ∷ rest) h.1
  tree_of_atom (choose at open_at upper comma_at lower close) rest h =
      let behind : List Placed = (comma_at, comma) ∷ sum_text lower ((close, closing) ∷ rest) in
      at_node at _ _ (node_of-binomial (sum_ast upper) (sum_ast lower)
      ∙ ap (λ z. d.binomial_of z (tree_of (sum_ast lower))) (tree_of_sum upper behind h.1.1)
      ∙ ap (d.binomial_of (sum_tree upper)) (tree_of_sum lower ((close, closing) ∷ rest) (past_sum upper behind h.1.1).1))
