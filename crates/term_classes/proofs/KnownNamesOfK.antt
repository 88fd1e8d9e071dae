-- The places of the names k in two trees.
use Rattle.std.proofs.Common.{◌≡◌, refl, [], ◌∷◌, false, pos}
use Rattle.grammar.specs.Tree.{Tree, tree, literal, variable_n, variable_k, sum_of, power_of, factorial_of, no_parts, part}
use Rattle.term_classes.specs.NamesOfK.{k_places}

-- `k!+2^k`
abbrev sum_of_k : Tree
sum_of_k = tree 2 (sum_of (part false (tree 1 (factorial_of (tree 0 variable_k)))
    (part false (tree 4 (power_of (tree 3 (literal (pos 2))) (tree 5 variable_k))) no_parts)))

pub places : (k_places sum_of_k ≡ 0 ∷ 5 ∷ []) × (k_places (tree 1 (factorial_of (tree 0 variable_n))) ≡ [])
places = (refl, refl)
