-- A sum that is known from elsewhere, stated for the value of the tree of `k^2`: 6k^2 is the difference of 2k^3 - 3k^2 + k.
use Rattle.std.proofs.Common.{[], ◌∷◌, ◌≡◌, refl, ap}
use Rattle.std.specs.Prelude.{ℤ, pos, negsuc, ◌*ℤ◌}
use Rattle.ring_solver.proofs.Read.{ring_z, reading_z}
use Rattle.ring_laws.specs.Meaning.{Meaning, number, listed}
use Rattle.hypergeometric.specs.Point.{Point}
use Rattle.hypergeometric.specs.Fraction.{of_whole}
use Rattle.hypergeometric.specs.ProperTerm.{poly_value}
use Rattle.hypergeometric.specs.Telescopes.{Telescopes}
use Rattle.hypergeometric.specs.PlainTerm.{plain_claim}
use Rattle.hypergeometric.proofs.FractionLaws.{one_not_zero}
use Rattle.hypergeometric.proofs.PlainTerms.{plain_telescopes}
use Rattle.grammar.specs.Tree.{Tree, tree, literal, variable_k, power_of}
use Rattle.term_classes.specs.TreeValue.{term_value}

-- a number as a coefficient
abbrev c : ℤ → Meaning
c z = listed (number z ∷ [])

abbrev square : Meaning
square = listed (listed [] ∷ listed [] ∷ c (pos 1) ∷ [])

abbrev cubic : Meaning
cubic = listed (listed [] ∷ c (pos 1) ∷ c (negsuc 2) ∷ c (pos 2) ∷ [])

-- `k^2`
abbrev tree_of_square : Tree
tree_of_square = tree 1 (power_of (tree 0 variable_k) (tree 2 (literal (pos 2))))

square_value : (p : Point) → term_value tree_of_square p ≡ of_whole (pos 1 *ℤ poly_value square p)
square_value p = ap of_whole (ring_z (p.n ∷ p.k ∷ []) (search reading_z depth 40 fits 20000) refl)

pub squares : Telescopes (term_value tree_of_square) square (plain_claim (pos 6) (pos 1) cubic)
squares = plain_telescopes (term_value tree_of_square) (pos 6) (pos 1) square cubic square_value
    (λ p. ring_z (p.n ∷ p.k ∷ []) (search reading_z depth 40 fits 20000) refl) one_not_zero
