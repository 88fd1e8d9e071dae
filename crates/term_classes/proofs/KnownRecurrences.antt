-- Worked recurrences with their refusals, and an operation that isn't in bounds.
use Rattle.std.proofs.Common.{arith}
use Rattle.std.specs.Prelude.{◌≡◌, ℕ, pos, false, [], ◌∷◌, Ok, Err, refl}
use Rattle.ring_laws.specs.Meaning.{Meaning, number, listed}
use Rattle.steps.specs.Operations.{of_polynomial}
use Rattle.steps.specs.Steps.{limit, IsTooLargeAt}
use Rattle.steps.specs.TermFaults.{improper}
use Rattle.steps.specs.declared.limits.LimitName.TheVariants.{Order}
use Rattle.grammar.specs.Tree.{Tree, tree, literal, variable_n, variable_k, sum_of, product_of, power_of, factorial_of, no_parts, part}
use Rattle.term_classes.specs.Walk.{class_of}
use Rattle.term_classes.specs.Recurrence.{find_recurrence}

abbrev n_at : ℕ → Tree
n_at at = tree at variable_n

abbrev k_at : ℕ → Tree
k_at at = tree at variable_k

abbrev number_at : ℕ → ℕ → Tree
number_at at c = tree at (literal (pos c))

abbrev poly_n : Meaning
poly_n = listed (number (pos 0) ∷ number (pos 1) ∷ [])

-- n; 2; n+1
known_recurrence : (find_recurrence (n_at 0 ∷ number_at 3 2
    ∷ tree 7 (sum_of (part false (n_at 6) (part false (number_at 8 1) no_parts))) ∷ [])).outcome
    ≡ Ok (poly_n ∷ listed (number (pos 2) ∷ []) ∷ listed (number (pos 1) ∷ number (pos 1) ∷ []) ∷ [])
known_recurrence = refl

-- n; k! and n; n! and 0; n and n; 0 and 0; k
refused : ((find_recurrence (n_at 0 ∷ tree 4 (factorial_of (k_at 3)) ∷ [])).outcome ≡ Err (improper 8 3))
    × ((find_recurrence (n_at 0 ∷ tree 4 (factorial_of (n_at 3)) ∷ [])).outcome ≡ Err (improper 6 4))
    × ((find_recurrence (number_at 0 0 ∷ n_at 3 ∷ [])).outcome ≡ Err (improper 7 0))
    × ((find_recurrence (n_at 0 ∷ number_at 3 0 ∷ [])).outcome ≡ Err (improper 7 3))
    × ((find_recurrence (number_at 0 0 ∷ k_at 3 ∷ [])).outcome ≡ Err (improper 8 3))
refused = (refl, refl, refl, refl, refl)

-- eight trees
too_many : (find_recurrence (k_at 0 ∷ k_at 2 ∷ k_at 4 ∷ k_at 6 ∷ k_at 8 ∷ k_at 10 ∷ k_at 12 ∷ k_at 14 ∷ [])).outcome ≡ Err (limit Order 7)
too_many = refl

abbrev ten_to_12 : ℕ → Tree
ten_to_12 at = tree at (power_of (number_at at 10) (number_at at 12))

-- 10^12*10^12*10^12*10^12+k: the product is above 2^127
too_large_product : IsTooLargeAt
    (class_of (tree 23 (sum_of (part false (tree 5 (product_of
    (part false (ten_to_12 2) (part false (ten_to_12 8) (part false (ten_to_12 14) (part false (ten_to_12 20) no_parts))))))
    (part false (k_at 24) no_parts))))) 5
too_large_product = (
  4,
  record { place = 5; counterpart = of_polynomial (listed (listed (number (pos 1000000000000000000000000000000000000000000000000) ∷ []) ∷ [])) },
  omega arith,
  refl,
  (refl, λ fits. omega (arith, (fits.1 0).1 0)),
)
