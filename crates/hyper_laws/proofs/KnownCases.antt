-- Equations, bounds, rows and solutions that are known from elsewhere, so that a wrong rule in specs/ does not check.
use Rattle.std.specs.Prelude.{◌≡◌, pos, negsuc, List, [], ◌∷◌, refl}
use Rattle.std.proofs.Math.IntN.{pow}
use Rattle.ring_laws.specs.Meaning.{Meaning, number, listed}
use Rattle.hypergeometric.specs.Fraction.{Fraction, of_whole}
use Rattle.hyper_laws.specs.Recurrences.{left_side}
use Rattle.hyper_laws.specs.PolynomialSolutions.{Solves}
use Rattle.hyper_laws.specs.Cases.{Case, case_polynomials, case_equation, lead_sum}
use Rattle.hyper_laws.specs.Solutions.{solution_value}
use Rattle.hyper_laws.specs.DegreeBounds.{choose, difference_part, indicial_polynomial}
use Rattle.hyper_laws.specs.SolutionRows.{images, rows_below}
use Rattle.hyper_laws.specs.Quotients.{SameQuotient}

abbrev pub one : Meaning
one = listed (number (pos 1) ∷ [])

-- n, n + 1, n - 1
abbrev pub line : Meaning
line = listed (number (pos 0) ∷ number (pos 1) ∷ [])

abbrev pub next_line : Meaning
next_line = listed (number (pos 1) ∷ number (pos 1) ∷ [])

abbrev previous_line : Meaning
previous_line = listed (number (negsuc 0) ∷ number (pos 1) ∷ [])

-- 2n(n+1) y(n) - (n^2 + 3n - 2) y(n+1) + (n-1) y(n+2) = 0, which 2^n and n! solve (A=B 8.4)
abbrev pub recurrence : List Meaning
recurrence =
    listed (number (pos 0) ∷ number (pos 2) ∷ number (pos 2) ∷ [])
    ∷ listed (number (pos 2) ∷ number (negsuc 2) ∷ number (negsuc 0) ∷ []) ∷ previous_line ∷ []

abbrev pub case_with : Meaning → Meaning → Fraction → Case
case_with a b z = record { a = a; b = b; z = z }

-- 2^n: a = b = 1, z = 2, c = 1
powers_of_two_solve : Solves (case_equation recurrence (case_with one one (of_whole (pos 2)))) one
unfolding pow lib.IntN.one
powers_of_two_solve = refl

power_of_two : solution_value (case_with one one (of_whole (pos 2))) one (pos 0) (pos 5) ≡ of_whole (pos 32)
power_of_two = refl

-- n!: a = n + 1, b = 1, z = 1, c = 1; or a = n, c = n, up to a factor
pub factorials_solve : Solves (case_equation recurrence (case_with next_line one (of_whole (pos 1)))) one
unfolding pow lib.IntN.one
factorials_solve = refl

factorial_of_five : solution_value (case_with next_line one (of_whole (pos 1))) one (pos 0) (pos 5) ≡ of_whole (pos 120)
factorial_of_five = refl

factorials_again : Solves (case_equation recurrence (case_with line one (of_whole (pos 1)))) line
unfolding pow lib.IntN.one
factorials_again = refl

same_as_before : SameQuotient (case_with line one (of_whole (pos 1))) line (case_with next_line one (of_whole (pos 1))) one
same_as_before = refl

-- 12 * 2! - 8 * 3! + 1 * 4! = 24 - 48 + 24 at n = 2
at_two : (left_side recurrence (solution_value (case_with next_line one (of_whole (pos 1))) one (pos 0)) (pos 2) (pos 2)).top ≡ pos 0
at_two = refl

-- for a = n + 1 and b = 1: P_1 = p_1 (n+1), P_2 = p_2 (n+1) (n+2)
pieces : case_polynomials next_line one 0 recurrence
    ≡ listed (number (pos 0) ∷ number (pos 2) ∷ number (pos 2) ∷ [])
    ∷ listed (number (pos 2) ∷ number (negsuc 0) ∷ number (negsuc 3) ∷ number (negsuc 0) ∷ [])
    ∷ listed (number (negsuc 1) ∷ number (negsuc 0) ∷ number (pos 2) ∷ number (pos 1) ∷ []) ∷ []
pieces = refl

-- the coefficients at n^3 are 0, -1, 1, so z = 1 is a root and z = 2 is none
root_one : lead_sum 3 (of_whole (pos 1)) 0 (case_polynomials next_line one 0 recurrence) ≡ pos 0
unfolding pow lib.IntN.one
root_one = refl

no_root_two : lead_sum 3 (of_whole (pos 2)) 0 (case_polynomials next_line one 0 recurrence) ≡ pos 2
unfolding pow lib.IntN.one
no_root_two = refl

-- the numbers of Fibonacci: z^2 = z + 1 has no root 1/2, as 1*1 - 1*2 - 1*4 = -5
fibonacci : lead_sum 0 (record { top = pos 1; bottom = pos 2 }) 0
    (case_polynomials one one 0 (listed (number (negsuc 0) ∷ []) ∷ listed (number (negsuc 0) ∷ []) ∷ one ∷ [])) ≡ negsuc 4
unfolding pow lib.IntN.one
fibonacci = refl

-- (n+1) c(n) - n c(n+1) = 0, which c = n solves: Q_0 = 1, Q_1 = -n, the indicial polynomial 1 - x has the root 1
abbrev pub small : List Meaning
small = next_line ∷ listed (number (pos 0) ∷ number (negsuc 0) ∷ []) ∷ []

small_solution : Solves small line
small_solution = refl

choices : (choose 5 2 ≡ 10) × (choose 4 0 ≡ 1) × (choose 2 3 ≡ 0)
choices = (refl, refl, refl)

parts : (difference_part small 0 ≡ one) × (difference_part small 1 ≡ listed (number (pos 0) ∷ number (negsuc 0) ∷ []))
parts = (refl, refl)

indicial : indicial_polynomial small (pos 0) ≡ listed (number (pos 1) ∷ number (negsuc 0) ∷ [])
indicial = refl

-- the constant 1 gives 1, n gives 0: one row
rows : rows_below (images small 0 2) 1 ≡ (number (pos 1) ∷ number (pos 0) ∷ []) ∷ []
rows = refl
