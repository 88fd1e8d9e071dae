-- The forms that one item of a term gives to the pieces at an order J: a factorial above or below, a denominator.
use Rattle.std.specs.Prelude.{ℕ, zero, suc, cond, nat_eq, ℤ, pos, negsuc, ◌-ℤ◌, ◌*ℤ◌, unsigned_abs, List, [], ◌∷◌, ◌++◌, map}
use Rattle.hypergeometric.specs.LinearForm.{LinearForm, Factor}
use Rattle.hypergeometric.specs.FactorLists.{factor_with}
use Rattle.hypergeometric.specs.PrimitiveForm.{is_zero}
use Rattle.term_pieces.specs.Products.{form_plus, at_later_n, at_later_k, forms_above, forms_below}

-- the part of a number below 0
abbrev pub negative_part : ℤ → ℤ
negative_part (pos m) = pos 0
negative_part (negsuc m) = negsuc m

-- the part of a number above 0
abbrev pub positive_part : ℤ → ℤ
positive_part (pos m) = pos m
positive_part (negsuc m) = pos 0

-- a form at the n from n to n + J at which it is least
abbrev pub least_of : ℕ → LinearForm → LinearForm
least_of order f = form_plus f (negative_part f.n_slope *ℤ pos order)

-- a form at the n from n to n + J at which it is greatest
abbrev pub greatest_of : ℕ → LinearForm → LinearForm
greatest_of order f = form_plus f (positive_part f.n_slope *ℤ pos order)

-- from each factor of a list, the factors of others
abbrev pub from_each : (Factor → List Factor) → List Factor → List Factor
from_each g [] = []
from_each g (x ∷ xs) = g x ++ from_each g xs

-- a form at n, n + 1, .., n + j
abbrev pub shifts_up_to : ℕ → Factor → List Factor
shifts_up_to zero x = x ∷ []
shifts_up_to (suc j) x = shifts_up_to j x ++ (factor_with (at_later_n x.form (pos (suc j))) x.power ∷ [])

-- the same but for the one at n + j
abbrev pub shifts_but : ℕ → ℕ → Factor → List Factor
shifts_but j zero x = cond (nat_eq j 0) [] (x ∷ [])
shifts_but j (suc i) x = shifts_but j i x ++ cond (nat_eq j (suc i)) [] (factor_with (at_later_n x.form (pos (suc i))) x.power ∷ [])

-- a denominator counts at each n from n to n + J, and once where it has no n
abbrev pub counted : ℕ → Factor → List Factor
counted order x = cond (is_zero x.form.n_slope) (x ∷ []) (shifts_up_to order x)

-- the same without the one at n + j
abbrev pub counted_but : ℕ → ℕ → Factor → List Factor
counted_but order j x = cond (is_zero x.form.n_slope) [] (shifts_but j order x)

-- A! at n + j over the factorial of the least of A
abbrev pub above_least : ℕ → ℕ → Factor → List Factor
above_least order j x =
    forms_above (least_of order x.form) (unsigned_abs (x.form.n_slope *ℤ pos j -ℤ negative_part x.form.n_slope *ℤ pos order)) x.power

-- the factorial of the greatest of U over U! at n + j
abbrev pub below_greatest : ℕ → ℕ → Factor → List Factor
below_greatest order j x = forms_above (at_later_n x.form (pos j))
    (unsigned_abs (positive_part x.form.n_slope *ℤ pos order -ℤ x.form.n_slope *ℤ pos j)) x.power

-- each form at k + 1
abbrev pub at_next_k : List Factor → List Factor
at_next_k xs = map (λ x. factor_with (at_later_k x.form (pos 1)) x.power) xs

-- (f + 1) .. (f + m) for a slope m of at least 0
abbrev pub rising_where : ℤ → LinearForm → ℕ → List Factor
rising_where (pos m) f power = forms_above f m power
rising_where (negsuc m) f power = []

-- f (f - 1) .. (f - m + 1) for a slope -m below 0
abbrev pub falling_where : ℤ → LinearForm → ℕ → List Factor
falling_where (pos m) f power = []
falling_where (negsuc m) f power = forms_below f (suc m) power

-- what a factorial above gives to q0
abbrev pub rising_up : ℕ → Factor → List Factor
rising_up order x = rising_where x.form.k_slope (least_of order x.form) x.power

-- what a factorial above gives to r0
abbrev pub falling_up : ℕ → Factor → List Factor
falling_up order x = falling_where x.form.k_slope (least_of order x.form) x.power

-- what a factorial below gives to r0
abbrev pub rising_down : ℕ → Factor → List Factor
rising_down order x = rising_where x.form.k_slope (greatest_of order x.form) x.power

-- what a factorial below gives to q0
abbrev pub falling_down : ℕ → Factor → List Factor
falling_down order x = falling_where x.form.k_slope (greatest_of order x.form) x.power

-- the form, where it has a k
abbrev pub with_k : Factor → List Factor
with_k x = cond (is_zero x.form.k_slope) [] (x ∷ [])

-- the form, where it has no k
abbrev pub without_k : Factor → List Factor
without_k x = cond (is_zero x.form.k_slope) (x ∷ []) []

-- what a denominator gives to q0
abbrev pub cleared_over : ℕ → Factor → List Factor
cleared_over order x = from_each with_k (counted order x)

-- what a denominator gives to r0
abbrev pub later_over : ℕ → Factor → List Factor
later_over order x = from_each with_k (at_next_k (counted order x))

-- what the carrier keeps of a denominator
abbrev pub kept_over : ℕ → Factor → List Factor
kept_over order x = from_each without_k (counted order x)
