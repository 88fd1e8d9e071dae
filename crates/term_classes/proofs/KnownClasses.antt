-- Worked classes and refusals.
use Rattle.std.specs.Prelude.{◌≡◌, ℕ, ℤ, pos, negsuc, Bool, true, false, [], ◌∷◌, Result, Ok, Err, refl}
use lib.IntN.{pow}
use Rattle.poly_laws.specs.TwoVariables.{poly_k}
use Rattle.steps.specs.Steps.{limit}
use Rattle.steps.specs.TermFaults.{TermRefusal, improper}
use Rattle.steps.specs.declared.limits.LimitName.TheVariants.{Exponent, Factors, Slope, Offset}
use Rattle.hypergeometric.specs.Fraction.{Fraction, of_whole}
use Rattle.hypergeometric.specs.LinearForm.{LinearForm}
use Rattle.hypergeometric.specs.ProperTerm.{ProperTerm}
use Rattle.hypergeometric.specs.FactorLists.{factor_with}
use Rattle.hypergeometric.specs.Divisors.{greatest_common_divisor, lowest_terms}
use Rattle.hypergeometric.specs.PrimitiveForm.{content_of_form, primitive_form}
use Rattle.hypergeometric.specs.Forms.{form_with}
use Rattle.grammar.specs.Tree.{Tree, tree, Node, literal, variable_n, variable_k, sum_of, product_of, power_of, factorial_of, binomial_of, Parts, no_parts, part}
use Rattle.term_classes.specs.Walk.{unit_term, with_poly, with_scale, with_n_base, with_k_base, with_lists, class_of, class_of_quotient}

abbrev n_at : ℕ → Tree
n_at at = tree at variable_n

abbrev k_at : ℕ → Tree
k_at at = tree at variable_k

abbrev number_at : ℕ → ℕ → Tree
number_at at c = tree at (literal (pos c))

abbrev both : Tree → Bool → Tree → Parts
both l turned m = part false l (part turned m no_parts)

abbrev fraction : ℤ → ℤ → Fraction
fraction a b = record { top = a; bottom = b }

abbrev class : Tree → Result ProperTerm TermRefusal
class t = (class_of t).outcome

abbrev form_k : LinearForm
form_k = form_with (pos 0) (pos 1) (pos 0)

known_divisors : (greatest_common_divisor 12 18 ≡ 6) × (greatest_common_divisor 0 7 ≡ 7) × (greatest_common_divisor 0 0 ≡ 0)
known_divisors = (refl, refl, refl)

known_lowest : (lowest_terms (fraction (pos 6) (negsuc 3)) ≡ fraction (negsuc 2) (pos 2)) ×
    (lowest_terms (fraction (pos 0) (negsuc 4)) ≡ of_whole (pos 0))
known_lowest = (refl, refl)

-- 2*k, -6*n+4*k and 4-2*n
known_contents : (content_of_form (form_with (pos 0) (pos 2) (pos 0)) ≡ pos 2)
    × (primitive_form (form_with (pos 0) (pos 2) (pos 0)) ≡ form_k)
    × (content_of_form (form_with (negsuc 5) (pos 4) (pos 0)) ≡ pos 2)
    × (primitive_form (form_with (negsuc 1) (pos 0) (pos 4)) ≡ form_with (pos 1) (pos 0) (negsuc 1))
known_contents = (refl, refl, refl, refl)

-- n^k
power_of_n : class (tree 1 (power_of (n_at 0) (k_at 2))) ≡ Err (improper 4 1)
power_of_n = refl

-- k^13
high_power : class (tree 1 (power_of (k_at 0) (number_at 2 13))) ≡ Err (limit Exponent 13)
high_power = refl

-- (k/0)^0 and 0^0 are the term 1
power_zero : (class (tree 5 (power_of (tree 2 (product_of (both (k_at 1) true (number_at 3 0)))) (number_at 6 0))) ≡ Ok unit_term)
    × (class (tree 1 (power_of (number_at 0 0) (number_at 2 0))) ≡ Ok unit_term)
power_zero = (refl, refl)

-- binomial(k,k), whose k! stands above and below
binomial_of_same : class (tree 0 (binomial_of (k_at 9) (k_at 11)))
    ≡ Ok (with_lists [] (factor_with (form_with (pos 0) (pos 0) (pos 0)) 1 ∷ []) [] (factor_with form_k 1 ∷ []) unit_term)
binomial_of_same = refl

-- k! divided by k!
quotient_of_same : (class_of_quotient (tree 1 (factorial_of (k_at 0))) (tree 1 (factorial_of (k_at 0)))).outcome
    ≡ Ok (with_lists [] [] [] (factor_with form_k 1 ∷ []) unit_term)
quotient_of_same = refl

-- k^13, of which the name, the sign of the power and the exponent stand at three places
abbrev k_to_13 : ℕ → ℕ → ℕ → Tree
k_to_13 base at exponent = tree at (power_of (k_at base) (number_at exponent 13))

abbrev three : Bool → Bool → Tree → Tree → Tree → Node
three second third l m r = product_of (part false l (part second m (part third r no_parts)))

-- (k^13*2/3+1) and (2/3*k^13+1): the parts are sought in the order of the text
order_of_parts : (class (tree 9 (sum_of (both (tree 5 (three false true (k_to_13 1 2 3) (number_at 6 2) (number_at 8 3))) false (number_at 10 1))))
    ≡ Err (limit Exponent 13))
    × (class (tree 9 (sum_of (both (tree 2 (three true false (number_at 1 2) (number_at 3 3) (k_to_13 5 6 7))) false (number_at 10 1))))
    ≡ Err (improper 6 9))
order_of_parts = (refl, refl)

-- n^(k^13), (3/0*k^13)^k and (10^30)!: an exponent is sought before all else, and all parts of a product before the test of 0
limits_first : (class (tree 1 (power_of (n_at 0) (k_to_13 3 4 5))) ≡ Err (limit Exponent 13))
    × (class (tree 11 (power_of (tree 2 (three true false (number_at 1 3) (number_at 3 0) (k_to_13 5 6 7))) (k_at 12)))
    ≡ Err (limit Exponent 13))
    × (class (tree 7 (factorial_of (tree 3 (power_of (number_at 1 10) (number_at 4 30))))) ≡ Err (limit Exponent 30))
limits_first = (refl, refl, refl)

abbrev factorial_to_12 : ℕ → Tree → Tree
factorial_to_12 at t = tree at (power_of (tree at (factorial_of t)) (number_at at 12))

-- k!^12*n!^12/(k+1)
many_factors : class (tree 5 (three false true (factorial_to_12 1 (k_at 0)) (factorial_to_12 7 (n_at 6))
    (tree 14 (sum_of (both (k_at 13) false (number_at 15 1))))))
    ≡ Err (limit Factors 25)
many_factors = refl

abbrev half_of_one_over : LinearForm → ProperTerm
half_of_one_over l = with_scale (fraction (pos 1) (pos 2)) (with_lists [] [] (factor_with l 1 ∷ []) [] unit_term)

-- 1/(2*k-4) and 1/(k+k): the denominator is primitive
primitive_denominators : (class (tree 1 (product_of (both (number_at 0 1) true
    (tree 6 (sum_of (both (tree 4 (product_of (both (number_at 3 2) false (k_at 5)))) true (number_at 7 4)))))))
    ≡ Ok (half_of_one_over (form_with (pos 0) (pos 1) (negsuc 1))))
    × (class (tree 1 (product_of (both (number_at 0 1) true (tree 4 (sum_of (both (k_at 3) false (k_at 5))))))) ≡ Ok (half_of_one_over form_k))
unfolding pow lib.IntN.one
primitive_denominators = (refl, refl)

-- 2^(3-k)*3^n*k
exponentials : class (tree 7 (three false false (tree 1 (power_of (number_at 0 2) (tree 4 (sum_of (both (number_at 3 3) true (k_at 5))))))
    (tree 9 (power_of (number_at 8 3) (n_at 10))) (k_at 12)))
    ≡ Ok (with_poly poly_k (with_scale (of_whole (pos 8)) (with_n_base (of_whole (pos 3)) (with_k_base (fraction (pos 1) (pos 2)) unit_term))))
unfolding pow lib.IntN.one
exponentials = refl

-- 2^(4/2), whose exponent has no polynomial, and 2^(n*k)
other_exponents : (class (tree 1 (power_of (number_at 0 2) (tree 4 (product_of (both (number_at 3 4) true (number_at 5 2)))))) ≡ Err (improper 5 4))
    × (class (tree 1 (power_of (number_at 0 2) (tree 4 (product_of (both (n_at 3) false (k_at 5)))))) ≡ Err (improper 5 4))
other_exponents = (refl, refl)

-- (n*k)!, (2-3)!, 1/0, 1/(n*k), k!+1 and 0*k
reasons : (class (tree 5 (factorial_of (tree 2 (product_of (both (n_at 1) false (k_at 3)))))) ≡ Err (improper 1 2))
    × (class (tree 5 (factorial_of (tree 2 (sum_of (both (number_at 1 2) true (number_at 3 3)))))) ≡ Err (improper 2 2))
    × (class (tree 1 (product_of (both (number_at 0 1) true (number_at 2 0)))) ≡ Err (improper 3 2))
    × (class (tree 1 (product_of (both (number_at 0 1) true
    (tree 4 (sum_of (both (n_at 3) false (tree 6 (product_of (both (n_at 5) false (k_at 7))))))))))
    ≡ Err (improper 3 4))
    × (class (tree 2 (sum_of (both (tree 1 (factorial_of (k_at 0))) false (number_at 3 1)))) ≡ Err (improper 6 2))
    × (class (tree 1 (product_of (both (number_at 0 0) false (k_at 2)))) ≡ Err (improper 7 0))
reasons = (refl, refl, refl, refl, refl, refl)

-- binomial(2,3): the difference of its arguments is a negative constant
binomial_refused : class (tree 0 (binomial_of (number_at 9 2) (number_at 11 3))) ≡ Err (improper 2 0)
binomial_refused = refl

-- (9*k)! and (k+1000001)!
limits_of_arguments : (class (tree 5 (factorial_of (tree 2 (product_of (both (number_at 1 9) false (k_at 3)))))) ≡ Err (limit Slope 9))
    × (class (tree 11 (factorial_of (tree 2 (sum_of (both (k_at 1) false (number_at 3 1000001)))))) ≡ Err (limit Offset 1000001))
limits_of_arguments = (refl, refl)
