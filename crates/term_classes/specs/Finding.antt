-- The polynomial and the constant that a tree stands for, as they are found: its parts in the order of the text, the exponent of a power
-- before its base. The first that has none, or passes the limit of a constant exponent, decides.
use Rattle.std.specs.Prelude.{ℕ, ◌*◌, Bool, true, false, ◌&&◌, ◌||◌, if◌then◌else◌, ℤ, pos, negsuc, unsigned_abs, List, [], ◌∷◌, Option, Some, None}
use Rattle.ring_laws.specs.Meaning.{Meaning, items}
use Rattle.poly_laws.specs.Powers.{power_in, nonzero_magnitude}
use Rattle.poly_laws.specs.TwoVariables.{in_n_and_k, poly_n, poly_k, poly_power, constant_in_k}
use Rattle.steps.specs.Operations.{of_polynomial, of_fraction}
use Rattle.steps.specs.Found.{in_front, where_some, made_of}
use Rattle.steps.specs.Steps.{gives, makes, within_limit, ◌then◌}
use Rattle.steps.specs.TermFaults.{TermSteps}
use Rattle.steps.specs.declared.limits.LimitName.TheVariants.{Exponent}
use Rattle.hypergeometric.specs.Fraction.{Fraction, of_whole, fraction_negative, fraction_product}
use Rattle.hypergeometric.specs.Divisors.{lowest_terms, raised_fraction, size_of_top, size_of_bottom}
use Rattle.hypergeometric.specs.PrimitiveForm.{is_zero}
use Rattle.grammar.specs.Tree.{Tree, tree, Node, literal, variable_n, variable_k, sum_of, product_of, power_of, factorial_of, binomial_of, Parts, no_parts, part}
use Rattle.term_classes.specs.TreePolynomial.{constant_of}

-- the sum of polynomials in n and k, which is 0 of none
abbrev pub sum_of_polynomials : List Meaning → Meaning
sum_of_polynomials [] = in_n_and_k.nought
sum_of_polynomials (p ∷ ps) = in_n_and_k.sum p (sum_of_polynomials ps)

-- the product of polynomials in n and k, which is 1 of none
abbrev pub product_of_polynomials : List Meaning → Meaning
product_of_polynomials [] = in_n_and_k.unit
product_of_polynomials (p ∷ ps) = in_n_and_k.product p (product_of_polynomials ps)

-- the counterpart of a sum of polynomials
abbrev pub sizes_added : List Meaning → Meaning
sizes_added [] = in_n_and_k.nought
sizes_added (p ∷ ps) = in_n_and_k.sum (in_n_and_k.magnitude p) (sizes_added ps)

-- the counterpart of a product of polynomials, without the factors that are 0
abbrev pub sizes_multiplied : List Meaning → Meaning
sizes_multiplied [] = in_n_and_k.unit
sizes_multiplied (p ∷ ps) = in_n_and_k.product (nonzero_magnitude in_n_and_k p) (sizes_multiplied ps)

-- the counterpart of a power of a polynomial, in which a base 0 counts as 1
abbrev pub size_raised : Meaning → ℕ → Meaning
size_raised p e = power_in in_n_and_k (nonzero_magnitude in_n_and_k p) e

-- the polynomial of a part of a sum, negated where the part is subtracted
abbrev pub signed_polynomial : Bool → Meaning → Meaning
signed_polynomial true p = in_n_and_k.neg p
signed_polynomial false p = p

-- the base to a natural power, where there is a base, as the operation of the node at the place
abbrev pub raised_at : ℕ → ℕ → Option Meaning → TermSteps (Option Meaning)
raised_at at e = made_of at (λ p. of_polynomial (size_raised p e)) (λ p. poly_power p e)

-- a constant exponent of a polynomial is from 0 to 12: a negative one decides that there is none
abbrev pub where_natural : ℤ → (ℕ → TermSteps (Option Meaning)) → TermSteps (Option Meaning)
where_natural (pos e) f = f e
where_natural (negsuc e) f = gives None

abbrev mutual
  pub find_polynomial : Tree → TermSteps (Option Meaning)
  find_polynomial (tree at node) = find_node_polynomial at node

  pub find_node_polynomial : ℕ → Node → TermSteps (Option Meaning)
  find_node_polynomial at (literal c) = gives (Some (in_n_and_k.whole c))
  find_node_polynomial at variable_n = gives (Some poly_n)
  find_node_polynomial at variable_k = gives (Some poly_k)
  find_node_polynomial at (sum_of parts) =
      find_summands parts then (made_of at (λ ps. of_polynomial (sizes_added ps)) sum_of_polynomials)
  find_node_polynomial at (product_of parts) =
      find_factors parts then (made_of at (λ ps. of_polynomial (sizes_multiplied ps)) product_of_polynomials)
  find_node_polynomial at (power_of base e) = find_polynomial e then (λ p.
      where_some (constant_of p) (λ c. within_limit Exponent (unsigned_abs c) c then (λ c1.
      where_natural c (λ power. find_polynomial base then (raised_at at power)))))
  find_node_polynomial at (factorial_of t) = gives None
  find_node_polynomial at (binomial_of l m) = gives None

  -- the polynomials of the parts of a sum, with their signs
  pub find_summands : Parts → TermSteps (Option (List Meaning))
  find_summands no_parts = gives (Some [])
  find_summands (part turned t parts) = find_polynomial t then (λ p.
      where_some p (λ p1. find_summands parts then (λ ps. gives (in_front (signed_polynomial turned p1) ps))))

  -- those of the parts of a product; a part that is divided by decides that there is none
  pub find_factors : Parts → TermSteps (Option (List Meaning))
  find_factors no_parts = gives (Some [])
  find_factors (part true t parts) = gives None
  find_factors (part false t parts) = find_polynomial t then (λ p.
      where_some p (λ p1. find_factors parts then (λ ps. gives (in_front p1 ps))))

-- a fraction, and whether it is divided by
abbrev pub FractionFactor : Type 0
FractionFactor = Bool × Fraction

-- whether 0 is divided by
abbrev pub divides_by_zero : List FractionFactor → Bool
divides_by_zero [] = false
divides_by_zero (x ∷ xs) = (x.0 && is_zero x.1.top) || divides_by_zero xs

-- the factor itself, or the fraction that divides by it
abbrev pub factor_fraction : FractionFactor → Fraction
factor_fraction x = if x.0 then record { top = x.1.bottom; bottom = x.1.top } else x.1

-- the product of the factors, in which those that are divided by stand upside down; not in lowest terms
abbrev pub product_of_fractions : List FractionFactor → Fraction
product_of_fractions [] = of_whole (pos 1)
product_of_fractions (x ∷ xs) = fraction_product (factor_fraction x) (product_of_fractions xs)

-- the numerator of the counterpart of a product of fractions, in which a factor with the numerator 0 counts as 1
abbrev pub top_sizes : List FractionFactor → ℕ
top_sizes [] = 1
top_sizes (x ∷ xs) = size_of_top (factor_fraction x) * top_sizes xs

-- the denominator of the counterpart of a product of fractions, in which a factor with the denominator 0 counts as 1
abbrev pub bottom_sizes : List FractionFactor → ℕ
bottom_sizes [] = 1
bottom_sizes (x ∷ xs) = size_of_bottom (factor_fraction x) * bottom_sizes xs

-- the product in lowest terms, where nothing is divided by 0
abbrev pub product_made : ℕ → Option (List FractionFactor) → TermSteps (Option Fraction)
product_made at fs = where_some fs (λ xs. if divides_by_zero xs then gives None
    else makes at (of_fraction (top_sizes xs) (bottom_sizes xs)) (Some (lowest_terms (product_of_fractions xs))))

-- f to a constant power, where 0 isn't raised to a negative one
abbrev pub power_made : ℕ → ℤ → Fraction → TermSteps (Option Fraction)
power_made at (negsuc e) f = if is_zero f.top then gives None
    else makes at (of_fraction (size_of_top (raised_fraction f (negsuc e))) (size_of_bottom (raised_fraction f (negsuc e))))
    (Some (lowest_terms (raised_fraction f (negsuc e))))
power_made at (pos e) f =
    makes at (of_fraction (size_of_top (raised_fraction f (pos e))) (size_of_bottom (raised_fraction f (pos e))))
    (Some (lowest_terms (raised_fraction f (pos e))))

-- a number as a fraction, where there is one
abbrev pub fraction_of_whole : Option ℤ → Option Fraction
fraction_of_whole None = None
fraction_of_whole (Some z) = Some (of_whole z)

-- the negative of a fraction, where there is one
abbrev pub negative_of : Option Fraction → Option Fraction
negative_of None = None
negative_of (Some f) = Some (fraction_negative f)

-- A tree is a constant where its polynomial is one; other cases are looked at only where it has no polynomial.
abbrev mutual
  pub find_constant : Tree → TermSteps (Option Fraction)
  find_constant (tree at node) = find_node_polynomial at node then (λ p. elim p as (λ _. TermSteps (Option Fraction)) [
    | Some q ↦ gives (fraction_of_whole (constant_in_k (items q)))
    | None ↦ find_node_constant at node
  ])

  pub find_node_constant : ℕ → Node → TermSteps (Option Fraction)
  find_node_constant at (sum_of (part true t no_parts)) = find_constant t then (λ f. gives (negative_of f))
  find_node_constant at (product_of parts) = find_constants parts then (product_made at)
  find_node_constant at (power_of base e) = find_polynomial e then (λ p.
      where_some (constant_of p) (λ c. within_limit Exponent (unsigned_abs c) c then (λ c1.
      find_constant base then (λ f. where_some f (power_made at c)))))
  find_node_constant at node = gives None

  pub find_constants : Parts → TermSteps (Option (List FractionFactor))
  find_constants no_parts = gives (Some [])
  find_constants (part turned t parts) = find_constant t then (λ f.
      where_some f (λ f1. find_constants parts then (λ fs. gives (in_front (turned, f1) fs))))
