-- The steps in which the constant of a power and of a sum is sought, where the tree has no polynomial.
use Rattle.std.specs.Prelude.{ℕ, ℤ, true, unsigned_abs, Option, Some, None}
use Rattle.steps.specs.Found.{where_some}
use Rattle.steps.specs.Steps.{gives, within_limit, ◌then◌}
use Rattle.steps.specs.TermFaults.{TermSteps}
use Rattle.steps.specs.declared.limits.LimitName.TheVariants.{Exponent}
use Rattle.hypergeometric.specs.Fraction.{Fraction}
use Rattle.grammar.specs.Tree.{Tree, Parts, no_parts, part}
use Rattle.term_classes.specs.TreePolynomial.{constant_of}
use Rattle.term_classes.specs.Finding.{find_polynomial, find_constant, power_made, negative_of}

-- a constant exponent within its limit
abbrev pub limited_constant : ℤ → TermSteps (Option ℤ)
limited_constant c = within_limit Exponent (unsigned_abs c) c then (λ c1. gives (Some c))

-- the constant that an exponent is, within its limit
abbrev pub find_exponent : Tree → TermSteps (Option ℤ)
find_exponent e = find_polynomial e then (λ p. where_some (constant_of p) limited_constant)

-- a base to a constant power
abbrev pub find_power : ℕ → Tree → ℤ → TermSteps (Option Fraction)
find_power at base c = find_constant base then (λ f. where_some f (power_made at c))

-- the parts of a sum, which has a constant of its own only where it is one part behind a leading minus
abbrev pub find_negative : Parts → TermSteps (Option Fraction)
find_negative (part true t no_parts) = find_constant t then (λ f. gives (negative_of f))
find_negative parts = gives None
