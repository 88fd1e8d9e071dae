-- The rows of a walk from some step on, for the calls that take them there, and what an exponent is to a walk.
use Rattle.std.specs.Prelude.{ℕ, ℤ, ◌*ℤ◌, neg_ℤ, unsigned_abs, Bool, true, false, Option, Some, None, if◌then◌else◌}
use Rattle.ring_laws.specs.Meaning.{Meaning}
use Rattle.steps.specs.Found.{found}
use Rattle.steps.specs.Operations.{of_number}
use Rattle.steps.specs.Steps.{gives, makes, within_limit, ◌then◌}
use Rattle.steps.specs.TermFaults.{TermSteps}
use Rattle.steps.specs.declared.limits.LimitName.TheVariants as counts
use Rattle.hypergeometric.specs.LinearForm.{LinearForm}
use Rattle.hypergeometric.specs.ProperTerm.{ProperTerm}
use Rattle.hypergeometric.specs.PrimitiveForm.{is_zero}
use Rattle.hypergeometric.specs.Forms.{form_difference, difference_size}
use Rattle.grammar.specs.Tree.{Tree, Parts, no_parts, part}
use Rattle.term_classes.specs.TreePolynomial.{constant_of}
use Rattle.term_classes.specs.Forms.{linear_form_of, limited_form, limited_exponent}
use Rattle.term_classes.specs.Finding.{find_polynomial, find_constant}
use Rattle.term_classes.specs.Walk as w
use Rattle.term_walk.specs.Views.{wide_form_of}
use Rattle.term_walk.specs.declared.exponents.Exponent.{Exponent}
use Rattle.term_walk.specs.declared.exponents.Exponent.TheVariants as code

-- the constant 0; another constant, times the power of the walk; or the linear form that it is, if it is one, where it is no constant
pub data ExponentKind : Type 0 where
  zero_exponent : ExponentKind
  constant : ℤ → ExponentKind
  varying : Option LinearForm → ExponentKind

-- what an exponent of the code is to a walk
abbrev pub exponent_of : Exponent → ExponentKind
exponent_of code.Zero = zero_exponent
exponent_of (code.Constant power) = constant power.value
exponent_of (code.Varying form) = varying (found wide_form_of form)

-- what a constant exponent c is to a walk that takes the whole to a power: 0, or the power times c
abbrev pub constant_kind : ℤ → ℤ → ExponentKind
constant_kind power c = if is_zero c then zero_exponent else constant (power *ℤ c)

-- the limit of a constant exponent counts it times the power of the walk
abbrev pub exponent_told : ℤ → Option Meaning → TermSteps ExponentKind
exponent_told power p = elim (constant_of p) as (λ _. TermSteps ExponentKind) [
  | Some c ↦ within_limit counts.Exponent (unsigned_abs (power *ℤ c)) (constant_kind power c)
  | None ↦ gives (varying (linear_form_of p))
]

-- what the exponent with this tree is to a walk that takes the whole to a power
abbrev pub find_exponent_kind : Tree → ℤ → TermSteps ExponentKind
find_exponent_kind t power = find_polynomial t then (exponent_told power)

-- exactly one part, which is turned
abbrev pub is_one_turned : Parts → Bool
is_one_turned (part true t no_parts) = true
is_one_turned parts = false

-- a power whose exponent is no constant
abbrev pub exponential_left : ℕ → Tree → Tree → Option LinearForm → ℤ → ProperTerm → TermSteps ProperTerm
exponential_left at base e form power f = find_constant base then (λ b. w.base_or_refused at b then (λ b1.
    w.form_or_refused 5 e form then (λ l. limited_exponent l then (λ l1. w.times_exponential at b1 l power f))))

-- what is left of the walk over a power once its exponent is known
abbrev pub power_left : ℕ → Tree → Tree → ℤ → ProperTerm → ExponentKind → TermSteps ProperTerm
power_left at base e power f zero_exponent = gives f
power_left at base e power f (constant c) = w.walk base c f
power_left at base e power f (varying form) = exponential_left at base e form power f

-- what is left of the walk over a binomial coefficient of the forms l and m once these and d = l - m are within the limits
abbrev pub factorials_left : LinearForm → LinearForm → LinearForm → ℤ → ProperTerm → TermSteps ProperTerm
factorials_left l m d power f = w.with_factorial l power f then (λ g. w.with_factorial m (neg_ℤ power) g then (λ h.
    w.with_factorial d (neg_ℤ power) h))

-- what is left of the walk over a binomial coefficient of the forms l and m once d = l - m is found and none of them is a negative number
abbrev pub limits_left : LinearForm → LinearForm → LinearForm → ℤ → ProperTerm → TermSteps ProperTerm
limits_left l m d power f = limited_form l then (λ l2. limited_form m then (λ m2. limited_form d then (λ d2. factorials_left l m d power f)))

-- what is left of the walk over a binomial coefficient once its two forms are found and neither is a negative number
abbrev pub difference_left : ℕ → LinearForm → LinearForm → ℤ → ProperTerm → TermSteps ProperTerm
difference_left at l m power f = makes at (of_number (difference_size l m)) (form_difference l m) then
    (λ d. w.not_negative at d then (λ d1. limits_left l m d power f))
