-- Known steps: what comes out of them, and when they are too large.
use Rattle.std.proofs.Common.{◌≡◌, ℕ, zero, suc, ◌+◌, ◌^◌, ◌-◌, ◌<◌, [], ◌∷◌, refl, sym, subst, arith, get_or}
use Rattle.std.specs.Prelude.{pos, Ok, Err}
use Rattle.ring_laws.specs.Meaning.{number, listed}
use Rattle.steps.specs.declared.limits.LimitName.{LimitName}
use Rattle.steps.specs.declared.limits.LimitName.TheVariants.{Factors, Slope, Offset, Exponent, Order, Degree, MatchShifts, Columns, HyperPairs, BoxSide}
use Rattle.steps.specs.declared.faults.StepFault.TheVariants as engine
use Rattle.steps.specs.declared.faults.TermFault.TheVariants as term
use Rattle.steps.specs.Operations.{Operation, of_number, of_polynomial, of_fraction, IsInBounds, HasTooLarge}
use Rattle.steps.specs.Steps.{limit, makes, refuses, within_limit, ◌then◌}
use Rattle.steps.specs.Answers.{HasCause, Answers}
use Rattle.steps.specs.TermFaults.{TermSteps, improper, term_cause}
use Rattle.steps.specs.StepFaults.{EngineSteps, step_cause}
use Rattle.steps.proofs.AnswerLaws.{made_too_large}

-- each number by itself: the greatest in bounds, and the next
number_in : IsInBounds (of_number (2 ^ 127 - 1))
number_in = omega arith

number_out : ¬ IsInBounds (of_number (2 ^ 127))
number_out h = omega (arith, h)

fraction_in : IsInBounds (of_fraction (2 ^ 127 - 1) (2 ^ 127 - 1))
fraction_in = (omega arith, omega arith)

top_out : ¬ IsInBounds (of_fraction (2 ^ 127) 1)
top_out h = omega (arith, h.0)

bottom_out : ¬ IsInBounds (of_fraction 1 (2 ^ 127))
bottom_out h = omega (arith, h.1)

-- a polynomial of no coefficient, and one whose only coefficient is too large
polynomial_in : IsInBounds (of_polynomial (listed []))
polynomial_in = (omega arith, λ k. (omega arith, λ j. omega arith))

polynomial_out : ¬ IsInBounds (of_polynomial (listed (listed (number (pos 170141183460469231731687303715884105728) ∷ []) ∷ [])))
polynomial_out h = omega (arith, (h.1 0).1 0)

-- a count within its limit, and one above it, with what was counted
abbrev counted : LimitName → ℕ → TermSteps ℕ
counted name count = within_limit name count 7

kept : ((counted Factors 24).outcome ≡ Ok 7) × ((counted Slope 8).outcome ≡ Ok 7) × ((counted Offset 1000000).outcome ≡ Ok 7)
    × ((counted Exponent 12).outcome ≡ Ok 7) × ((counted Order 6).outcome ≡ Ok 7) × ((counted Degree 64).outcome ≡ Ok 7)
    × ((counted MatchShifts 256).outcome ≡ Ok 7) × ((counted Columns 48).outcome ≡ Ok 7) × ((counted HyperPairs 1024).outcome ≡ Ok 7)
    × ((counted BoxSide 256).outcome ≡ Ok 7)
kept = (refl, refl, refl, refl, refl, refl, refl, refl, refl, refl)

passed : ((counted Factors 25).outcome ≡ Err (limit Factors 25)) × ((counted Slope 9).outcome ≡ Err (limit Slope 9))
    × ((counted Offset 1000001).outcome ≡ Err (limit Offset 1000001)) × ((counted Exponent 13).outcome ≡ Err (limit Exponent 13))
    × ((counted Order 7).outcome ≡ Err (limit Order 7)) × ((counted Degree 65).outcome ≡ Err (limit Degree 65))
    × ((counted MatchShifts 301).outcome ≡ Err (limit MatchShifts 301)) × ((counted Columns 49).outcome ≡ Err (limit Columns 49))
    × ((counted HyperPairs 1025).outcome ≡ Err (limit HyperPairs 1025)) × ((counted BoxSide 257).outcome ≡ Err (limit BoxSide 257))
passed = (refl, refl, refl, refl, refl, refl, refl, refl, refl, refl)

-- the greatest count that is carried as it is, and the next two, which are carried as that
carried : ((counted Exponent (2 ^ 64 - 1)).outcome ≡ Err (limit Exponent 18446744073709551615))
    × ((counted Exponent (2 ^ 64)).outcome ≡ Err (limit Exponent 18446744073709551615))
    × ((counted Exponent (2 ^ 64 + 1)).outcome ≡ Err (limit Exponent 18446744073709551615))
carried = (refl, refl, refl)

-- Degrees that are counted before anything is multiplied: the limit, and never that it is too large.
abbrev degree_65 : EngineSteps ℕ
degree_65 = within_limit Degree 65 0

abbrev counted_first : EngineSteps ℕ
counted_first = degree_65 then (λ x. makes tt (of_number (2 ^ 127)) 1)

limit_first : Answers step_cause (λ z. z) counted_first (Err (engine.Limit Degree 65))
limit_first = refl

never_too_large : ¬ HasCause counted_first (step_cause engine.TooLarge)
never_too_large h = omega (arith, h.2)

-- where it is multiplied first, it may be either, but nothing is given
abbrev multiplied : EngineSteps ℕ
multiplied = makes tt (of_number (2 ^ 127)) 1

abbrev made_first : EngineSteps ℕ
made_first = multiplied then (λ x. degree_65)

either : Answers step_cause (λ z. z) made_first (Err (engine.Limit Degree 65)) × HasCause made_first (step_cause engine.TooLarge)
either = (refl, made_too_large tt (of_number (2 ^ 127)) number_out)

not_given : (x : ℕ) → ¬ Answers step_cause (λ z. z) made_first (Ok x)
not_given x h = cc

-- the one operation of a list
only_one : {P : Type 0} (first : Operation P) (at : P) → HasTooLarge (first ∷ []) at → (first.place ≡ at) × ¬ IsInBounds first.counterpart
only_one {P} first at h = by h.0 h.1 h.2 h.3 h.4
  where
    by : (i : ℕ) (o : Operation P) → i < 1 → get_or (first ∷ []) i o ≡ o → (o.place ≡ at) × ¬ IsInBounds o.counterpart
        → (first.place ≡ at) × ¬ IsInBounds first.counterpart
    by zero o below e p = subst (λ (o : Operation P). (o.place ≡ at) × ¬ IsInBounds o.counterpart) (sym e) p
    by (suc i) o below e p = absurd (omega (arith, below))

-- an operation in bounds gives what it makes, and is never too large
abbrev in_bounds : TermSteps ℕ
in_bounds = makes 3 (of_number (2 ^ 127 - 1)) 1

given : Answers term_cause (λ z. z) in_bounds (Ok 1)
given = refl

small : (at : ℕ) → ¬ HasCause in_bounds (term_cause (term.TooLarge at))
small at h = (only_one (record { place = 3; counterpart = of_number (2 ^ 127 - 1) }) at h).1 number_in

-- one that isn't in bounds is too large at its own place alone
abbrev out_of_bounds : TermSteps ℕ
out_of_bounds = makes 3 (of_number (2 ^ 127)) 1

at_its_place : HasCause out_of_bounds (term_cause (term.TooLarge 3)) × ¬ HasCause out_of_bounds (term_cause (term.TooLarge 4))
at_its_place = (
  made_too_large 3 (of_number (2 ^ 127)) number_out,
  λ h. omega (arith, (only_one (record { place = 3; counterpart = of_number (2 ^ 127) }) 4 h).0),
)

-- the first of two refusals, with its own reason and place
abbrev refused : TermSteps ℕ
refused = refuses (improper 4 9)

abbrev refused_twice : TermSteps ℕ
refused_twice = refused then (λ x. within_limit Exponent 13 x)

first_refusal : Answers term_cause (λ z. z) refused_twice (Err (term.Improper 4 9))
first_refusal = refl

not_the_second : ¬ Answers term_cause (λ z. z) refused_twice (Err (term.Limit Exponent 13))
not_the_second h = cc
