-- The polynomials in n of a recurrence's trees, or the first refusal.
use Rattle.std.specs.Prelude.{◌-◌, if◌then◌else◌, nat_eq, List, [], ◌∷◌, length, Option, Some, None}
use Rattle.ring_laws.specs.Meaning.{Meaning, items, listed}
use Rattle.steps.specs.Steps.{gives, refuses, within_limit, ◌then◌}
use Rattle.steps.specs.TermFaults.{improper, TermSteps}
use Rattle.steps.specs.declared.limits.LimitName.TheVariants.{Order}
use Rattle.grammar.specs.Tree.{Tree}
use Rattle.term_classes.specs.Finding.{find_polynomial}
use Rattle.term_classes.specs.Walk.{place_of}
use Rattle.term_classes.specs.NamesOfK.{place_of_k}

-- the polynomial in n that a polynomial without k is
abbrev pub in_n_alone : List Meaning → Meaning
in_n_alone [] = listed []
in_n_alone (c ∷ cs) = c

-- the polynomial of a tree without k as one in n; a tree that has none is refused for reason 6
abbrev pub polynomial_or_refused : Tree → Option Meaning → TermSteps Meaning
polynomial_or_refused t None = refuses (improper 6 (place_of t))
polynomial_or_refused t (Some p) = gives (in_n_alone (items p))

-- the polynomial in n of a tree, which is refused for reason 8 at its first k, and for reason 6 where it is no polynomial
abbrev pub find_coefficient : Tree → TermSteps Meaning
find_coefficient t = elim (place_of_k t) as (λ _. TermSteps Meaning) [
  | Some at ↦ refuses (improper 8 at)
  | None ↦ find_polynomial t then (polynomial_or_refused t)
]

-- the polynomials in n of the trees, one after another, up to the first refusal
abbrev pub find_coefficients : List Tree → TermSteps (List Meaning)
find_coefficients [] = gives []
find_coefficients (t ∷ ts) = find_coefficient t then (λ p. find_coefficients ts then (λ ps. gives (p ∷ ps)))

-- a polynomial that is 0 is refused at its tree
abbrev pub not_zero_at : Tree → Meaning → TermSteps Meaning
not_zero_at t p = if nat_eq (length (items p)) 0 then refuses (improper 7 (place_of t)) else gives p

-- the polynomials of a recurrence, refused for reason 7 at the first tree if the first polynomial is 0
abbrev pub first_not_zero : List Tree → List Meaning → TermSteps (List Meaning)
first_not_zero (t ∷ ts) (p ∷ ps) = not_zero_at t p then (λ q. gives (p ∷ ps))
first_not_zero ts ps = gives ps

-- the polynomials of a recurrence, refused for reason 7 at the last tree if the last polynomial is 0
abbrev pub last_not_zero : List Tree → List Meaning → TermSteps (List Meaning)
last_not_zero (t ∷ []) (p ∷ []) = not_zero_at t p then (λ q. gives (p ∷ []))
last_not_zero (t ∷ s ∷ ts) (p ∷ ps) = last_not_zero (s ∷ ts) ps then (λ qs. gives (p ∷ qs))
last_not_zero ts ps = gives ps

-- The polynomials of a recurrence of order at most 6, of which neither the first nor the last is 0.
abbrev pub find_recurrence : List Tree → TermSteps (List Meaning)
find_recurrence ts = within_limit Order (length ts - 1) ts then (λ ts1. find_coefficients ts then (λ ps.
    first_not_zero ts ps then (λ ps1. last_not_zero ts ps)))
