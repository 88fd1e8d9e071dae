-- The words of the contracts of the printer's own functions.
use Rattle.std.specs.Prelude.{ℕ, Bool, true, false, ℤ, List, map}
use Rattle.ring_laws.specs.Meaning.{Meaning, number}
use Rattle.ring_laws.specs.declared.wholes.Whole.{Whole}
use Rattle.document_text.specs.Spelling.{Monomial, first_text, later_text}

-- a monomial in k alone
abbrev pub monomial_in_k : ℤ → ℕ → Monomial
monomial_in_k coefficient power = record { coefficient = coefficient; n_power = 0; k_power = power }

-- a monomial, at the front or later
abbrev pub placed_text : Bool → Monomial → List ℕ
placed_text true m = first_text m
placed_text false m = later_text m

-- numbers as coefficients
abbrev pub numbers : List Whole → List Meaning
numbers ws = map (λ w. number w.value) ws
