-- Steps to pieces that are known: which degrees are tested, in which order, and which operations are in bounds.
use Rattle.std.proofs.Common.{◌≡◌, ℕ, zero, suc, ◌^◌, [], ◌∷◌, refl, arith}
use Rattle.std.specs.Prelude.{pos, negsuc, Ok, Err}
use Rattle.ring_laws.specs.Meaning.{Meaning, number, listed, items}
use Rattle.poly_laws.specs.Lists.{coefficient_at}
use Rattle.poly_laws.specs.Values.{level}
use Rattle.steps.specs.declared.limits.LimitName.TheVariants.{Degree}
use Rattle.steps.specs.Operations.{of_polynomial, IsInBounds}
use Rattle.steps.specs.Steps.{limit}
use Rattle.hypergeometric.specs.Fraction.{of_whole}
use Rattle.hypergeometric.specs.Forms.{form_with}
use Rattle.hypergeometric.specs.FactorLists.{factor_with}
use Rattle.hypergeometric.specs.ProperTerm.{ProperTerm}
use Rattle.gosper_form.specs.PieceSteps.{degrees, each_within, sizes_at_later_n, carrier_size, pieces_steps}

-- (3/2)^n, with factorials above and below and with divisors
abbrev known : ProperTerm
known = record {
  poly = (level 2).ops.unit;
  scale = of_whole (pos 1);
  n_base = record { top = pos 3; bottom = pos 2 };
  k_base = of_whole (pos 1);
  up = factor_with (form_with (pos 1) (pos 0) (pos 0)) 1 ∷ [];
  down = factor_with (form_with (pos 0) (pos 1) (pos 0)) 1 ∷ factor_with (form_with (pos 1) (negsuc 0) (pos 0)) 1 ∷ [];
  over = [];
  guard = [];
}

-- (3/2)^n binomial(n,k) at the order 1: q0 and r0 have one form, p_0 has n - k + 1, and p_1 has n + 1, which has no k
known_degrees : degrees known 1 ≡ 1 ∷ 1 ∷ 1 ∷ 0 ∷ []
known_degrees = refl

-- ((8 k)!)^12 at the order 0
abbrev steep : ProperTerm
steep = record known { up = factor_with (form_with (pos 0) (pos 8) (pos 0)) 12 ∷ []; down = [] }

known_steep : degrees steep 0 ≡ 96 ∷ 0 ∷ 0 ∷ []
known_steep = refl

steep_refused : (pieces_steps steep 0).outcome ≡ Err (limit Degree 96)
steep_refused = refl

known_passed : (pieces_steps known 1).outcome ≡ Ok (tt {0})
known_passed = refl

-- the first degree above the limit is named, and not a greater one behind it
first_named : (each_within (64 ∷ 65 ∷ 96 ∷ [])).outcome ≡ Err (limit Degree 65)
first_named = refl

-- n at n + 1 is in bounds where its number is, and at n + 2 not where that is above a half
abbrev single : ℕ → Meaning
single c = listed (listed (number (pos 0) ∷ number (pos c) ∷ []) ∷ [])

shifted_out : ¬ IsInBounds (of_polynomial (sizes_at_later_n (single (2 ^ 126)) 2))
shifted_out h = omega (arith, (h.1 0).1 0)

shifted_in : IsInBounds (of_polynomial (sizes_at_later_n (single 1) 2))
shifted_in = (omega arith, row)
  where
    number_in : (j : ℕ) → (level 0).ops.Fits (coefficient_at (level 0).ops (items (coefficient_at (level 1).ops (items (sizes_at_later_n (single 1) 2)) 0)) j)
    number_in zero = omega arith
    number_in (suc zero) = omega arith
    number_in (suc (suc j)) = omega arith

    row : (k : ℕ) → (level 1).ops.Fits (coefficient_at (level 1).ops (items (sizes_at_later_n (single 1) 2)) k)
    row zero = (omega arith, number_in)
    row (suc k) = (omega arith, λ j. omega arith)

-- the number of the carrier of (3/2)^n at the order 1 is 1/2; a scale with a great denominator is out of bounds
carrier_in : IsInBounds (carrier_size known 1)
unfolding lib.IntN.pow lib.IntN.one
carrier_in = (omega arith, omega arith)

carrier_out : ¬ IsInBounds (carrier_size (record known { scale = record { top = pos 1; bottom = pos (2 ^ 126) } }) 1)
unfolding lib.IntN.pow lib.IntN.one
carrier_out h = omega (arith, h.1)
