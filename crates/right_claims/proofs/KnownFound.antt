-- The order 1 of the binomial coefficient, known from elsewhere: -2 F(n,k) + F(n+1,k) = G(n,k+1) - G(n,k) with Y = -1 and no poles.
use Rattle.std.proofs.Common.{◌≡◌, ℕ, ◌<◌, ◌≤◌, [], ◌∷◌, List, refl, arith, inl, inr}
use Rattle.std.proofs.lemmas.Int.{ints}
use Rattle.std.specs.Prelude.{pos, negsuc, Some}
use Rattle.ring_laws.specs.Meaning.{Meaning, number, listed}
use Rattle.poly_laws.specs.Values.{level}
use Rattle.poly_laws.proofs.Equal.{level_laws}
use Rattle.division_laws.specs.Polynomials.{Polynomial}
use Rattle.kernel_laws.specs.Rows.{entry_at}
use Rattle.kernel_laws.specs.Pivots.{IsPivotColumn}
use Rattle.kernel_laws.specs.Reduction.{bare}
use Rattle.kernel_laws.specs.Answers.{IsFirstFree}
use Rattle.key_laws.specs.DegreeBounds.{IsDegreeBound}
use Rattle.key_laws.specs.KeyEquation.{KeyEquation}
use Rattle.key_laws.proofs.Degrees.{greatest_degree}
use Rattle.key_laws.proofs.FindingBounds.{bound_by_degrees}
use Rattle.hypergeometric.specs.Fraction.{of_whole}
use Rattle.hypergeometric.specs.ProperTerm.{ProperTerm}
use Rattle.hypergeometric.specs.Claim.{Claim}
use Rattle.hypergeometric.specs.Forms.{form_with}
use Rattle.hypergeometric.specs.Products.{list_polynomial}
use Rattle.term_pieces.specs.NormalForm.{Normal}
use Rattle.pole_laws.specs.Orders.{sides_of, tops_of}
use Rattle.right_claims.specs.Cancelling.{all_done, of_nonzero}
use Rattle.right_claims.specs.Claims.{Range}
use Rattle.right_claims.specs.KeySolutions.{q_of, b_of, rows_of_key, IsVectorByTheSteps, IsSigned}
use Rattle.right_claims.specs.Orders.{IsLeftBy, IsFoundOrder}
use Rattle.right_claims.proofs.KnownRows.{const, rows}
use Rattle.right_claims.proofs.KnownReducedRows.{fifth_row}
use Rattle.right_claims.proofs.KnownSettings.{binomial, once, pieces_at_one, normal as normal_at, form, setting_at_one}
use Rattle.right_claims.proofs.KnownSteps.{pivots, no_pivot, vector_by_steps}

abbrev normal : Normal
normal = normal_at (negsuc 0)

-- n!/((k-1)! (n-k+1)!)
abbrev carrier : ProperTerm
carrier = record {
  poly = (level 2).ops.unit;
  scale = of_whole (pos 1);
  n_base = of_whole (pos 1);
  k_base = of_whole (pos 1);
  up = once (pos 1) (pos 0) (pos 0) ∷ [];
  down = once (pos 0) (pos 1) (negsuc 0) ∷ once (pos 1) (negsuc 0) (pos 1) ∷ [];
  over = [];
  guard = [];
}

-- a = -2 and 1, Y = -1, no poles, and the ratio k over n - k + 1
abbrev pub claim : Claim
claim = record {
  multipliers = const (negsuc 1) ∷ const (pos 1) ∷ [];
  carrier = carrier;
  y = listed (const (negsuc 0) ∷ []);
  poles = [];
  ratio_top = record { scale = pos 1; factors = once (pos 0) (pos 1) (pos 0) ∷ [] };
  ratio_bottom = record { scale = negsuc 0; factors = once (negsuc 0) (pos 1) (negsuc 0) ∷ [] };
}

-- from 0 to n
abbrev pub range : Range
range = Some (form_with (pos 0) (pos 0) (pos 0), form_with (pos 1) (pos 0) (pos 0))

-- q(k) = n - k + 1, r(k-1) = k, and the sides n - k + 1 and n + 1
abbrev q_in : Polynomial (level 1)
q_in = (q_of normal, refl)

abbrev b_in : Polynomial (level 1)
b_in = (b_of normal, refl)

abbrev sides : List Meaning
sides = listed (listed (number (pos 1) ∷ number (pos 1) ∷ []) ∷ const (negsuc 0) ∷ [])
    ∷ listed (listed (number (pos 1) ∷ number (pos 1) ∷ []) ∷ []) ∷ []

known_sides : sides_of normal (tops_of pieces_at_one 1) ≡ sides
known_sides = refl

-- the leading coefficients -1 and 1 differ, and the sides have the degree 1: the bound is 0
is_bound : IsDegreeBound (level 1).ops (q_of normal) (b_of normal) sides (Some 0)
is_bound = record {
  degree = 1;
  is_degree = greatest_degree (level 1) (level_laws 1) (q_in ∷ b_in ∷ []) 1 refl;
  bounds = bound_by_degrees (level 1).ops (q_of normal) (b_of normal) sides 1 (λ e. cc) (Some 0)
      (1, greatest_degree (level 1) (level_laws 1) sides_in 1 refl, refl);
}
  where
    sides_in : List (Polynomial (level 1))
    sides_in = (listed (listed (number (pos 1) ∷ number (pos 1) ∷ []) ∷ const (negsuc 0) ∷ []), refl)
        ∷ (listed (listed (number (pos 1) ∷ number (pos 1) ∷ []) ∷ []), refl) ∷ []

-- the rows of k^1 and k^0
known_rows : rows_of_key normal (tops_of pieces_at_one 1) 1 ≡ rows
known_rows = refl

-- of the columns of multipliers the first is a pivot's, and the second free
first_free : IsFirstFree 3 1 pivots 2
first_free = record {
  free = record { within = omega arith; free = no_pivot };
  from = omega arith;
  before = before;
}
  where
    before : (j : ℕ) → 1 ≤ j → j < 2 → IsPivotColumn j pivots
    before j a b = inr (inl (omega (arith, a, b)))

by_steps : IsVectorByTheSteps normal (tops_of pieces_at_one 1) 2 (Some 0) 2 fifth_row
by_steps = record { is_bound = is_bound; by_steps = vector_by_steps; first_free = first_free }

known_sign : IsSigned (bare (level 1) fifth_row) (bare (level 1) fifth_row) 2
known_sign = record { is = inl refl; positive = omega (arith, ints) }

left_by : IsLeftBy pieces_at_one normal (tops_of pieces_at_one 1) 2 claim
unfolding lib.IntN.pow lib.IntN.one
left_by = record {
  bound = Some 0;
  free = 2;
  vector = bare (level 1) fifth_row;
  chosen = record { row = fifth_row; by_steps = by_steps; signed = known_sign };
  goes_with = record { carrier = refl; ratio_top = refl; ratio_bottom = refl };
  multipliers_are = refl;
  leaves = of_nonzero (λ e. cc) all_done;
}

-- so the claim `found 1` is right
pub found_at_one : IsFoundOrder binomial 1 (form (negsuc 0)) claim range
found_at_one = record {
  pieces = pieces_at_one;
  normal = normal;
  setting = setting_at_one;
  left_by = left_by;
  range_is = refl;
}

-- Y and the multipliers solve the key equation
known_solution : KeyEquation (level 1).ops (q_of normal) (list_polynomial normal.r) sides claim.y (entry_at (level 1).ops claim.multipliers)
known_solution = refl
