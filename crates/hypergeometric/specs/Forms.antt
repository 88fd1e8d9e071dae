-- Linear forms by their three numbers, their multiples and differences, and when one is another one at a later k.
use Rattle.std.specs.Prelude.{◌≡◌, ℕ, ℤ, pos, ◌*ℤ◌, unsigned_abs, ◌+◌, max, ◌-ℤ◌}
use Rattle.std.specs.Int.{◌∣◌}
use Rattle.hypergeometric.specs.Point.{Point, later_k}
use Rattle.hypergeometric.specs.LinearForm.{LinearForm, form_value}

-- n_slope * n + k_slope * k + offset
abbrev pub form_with : ℤ → ℤ → ℤ → LinearForm
form_with n_slope k_slope offset = record { n_slope = n_slope; k_slope = k_slope; offset = offset }

-- each number of the form times the factor
abbrev pub multiple : ℤ → LinearForm → LinearForm
multiple factor f = form_with (factor *ℤ f.n_slope) (factor *ℤ f.k_slope) (factor *ℤ f.offset)

-- f at k is g at k + h, at every point
abbrev pub IsMatchAt : LinearForm → LinearForm → ℕ → Type 0
IsMatchAt f g h = (p : Point) → form_value f p ≡ form_value g (later_k p (pos h))

-- d divides the three numbers, and every number that does divides d
pub record IsGreatestDivisor (f : LinearForm) (d : ℕ) : Type 0 where
  pub k_slope : d ∣ unsigned_abs f.k_slope
  pub n_slope : d ∣ unsigned_abs f.n_slope
  pub offset : d ∣ unsigned_abs f.offset
  pub greatest : (c : ℕ) → c ∣ unsigned_abs f.k_slope → c ∣ unsigned_abs f.n_slope → c ∣ unsigned_abs f.offset → c ∣ d

-- each number of the one less that of the other
abbrev pub form_difference : LinearForm → LinearForm → LinearForm
form_difference f g = form_with (f.n_slope -ℤ g.n_slope) (f.k_slope -ℤ g.k_slope) (f.offset -ℤ g.offset)

-- the greatest of the sums of their magnitudes, number by number
abbrev pub difference_size : LinearForm → LinearForm → ℕ
difference_size f g = max (unsigned_abs f.n_slope + unsigned_abs g.n_slope)
    (max (unsigned_abs f.k_slope + unsigned_abs g.k_slope) (unsigned_abs f.offset + unsigned_abs g.offset))
